-- `refusals::may_add` meets its contract: what refuses a call, then the list and the room for it.
use Rattle.std.proofs.Common.{◌≡◌, ◌∙◌, arith, sym, ap, length, true, false, not, cond}
use Rattle.std.proofs.lemmas.Bool.{not-true, not-false}
use Rattle.std.proofs.lemmas.Grind.{common_steps}
use Rattle.std.proofs.lemmas.Result.{err_from_is_err_and}
use Rattle.rules.specs.declared.Refusal.TheVariants.{InvalidParam, QueueFull, EmptyBuffer}
use Rattle.rules.specs.Refused.{refusal_number}
use Rattle.virtio.specs.Chain.{in_order}
use Rattle.views.specs.Tables.{queue_of}
use Rattle.tables.specs.Lent.{tables_read}
use Rattle.laws.specs.Allowed.{call_allowed}
use Rattle.refusals.specs.Checked.{sized}
use Rattle.refusals.specs.Told.{some_refusal, passed, failed}
use Rattle.refusals.specs.Refusals.{add_stops, add_none, add_mixed, add_full, add_last}
use Rattle.refusals.proofs.may_add.Goals.{In_ok-refuse_unless, In_ok-refuse_unless-2}
use Rattle.refusals.proofs.may_add.Goals as goal

pub returns-in_err-may_call : goal.returns-in_err-may_call
returns-in_err-may_call c =
    let q : _ = queue_of c.args.c (tables_read c.args.t.now) in
    let p = err_from_is_err_and c.from_residual.result c.from_residual.ensures.1 in
    rw (p.1, p.2) (add_stops q c.args.fit c.args.list.now _ c.in_err-may_call.ensures (some_refusal _))

pub returns-in_err-refuse_unless : goal.returns-in_err-refuse_unless
returns-in_err-refuse_unless c =
    let q : _ = queue_of c.args.c (tables_read c.args.t.now) in
    let p = err_from_is_err_and c.from_residual-in_err-refuse_unless.result c.from_residual-in_err-refuse_unless.ensures.1 in
    let f : _ = failed (not c.is_empty.result) InvalidParam _ c.in_err-refuse_unless.ensures in
    let e : c.is_empty.result ≡ true = not-false c.is_empty.result f.0 in
    let none : length c.args.list.now ≡ 0 = grind (arith, common_steps) in
    rw (p.1, p.2) (f.1 ∙ add_none q c.args.fit c.args.list.now (sym c.in_ok-may_call.ensures) none)

pub full-requires : goal.full-requires
full-requires c =
    let q : _ = queue_of c.args.c (tables_read c.args.t.now) in
    sized q (call_allowed q c.args.fit (sym c.in_ok-may_call.ensures)).well

-- the list has buffers, in order
some : (c : In_ok-refuse_unless) → length c.args.list.now ≡ 0 → ⊥
some c e = let t : not c.is_empty.result ≡ true = passed (not c.is_empty.result) InvalidParam (sym c.in_ok-refuse_unless.ensures) in grind (arith, common_steps)

ordered : (c : In_ok-refuse_unless-2) → in_order c.args.list.now ≡ true
ordered c = sym c.in_order.ensures ∙ passed c.in_order.result InvalidParam (sym c.in_ok-refuse_unless-2.ensures)

pub returns-in_err-refuse_unless-2 : goal.returns-in_err-refuse_unless-2
returns-in_err-refuse_unless-2 c =
    let q : _ = queue_of c.args.c (tables_read c.args.t.now) in
    let p = err_from_is_err_and c.from_residual-in_err-refuse_unless-2.result c.from_residual-in_err-refuse_unless-2.ensures.1 in
    let f : _ = failed c.in_order.result InvalidParam _ c.in_err-refuse_unless-2.ensures in
    rw (p.1, p.2) (f.1 ∙ add_mixed q c.args.fit c.args.list.now (sym c.in_ok-may_call.ensures) (some (goal.at.returns-in_err-refuse_unless-2 c).In_ok-refuse_unless) (sym c.in_order.ensures ∙ f.0))

pub returns-in_err-refuse_unless-3 : goal.returns-in_err-refuse_unless-3
returns-in_err-refuse_unless-3 c =
    let q : _ = queue_of c.args.c (tables_read c.args.t.now) in
    let p = err_from_is_err_and c.from_residual-in_err-refuse_unless-3.result c.from_residual-in_err-refuse_unless-3.ensures.1 in
    let f : _ = failed (not c.full.result) QueueFull _ c.in_err-refuse_unless-3.ensures in
    rw (p.1, p.2) (f.1 ∙ add_full q c.args.fit c.args.list.now (sym c.in_ok-may_call.ensures) (some (goal.at.returns-in_err-refuse_unless-3 c).In_ok-refuse_unless) (ordered (goal.at.returns-in_err-refuse_unless-3 c).In_ok-refuse_unless-2) (sym (c.full.ensures (tables_read c.args.t.now)) ∙ not-false c.full.result f.0))

pub returns : goal.returns
returns c =
    let q : _ = queue_of c.args.c (tables_read c.args.t.now) in
    let room : c.full.result ≡ false = not-true c.full.result (passed (not c.full.result) QueueFull (sym c.in_ok-refuse_unless-3.ensures)) in
    add_last q c.args.fit c.args.list.now (sym c.in_ok-may_call.ensures) (some (goal.at.returns c).In_ok-refuse_unless) (ordered (goal.at.returns c).In_ok-refuse_unless-2) (sym (c.full.ensures (tables_read c.args.t.now)) ∙ room) _
    (c.refuse_unless-4.ensures ∙ ap (λ b. cond b 0 (refusal_number EmptyBuffer)) c.none_empty.ensures)
