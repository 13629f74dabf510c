-- The answer is the held clause: token, its own chain, the others, and the length, in this order.
use mathlib.Core.Path.{sym, ◌∙◌}
use Prim.Native.Nat.{ℕ}
use borrow.Author.Tests.{eqb-true, eqb-false}
use Rattle.std.proofs.Common.{true≢false, le-ltb}
use Rattle.rules.specs.Record.{Queue}
use Rattle.rules.specs.Owning.{Owning}
use Rattle.views.specs.Tables.{queue_of}
use Rattle.tables.specs.Lent.{tables_read}
use Rattle.owns.specs.Owns.{owning_in}
use Rattle.owns.specs.Turns.{out_none, out_some}
use Rattle.owns.specs.Clauses.{held_past, held_out, held_short}
use Rattle.owns.proofs.held_one.Goals.{then-noted_at-eq0, else-noted_at-eq0, then-held-c, else-held-c}
use Rattle.owns.proofs.held_one.Goals as goal

pub returns-else-all_out_but : goal.returns-else-all_out_but
returns-else-all_out_but c =
    let q : Queue = queue_of c.args.c (tables_read c.args.t.now) in
    let t : ℕ = c.args.held.token in
    let o : Owning = owning_in c.args.c c.args.t.now c.args.own in
    c.if-all_out_but.false
    ∙ elim c.if-noted_at-eq0.branch [
      | then-noted_at-eq0 w ↦ elim c.if-held-c.branch [
        | then-held-c v ↦
            held_short o t c.args.held.len v.if-held-c.true
            (out_none q t v.noted_at.result v.if-held-c.true v.noted_at.ensures (eqb-true v.noted_at.result 0 (sym v.value-is ∙ w.if-noted_at-eq0.true)))
            (sym w.all_out_but.ensures ∙ sym w.value-is ∙ c.if-all_out_but.false)
        | else-held-c v ↦ absurd (true≢false (sym w.if-noted_at-eq0.true ∙ v.value-is ∙ le-ltb t c.args.c.n v.if-held-c.false))
      ]
      | else-noted_at-eq0 w ↦ elim c.if-held-c.branch [
        | then-held-c v ↦
            held_out o t c.args.held.len v.if-held-c.true
            (out_some q t v.noted_at.result v.if-held-c.true v.noted_at.ensures (eqb-false v.noted_at.result 0 (sym v.value-is ∙ w.if-noted_at-eq0.false)))
        | else-held-c v ↦ held_past o t c.args.held.len v.if-held-c.false
      ]
    ]
