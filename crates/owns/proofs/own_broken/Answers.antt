-- `owns::own_broken` meets its contract: the queue's clauses, an open call, base and size, each chain its own buffer, and what is held.
use Rattle.std.proofs.Common.{◌≡◌, true, false, not, sym, ◌∙◌, arith}
use Rattle.std.proofs.lemmas.Bool.{not-true, not-false}
use Rattle.std.proofs.lemmas.Result.{err_from_is_err_and}
use Rattle.rules.specs.Record.{is_open}
use Rattle.rules.specs.WellFormed.{broken}
use Rattle.rules.specs.Owning.{own_clause, placed_clause}
use Rattle.views.specs.Tables.{queue_of}
use Rattle.tables.specs.Lent.{tables_read}
use Rattle.tables.specs.Ready.{ReadyRead}
use Rattle.refusals.specs.Checked.{ready_read}
use Rattle.owns.specs.declared.clause.OwnClause.TheVariants.{Record, Open, Store, OwnBuffers}
use Rattle.owns.specs.Numbers.{asked, refused, own_numbered}
use Rattle.owns.specs.Owns.{owning_in}
use Rattle.owns.specs.Clauses.{unbroken, placed_within, by_queue, by_open, by_placed, by_owned, by_last}
use Rattle.owns.proofs.own_broken.Goals.{In_ok-broken, In_ok-ask, In_ok-ask-2, In_ok-ask-3}
use Rattle.owns.proofs.own_broken.Goals as goal

-- what holds behind each clause
sound : (c : In_ok-broken) → broken (queue_of c.args.c (tables_read c.args.t.now)) ≡ 0
sound c = sym c.in_ok-broken.ensures

is_ready : (c : In_ok-broken) → ReadyRead c.args.c c.args.t.now
is_ready c =
    ready_read c.args.c c.args.t.now c.requires (record { avail = omega arith; last = omega arith }) (unbroken (queue_of c.args.c (tables_read c.args.t.now)) (sound c))

closed : (c : In_ok-ask) → is_open c.args.c.call ≡ false
closed c = sym c.is_open.ensures ∙ not-true c.is_open.result (asked (not c.is_open.result) Open (sym c.in_ok-ask.ensures))

sited : (c : In_ok-ask-2) → placed_clause (owning_in c.args.c c.args.t.now c.args.own) ≡ true
sited c = sym c.placed.ensures ∙ asked c.placed.result Store (sym c.in_ok-ask-2.ensures)

owned : (c : In_ok-ask-3) → own_clause (owning_in c.args.c c.args.t.now c.args.own) ≡ true
owned c = sym c.all_own.ensures ∙ asked c.all_own.result OwnBuffers (sym c.in_ok-ask-3.ensures)

pub returns-in_err-broken : goal.returns-in_err-broken
returns-in_err-broken c =
    let p = err_from_is_err_and c.from_residual.result c.from_residual.ensures.1 in
    rw (p.1, p.2) (by_queue (owning_in c.args.c c.args.t.now c.args.own) _ c.in_err-broken.ensures (own_numbered (Record _)))

pub returns-in_err-ask : goal.returns-in_err-ask
returns-in_err-ask c =
    let p = err_from_is_err_and c.from_residual-in_err-ask.result c.from_residual-in_err-ask.ensures.1 in
    let f = refused (not c.is_open.result) Open _ c.in_err-ask.ensures in
    rw (p.1, p.2) (f.1 ∙ by_open (owning_in c.args.c c.args.t.now c.args.own) (sound (goal.at.returns-in_err-ask c).In_ok-broken) (sym c.is_open.ensures ∙ not-false c.is_open.result f.0))

pub returns-in_err-ask-2 : goal.returns-in_err-ask-2
returns-in_err-ask-2 c =
    let p = err_from_is_err_and c.from_residual-in_err-ask-2.result c.from_residual-in_err-ask-2.ensures.1 in
    let f = refused c.placed.result Store _ c.in_err-ask-2.ensures in
    rw (p.1, p.2) (f.1 ∙ by_placed (owning_in c.args.c c.args.t.now c.args.own) (sound (goal.at.returns-in_err-ask-2 c).In_ok-broken) (closed (goal.at.returns-in_err-ask-2 c).In_ok-ask) (sym c.placed.ensures ∙ f.0))

pub all_own-requires-clause-ready : goal.all_own-requires-clause-ready
all_own-requires-clause-ready c = is_ready (goal.at.all_own-requires-clause-ready c).In_ok-broken

pub all_own-requires-clause-size_bound : goal.all_own-requires-clause-size_bound
all_own-requires-clause-size_bound c =
    placed_within (owning_in c.args.c c.args.t.now c.args.own) (sited (goal.at.all_own-requires-clause-size_bound c).In_ok-ask-2)

pub returns-in_err-ask-3 : goal.returns-in_err-ask-3
returns-in_err-ask-3 c =
    let p = err_from_is_err_and c.from_residual-in_err-ask-3.result c.from_residual-in_err-ask-3.ensures.1 in
    let f = refused c.all_own.result OwnBuffers _ c.in_err-ask-3.ensures in
    rw (p.1, p.2) (f.1 ∙ by_owned (owning_in c.args.c c.args.t.now c.args.own) (sound (goal.at.returns-in_err-ask-3 c).In_ok-broken) (closed (goal.at.returns-in_err-ask-3 c).In_ok-ask) (sited (goal.at.returns-in_err-ask-3 c).In_ok-ask-2) (sym c.all_own.ensures ∙ f.0))

pub held_ok-requires : goal.held_ok-requires
held_ok-requires c = is_ready (goal.at.held_ok-requires c).In_ok-broken

pub returns : goal.returns
returns c =
    c.ask-4.ensures
    ∙ by_last (owning_in c.args.c c.args.t.now c.args.own) (sound (goal.at.returns c).In_ok-broken) (closed (goal.at.returns c).In_ok-ask) (sited (goal.at.returns c).In_ok-ask-2) (owned (goal.at.returns c).In_ok-ask-3) c.held_ok.result c.held_ok.ensures
