-- `queue::moves` meets its contract: the whole run is what is left of it from where the loop stands.
use Rattle.std.proofs.Common.{◌≡◌, ◌+◌, ◌-◌, true, refl, sym, ap, ◌∙◌, subst, arith}
use Rattle.rules.specs.Record.{is_open}
use Rattle.rules.specs.Calls.{opened, moves}
use Rattle.views.specs.Tables.{queue_of}
use Rattle.tables.specs.Ready.{ReadyHeld, Fitting}
use Rattle.tables.specs.Lent.{tables_held, same_loan_refl, same_loan_trans}
use Rattle.access.specs.Accesses.{memory}
use Rattle.asks.specs.Outcomes.{done_of}
use Rattle.queue.specs.Steps.{ready_on, fitting_on, run_turn, run_closed, run_over}
use Rattle.queue.proofs.moves.Goals as goal

pub loop-init : goal.loop-init
loop-init c =
    let s : _ = c.args in
    let e : c.opened-done.result.core ≡ s.c = ap (λ o. o.core) c.opened-done.ensures in
    let z : c.opened-done.result.steps ≡ 0 = ap (λ o. o.steps) c.opened-done.ensures in
    record {
      same =
          ap (λ k. moves k (opened (queue_of s.c (tables_held s.t.now)) (memory s.one.now s.two.now s.pool.now))) {x = s.budget} {y = s.budget - 0} (omega arith)
          ∙ ap (λ o. moves (s.budget - 0) (done_of o (tables_held s.t.now) (memory s.one.now s.two.now s.pool.now))) (sym c.opened-done.ensures);
      ready = subst (λ x. ReadyHeld x s.t.now) (sym e) c.requires.ready;
      fitting = subst (λ x. Fitting x s.one.now s.two.now s.pool.now) (sym e) c.requires.fitting;
      count = omega arith;
      same_loan = same_loan_refl s.t.now;
      one_kept = refl;
      pool_kept = refl;
    }

pub returns-then-not-is_open-clause-moved : goal.returns-then-not-is_open-clause-moved
returns-then-not-is_open-clause-moved c =
    let s : _ = c.args in
    run_closed c.loop.done _ _ (s.budget - c.loop.counter) (sym c.is_open.ensures ∙ c.if-not-is_open.true)
    ∙ sym c.loop.invariant.same

pub loop-preserved : goal.loop-preserved
loop-preserved c =
    let s : _ = c.args in
    let l : _ = c.loop in
    let n : _ = c.step-stepped in
    let k : _ = s.budget - l.counter in
    let o : is_open l.done.core.call ≡ true = sym c.is_open.ensures ∙ c.if-not-is_open.false in
    record {
      same =
          l.invariant.same
          ∙ run_turn l.done.core l.t l.one s.two.now l.pool n.result n.new.t n.new.one n.new.pool n.ensures.moved l.done.outcome l.done.steps k (s.budget - (l.counter + 1)) o (omega arith);
      ready = ready_on l.done.core l.t l.one s.two.now l.pool n.result n.new.t n.new.one n.new.pool n.ensures.moved n.ensures.same_loan.room l.invariant.ready;
      fitting = fitting_on l.done.core l.t l.one s.two.now l.pool n.result n.new.t n.new.one n.new.pool n.ensures.moved n.auto.one n.auto.pool l.invariant.fitting;
      count = (let z : l.done.steps + k ≡ s.budget = l.invariant.count in omega arith);
      same_loan = same_loan_trans s.t.now l.t n.new.t l.invariant.same_loan n.ensures.same_loan;
      one_kept = n.auto.one ∙ l.invariant.one_kept;
      pool_kept = n.auto.pool ∙ l.invariant.pool_kept;
    }

pub returns-clause-moved : goal.returns-clause-moved
returns-clause-moved c =
    let s : _ = c.args in
    run_over c.loop.done _ _ (s.budget - c.loop.counter) (omega arith)
    ∙ sym c.loop.invariant.same
