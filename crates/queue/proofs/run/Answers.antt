-- `queue::run` meets its contract: refused, or the moves.
use Rattle.std.proofs.Common.{◌≡◌, sym, ◌∙◌, arith}
use Rattle.virtio.specs.Memory.{Memory}
use Rattle.rules.specs.Record.{Queue}
use Rattle.rules.specs.Calls.{fits, step_refusal, opened, moves}
use Rattle.views.specs.Tables.{queue_of}
use Rattle.tables.specs.Lent.{tables_held}
use Rattle.access.specs.Accesses.{memory}
use Rattle.laws.specs.Allowed.{step_allowed}
use Rattle.refusals.specs.Checked.{ready_held, fitting}
use Rattle.asks.specs.Refused.{says_no, says_yes}
use Rattle.queue.specs.Opened.{run_opening, step_number}
use Rattle.queue.proofs.run.Goals as goal

pub returns-in-Err-clause-moved : goal.returns-in-Err-clause-moved
returns-in-Err-clause-moved c =
    let s : _ = c.args in
    let q : Queue = queue_of s.c (tables_held s.t.now) in
    let m : Memory = memory s.one.now s.two.now s.pool.now in
    says_no s.c (tables_held s.t.now) m (moves s.budget (opened q m)) (step_refusal q m) c.in-Err.refusal c.refused.result c.refused.ensures
    (step_number s.c s.t.now c.read.result c.read.ensures s.one.now s.two.now s.pool.now c.fits-fit.result c.fits-fit.ensures _ c.in-Err.ensures)
    ∙ sym (run_opening q m s.budget)

pub moves-requires : goal.moves-requires
moves-requires c =
    let s : _ = c.args in
    let q : Queue = queue_of s.c (tables_held s.t.now) in
    let m : Memory = memory s.one.now s.two.now s.pool.now in
    let z : step_refusal q m ≡ 0 = sym (step_number s.c s.t.now c.read.result c.read.ensures s.one.now s.two.now s.pool.now c.fits-fit.result c.fits-fit.ensures 0 c.in-Ok.ensures) in
    record {
      ready = ready_held s.c s.t.now c.requires (record { avail = omega arith; last = omega arith }) (step_allowed q (fits q m) z).0;
      fitting = fitting s.c s.one.now s.two.now s.pool.now (step_allowed q (fits q m) z).1;
    }

pub returns-in-Ok-clause-moved : goal.returns-in-Ok-clause-moved
returns-in-Ok-clause-moved c =
    let s : _ = c.args in
    let q : Queue = queue_of s.c (tables_held s.t.now) in
    let m : Memory = memory s.one.now s.two.now s.pool.now in
    says_yes q m (moves s.budget (opened q m)) _ (step_refusal q m)
    (sym (step_number s.c s.t.now c.read.result c.read.ensures s.one.now s.two.now s.pool.now c.fits-fit.result c.fits-fit.ensures 0 c.in-Ok.ensures))
    c.moves.ensures.moved
    ∙ sym (run_opening q m s.budget)
