-- `queue::open_add` meets its contract: refused, or opened as the rules open it.
use Rattle.std.proofs.Common.{◌≡◌, sym, ap, ◌∙◌, arith}
use Rattle.virtio.specs.Memory.{Memory}
use Rattle.rules.specs.Record.{Queue}
use Rattle.rules.specs.Calls.{fits, add_refusal, add_opened, opened}
use Rattle.views.specs.Tables.{queue_of}
use Rattle.tables.specs.Lent.{tables_held}
use Rattle.tables.specs.Ready.{ReadyHeld}
use Rattle.access.specs.Accesses.{memory}
use Rattle.laws.specs.Allowed.{add_allowed}
use Rattle.laws.specs.Opening.{addable}
use Rattle.refusals.specs.Checked.{ready_held}
use Rattle.asks.specs.Outcomes.{done_of}
use Rattle.asks.specs.Refused.{says_no, says_yes}
use Rattle.queue.specs.Opened.{add_opening, add_number}
use Rattle.queue.proofs.open_add.Goals as goal

pub open_add-requires : goal.open_add-requires
open_add-requires c =
    let s : _ = c.args in
    let q : Queue = queue_of s.c (tables_held s.t.now) in
    let m : Memory = memory s.one.now s.two.now s.pool.now in
    let z : add_refusal q m s.list.now ≡ 0 = sym (add_number s.c s.t.now c.read.result c.read.ensures s.one.now s.two.now s.pool.now c.fits-fit.result c.fits-fit.ensures s.list.now 0 c.in-Ok.ensures) in
    let a : ReadyHeld s.c s.t.now = ready_held s.c s.t.now c.requires (record { avail = omega arith; last = omega arith }) (add_allowed q (fits q m) s.list.now z).well in
    record { ready = a; addable = addable q m s.list.now a.good.well z }

pub returns-in-Err-clause-opened : goal.returns-in-Err-clause-opened
returns-in-Err-clause-opened c =
    let s : _ = c.args in
    let q : Queue = queue_of s.c (tables_held s.t.now) in
    let m : Memory = memory s.one.now s.two.now s.pool.now in
    says_no s.c (tables_held s.t.now) m (opened (add_opened q s.list.now) m) (add_refusal q m s.list.now) c.in-Err.refusal c.refused.result c.refused.ensures
    (add_number s.c s.t.now c.read.result c.read.ensures s.one.now s.two.now s.pool.now c.fits-fit.result c.fits-fit.ensures s.list.now _ c.in-Err.ensures)
    ∙ sym (add_opening q m s.list.now)

pub returns-in-Ok-clause-opened : goal.returns-in-Ok-clause-opened
returns-in-Ok-clause-opened c =
    let s : _ = c.args in
    let q : Queue = queue_of s.c (tables_held s.t.now) in
    let m : Memory = memory s.one.now s.two.now s.pool.now in
    let t : _ = tables_held c.open_add.new.tables in
    says_yes q m (opened (add_opened q s.list.now) m) (done_of c.opened.result t m) (add_refusal q m s.list.now)
    (sym (add_number s.c s.t.now c.read.result c.read.ensures s.one.now s.two.now s.pool.now c.fits-fit.result c.fits-fit.ensures s.list.now 0 c.in-Ok.ensures))
    (ap (λ y. done_of y t m) c.opened.ensures ∙ ap (λ y. opened y m) c.open_add.ensures.opened)
    ∙ sym (add_opening q m s.list.now)
