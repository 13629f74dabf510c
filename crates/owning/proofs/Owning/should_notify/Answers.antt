-- A broken record is refused, and any other's question goes to the queue.
use mathlib.Core.Path.{sym, ◌∙◌}
use Rattle.access.specs.Accesses.{memory}
use Rattle.owns.specs.Numbers.{told_bad, told_well}
use Rattle.owning.specs.Owned.{own_of}
use Rattle.owning.specs.Cases.{notify_no, notify_yes}
use Rattle.owning.proofs.Owning.should_notify.Goals as goal

pub returns-then-is_err : goal.returns-then-is_err
returns-then-is_err c =
    λ store. c.refused.ensures (memory c.args.one.now c.args.two.now c.args.pool.now) store ∙ notify_no (own_of c.args.self) (memory c.args.one.now c.args.two.now c.args.pool.now) store (told_bad (own_of c.args.self) c.broken.result c.broken.ensures (sym c.is_err.ensures.value ∙ c.if-is_err.true))

pub returns : goal.returns
returns c =
    λ store. c.passed.ensures (memory c.args.one.now c.args.two.now c.args.pool.now) store ∙ notify_yes (own_of c.args.self) (memory c.args.one.now c.args.two.now c.args.pool.now) store _ (told_well (own_of c.args.self) c.broken.result c.broken.ensures (sym c.is_err.ensures.value ∙ c.if-is_err.false)) c.should_notify-r.ensures
