-- `exports::single::mayketura_set_dev_notify_lent` meets its contract: asks' call over the lent tables, which leaves the record as it is. Assumes nothing.
use Rattle.rules.specs.Calls.{set_dev_notify}
use Rattle.laws.specs.EveryKeeps.{set_notify_record}
use Rattle.access.specs.Accesses.{memory}
use Rattle.record.specs.declared.Queue.{Queue}
use Rattle.record.specs.Abs.{abs}
use Rattle.exports.proofs.Told.{limit_has_room, asked_said}
use Rattle.exports.proofs.single.mayketura_set_dev_notify_lent.Goals as goal

pub set_dev_notify-done-requires : goal.set_dev_notify-done-requires
set_dev_notify-done-requires c = limit_has_room c.from.result

pub returns : goal.returns
returns c =
    asked_said c.args.p c.from.ensures c.set_dev_notify-done.result c.from-2.result c.from-2.ensures c.args.words.now c.args.lens.now c.args.halves.now c.args.sides.now (memory c.args.one.now c.args.two.now c.args.pool.now)
    (memory c.set_dev_notify-done.new.one c.args.two.now c.args.pool.now)
    (λ (q : Queue). set_dev_notify (abs q) (memory c.args.one.now c.args.two.now c.args.pool.now) c.args.wanted)
    (λ q. set_notify_record (abs q) (memory c.args.one.now c.args.two.now c.args.pool.now) c.args.wanted)
    c.set_dev_notify-done.ensures
