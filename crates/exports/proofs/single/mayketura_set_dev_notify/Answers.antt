-- `exports::single::mayketura_set_dev_notify` meets its contract: asks' call over the record's tables, as over lent ones, which leaves the record as it is. Assumes nothing.
use Rattle.rules.specs.Calls.{set_dev_notify}
use Rattle.laws.specs.EveryKeeps.{set_notify_record}
use Rattle.access.specs.Accesses.{memory}
use Rattle.record.specs.declared.Queue.{Queue}
use Rattle.record.specs.Abs.{abs}
use Rattle.exports.proofs.Told.{limit_has_room, asked_said, by_value}
use Rattle.exports.proofs.single.mayketura_set_dev_notify.Goals as goal

pub set_dev_notify-done-requires : goal.set_dev_notify-done-requires
set_dev_notify-done-requires c = limit_has_room c.from.result

pub returns : goal.returns
returns c =
    by_value c.args.q.words c.args.q.lens c.args.q.halves c.args.q.sides c.from-2.result c.answered.result (memory c.set_dev_notify-done.new.one c.args.two.now c.args.pool.now) _ c.answered.ensures
    (asked_said c.args.q.plain c.from.ensures c.set_dev_notify-done.result c.from-2.result c.from-2.ensures c.args.q.words c.args.q.lens c.args.q.halves c.args.q.sides (memory c.args.one.now c.args.two.now c.args.pool.now)
    (memory c.set_dev_notify-done.new.one c.args.two.now c.args.pool.now)
    (λ (q : Queue). set_dev_notify (abs q) (memory c.args.one.now c.args.two.now c.args.pool.now) c.args.wanted)
    (λ q. set_notify_record (abs q) (memory c.args.one.now c.args.two.now c.args.pool.now) c.args.wanted)
    c.set_dev_notify-done.ensures)
