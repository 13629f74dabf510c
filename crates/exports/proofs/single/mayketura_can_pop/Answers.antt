-- `exports::single::mayketura_can_pop` meets its contract: asks' call over the record's tables, as over lent ones, which leaves the record as it is. Assumes nothing.
use Rattle.rules.specs.Calls.{can_pop}
use Rattle.laws.specs.EveryKeeps.{can_pop_record}
use Rattle.access.specs.Accesses.{memory}
use Rattle.record.specs.declared.Queue.{Queue}
use Rattle.record.specs.Abs.{abs}
use Rattle.exports.proofs.Told.{limit_has_room, asked_said, by_value}
use Rattle.exports.proofs.single.mayketura_can_pop.Goals as goal

pub can_pop-done-requires : goal.can_pop-done-requires
can_pop-done-requires c = limit_has_room c.from.result

pub returns : goal.returns
returns c =
    by_value c.args.q.words c.args.q.lens c.args.q.halves c.args.q.sides c.from-2.result c.answered.result (memory c.args.one.now c.args.two.now c.args.pool.now) _ c.answered.ensures
    (asked_said c.args.q.plain c.from.ensures c.can_pop-done.result c.from-2.result c.from-2.ensures c.args.q.words c.args.q.lens c.args.q.halves c.args.q.sides (memory c.args.one.now c.args.two.now c.args.pool.now)
    (memory c.args.one.now c.args.two.now c.args.pool.now)
    (λ (q : Queue). can_pop (abs q) (memory c.args.one.now c.args.two.now c.args.pool.now))
    (λ q. can_pop_record (abs q) (memory c.args.one.now c.args.two.now c.args.pool.now))
    c.can_pop-done.ensures)
