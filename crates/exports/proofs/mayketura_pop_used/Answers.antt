-- `exports::mayketura_pop_used` meets its contract: queue's call over the record's tables, as over lent ones (mayketura_pop_used_lent). Assumes nothing.
use borrow.Author.Rules.{rules}
use Rattle.std.specs.Prelude.{false}
use Rattle.access.specs.Accesses.{memory}
use Rattle.opens.specs.Given.{given}
use Rattle.refusals.specs.Checked.{Indices}
use Rattle.record.specs.Abs.{Arrays}
use Rattle.exports.specs.Flat.{core_of, queue_of}
use Rattle.exports.proofs.Told.{limit_has_room, pop_said, by_value}
use Rattle.exports.proofs.mayketura_pop_used.Goals.{Start}
use Rattle.exports.proofs.mayketura_pop_used.Goals as goal

-- the arrays have their lengths, the indices 16 bits
arrays : (s : Start) → Arrays (queue_of s.args.q)
arrays s = search rules

indices : (s : Start) → Indices (core_of s.args.q.plain)
indices s = search rules

pub pop_used-done-requires : goal.pop_used-done-requires
pop_used-done-requires c = limit_has_room c.from.result

pub returns : goal.returns
returns c =
    let s = (goal.at.returns c).Start in
    let q = c.args.q in
    by_value _ _ _ _ c.from-2.result c.answered.result (memory c.pop_used-done.new.one c.args.two.now c.pop_used-done.new.pool) _ c.answered.ensures
    (pop_said q.plain c.from.ensures c.pop_used-done.result c.from-2.result c.from-2.ensures q.words q.lens q.halves q.sides
    (memory c.args.one.now c.args.two.now c.args.pool.now) (memory c.pop_used-done.new.one c.args.two.now c.pop_used-done.new.pool)
    c.pop_used-done.new.t c.pop_used-done.ensures.same_loan.room (arrays s) (indices s) c.args.token false (given c.args.addrs.now c.args.sizes.now c.args.outs.now)
    c.stand_in-count.ensures.list c.pop_used-done.ensures.done)
