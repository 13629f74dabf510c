-- `exports::mayketura_peek_used` meets its contract: queue's call over the record's tables, as over lent ones (mayketura_peek_used_lent). Assumes nothing.
use borrow.Author.Rules.{rules}
use Rattle.access.specs.Accesses.{memory}
use Rattle.refusals.specs.Checked.{Indices}
use Rattle.record.specs.Abs.{Arrays}
use Rattle.exports.specs.Flat.{core_of, queue_of}
use Rattle.exports.proofs.Told.{limit_has_room, peek_said, by_value}
use Rattle.exports.proofs.mayketura_peek_used.Goals.{Start}
use Rattle.exports.proofs.mayketura_peek_used.Goals as goal

-- the arrays have their lengths, the indices 16 bits
arrays : (s : Start) → Arrays (queue_of s.args.q)
arrays s = search rules

indices : (s : Start) → Indices (core_of s.args.q.plain)
indices s = search rules

pub peek_used-done-requires : goal.peek_used-done-requires
peek_used-done-requires c = limit_has_room c.from.result

pub returns : goal.returns
returns c =
    let s = (goal.at.returns c).Start in
    let q = c.args.q in
    by_value _ _ _ _ c.from-2.result c.answered.result (memory c.peek_used-done.new.one c.args.two.now c.peek_used-done.new.pool) _ c.answered.ensures
    (peek_said q.plain c.from.ensures c.peek_used-done.result c.from-2.result c.from-2.ensures q.words q.lens q.halves q.sides
    (memory c.args.one.now c.args.two.now c.args.pool.now) (memory c.peek_used-done.new.one c.args.two.now c.peek_used-done.new.pool)
    c.peek_used-done.new.t c.peek_used-done.ensures.same_loan.room (arrays s) (indices s) c.peek_used-done.ensures.done)
