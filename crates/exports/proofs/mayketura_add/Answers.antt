-- `exports::mayketura_add` meets its contract: queue's call over the record's tables, as over lent ones (mayketura_add_lent). Assumes nothing.
use borrow.Author.Rules.{rules}
use Rattle.std.proofs.Common.{◌≡◌}
use Rattle.access.specs.Accesses.{memory}
use Rattle.views.specs.Tables as tables
use Rattle.tables.specs.Lent.{tables_read}
use Rattle.opens.specs.Given.{given}
use Rattle.refusals.specs.Checked.{Indices}
use Rattle.record.specs.Abs.{abs, Arrays}
use Rattle.exports.specs.Flat.{core_of, queue_of}
use Rattle.exports.proofs.Told.{limit_has_room, read_has_room, asked_read, add_said, by_value}
use Rattle.exports.proofs.mayketura_add.Goals.{Start}
use Rattle.exports.proofs.mayketura_add.Goals as goal

-- the arrays have their lengths, the indices 16 bits
arrays : (s : Start) → Arrays (queue_of s.args.q)
arrays s = search rules

indices : (s : Start) → Indices (core_of s.args.q.plain)
indices s = search rules

pub asks_order-ordered-requires : goal.asks_order-ordered-requires
asks_order-ordered-requires c = read_has_room c.from-core.result c.read.result.room c.read.ensures.room

pub add-done-requires : goal.add-done-requires
add-done-requires c = limit_has_room c.from-core.result

pub returns : goal.returns
returns c =
    let s = (goal.at.returns c).Start in
    let q = c.args.q in
    let read : tables.queue_of c.from-core.result (tables_read c.read.result) ≡ abs (queue_of q) =
    rw (c.from-core.ensures, c.read.ensures.room, c.read.ensures.words, c.read.ensures.lens, c.read.ensures.halves, c.read.ensures.sides) in
    by_value _ _ _ _ c.from.result c.answered.result (memory c.add-done.new.one c.args.two.now c.add-done.new.pool) _ c.answered.ensures
    (add_said q.plain c.from-core.ensures c.add-done.result c.from.result c.from.ensures q.words q.lens q.halves q.sides
    (memory c.args.one.now c.args.two.now c.args.pool.now) (memory c.add-done.new.one c.args.two.now c.add-done.new.pool)
    c.add-done.new.t c.add-done.ensures.same_loan.room (arrays s) (indices s) c.asks_order-ordered.result (given c.args.addrs.now c.args.sizes.now c.args.outs.now)
    (asked_read c.asks_order-ordered.result _ _ _ read c.asks_order-ordered.ensures)
    c.stand_in-count.ensures.list c.add-done.ensures.done)
