-- `exports::mayketura_add_lent` meets its contract: queue's call over the lent tables, whose plain fields lose no open call on their way to C.
-- Assumes nothing.
use Rattle.std.proofs.Common.{◌≡◌, rules}
use Rattle.access.specs.Accesses.{memory}
use Rattle.views.specs.Tables.{queue_of}
use Rattle.tables.specs.Lent.{tables_read}
use Rattle.opens.specs.Given.{given}
use Rattle.refusals.specs.Checked.{Indices}
use Rattle.record.specs.Abs.{abs, Arrays}
use Rattle.exports.specs.Flat.{core_of, lent_of}
use Rattle.exports.proofs.Told.{limit_has_room, read_has_room, asked_read, add_said}
use Rattle.exports.proofs.mayketura_add_lent.Goals as goal

pub asks_order-ordered-requires : goal.asks_order-ordered-requires
asks_order-ordered-requires c = read_has_room c.from-core.result c.read.result.room c.read.ensures.room

pub add-done-requires : goal.add-done-requires
add-done-requires c = limit_has_room c.from-core.result

pub returns : goal.returns
returns c =
    let arrays : Arrays (lent_of c.args.p c.args.words.now c.args.lens.now c.args.halves.now c.args.sides.now) =
    record { words_of = c.told-words; lens_of = c.told-lens; halves_of = c.told-halves; sides_of = c.told-sides } in
    let indices : Indices (core_of c.args.p) = search rules in
    let read : queue_of c.from-core.result (tables_read c.read.result) ≡ abs (lent_of c.args.p c.args.words.now c.args.lens.now c.args.halves.now c.args.sides.now) =
    rw (c.from-core.ensures, c.read.ensures.room, c.read.ensures.words, c.read.ensures.lens, c.read.ensures.halves, c.read.ensures.sides) in
    add_said c.args.p c.from-core.ensures c.add-done.result c.from.result c.from.ensures c.args.words.now c.args.lens.now c.args.halves.now c.args.sides.now
    (memory c.args.one.now c.args.two.now c.args.pool.now) (memory c.add-done.new.one c.args.two.now c.add-done.new.pool)
    c.add-done.new.t c.add-done.ensures.same_loan.room arrays indices c.asks_order-ordered.result (given c.args.addrs.now c.args.sizes.now c.args.outs.now)
    (asked_read c.asks_order-ordered.result _ _ _ read c.asks_order-ordered.ensures)
    c.stand_in-count.ensures.list c.add-done.ensures.done
