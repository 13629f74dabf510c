-- `exports::mayketura_pop_used_lent` meets its contract: queue's call over the lent tables, whose plain fields lose no open call on their way to C.
-- Assumes nothing.
use Rattle.std.proofs.Common.{rules}
use Rattle.std.specs.Prelude.{false}
use Rattle.access.specs.Accesses.{memory}
use Rattle.opens.specs.Given.{given}
use Rattle.refusals.specs.Checked.{Indices}
use Rattle.record.specs.Abs.{Arrays}
use Rattle.exports.specs.Flat.{core_of, lent_of}
use Rattle.exports.proofs.Told.{limit_has_room, pop_said}
use Rattle.exports.proofs.mayketura_pop_used_lent.Goals as goal

pub pop_used-done-requires : goal.pop_used-done-requires
pop_used-done-requires c = limit_has_room c.from.result

pub returns : goal.returns
returns c =
    let arrays : Arrays (lent_of c.args.p c.args.words.now c.args.lens.now c.args.halves.now c.args.sides.now) =
    record { words_of = c.told-words; lens_of = c.told-lens; halves_of = c.told-halves; sides_of = c.told-sides } in
    let indices : Indices (core_of c.args.p) = search rules in
    pop_said c.args.p c.from.ensures c.pop_used-done.result c.from-2.result c.from-2.ensures c.args.words.now c.args.lens.now c.args.halves.now c.args.sides.now
    (memory c.args.one.now c.args.two.now c.args.pool.now) (memory c.pop_used-done.new.one c.args.two.now c.pop_used-done.new.pool)
    c.pop_used-done.new.t c.pop_used-done.ensures.same_loan.room arrays indices c.args.token false (given c.args.addrs.now c.args.sizes.now c.args.outs.now) c.stand_in-count.ensures.list c.pop_used-done.ensures.done
