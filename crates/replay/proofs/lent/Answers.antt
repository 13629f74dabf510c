-- `replay::lent` meets its contract: the sizes that new takes need no more than there is, and the parts lent are zero.
-- Assumes nothing.
use Rattle.replay.specs.Header.{one_fits, two_fits, pool_fits, part_within, part_long, part_zeros}
use Rattle.replay.proofs.lent.Goals as goal

pub slice_bounds-one-end : goal.slice_bounds-one-end
slice_bounds-one-end c =
    part_within 1158 c.room-one.ensures c.need_one-one_len.ensures (one_fits c.args.n c.requires.0)

pub slice_bounds-run-end : goal.slice_bounds-run-end
slice_bounds-run-end c =
    part_long 1158 c.room-one.ensures c.need_one-one_len.ensures (one_fits c.args.n c.requires.0)

pub slice_bounds-two-end : goal.slice_bounds-two-end
slice_bounds-two-end c =
    part_within 518 c.room-two.ensures c.need_two-two_len.ensures (two_fits c.args.n c.requires.0)

pub slice_bounds-run-end-2 : goal.slice_bounds-run-end-2
slice_bounds-run-end-2 c =
    part_long 518 c.room-two.ensures c.need_two-two_len.ensures (two_fits c.args.n c.requires.0)

pub slice_bounds-pool-end : goal.slice_bounds-pool-end
slice_bounds-pool-end c =
    part_within 65536 c.room-pool.ensures c.pool_need-pool_len.ensures (pool_fits c.args.modes.indirect c.args.n c.requires.0)

pub slice_bounds-run-end-3 : goal.slice_bounds-run-end-3
slice_bounds-run-end-3 c =
    part_long 65536 c.room-pool.ensures c.pool_need-pool_len.ensures (pool_fits c.args.modes.indirect c.args.n c.requires.0)

pub run-requires-clause-pool_value : goal.run-requires-clause-pool_value
run-requires-clause-pool_value c i = record {
  one = part_zeros 1158 c.room-one.ensures c.need_one-one_len.ensures (one_fits c.args.n c.requires.0) i;
  two = part_zeros 518 c.room-two.ensures c.need_two-two_len.ensures (two_fits c.args.n c.requires.0) i;
  pool = part_zeros 65536 c.room-pool.ensures c.pool_need-pool_len.ensures (pool_fits c.args.modes.indirect c.args.n c.requires.0) i;
}
