-- The buffer of a token below n begins below 2^64.
use Rattle.std.proofs.Common.{arith}
use Rattle.owns.specs.Turns.{address_fits}
use Rattle.owns.proofs.own_head.Goals as goal

pub buffer-requires : goal.buffer-requires
buffer-requires c =
    address_fits c.args.own.base c.args.c.n c.args.own.size c.args.h (omega arith) c.requires.h_lt_n.0 c.requires.h_lt_n.1
