-- `replay::run` meets its contract: what new leaves is the replay `opened`, and blocks goes on from there.
use native.Mathlib.Omega.{arith}
use Rattle.replay.specs.Replay.{opened}
use Rattle.replay.specs.Header.{size_range, two_lent, opened_plays}
use Rattle.replay.proofs.run.Goals as goal

pub all_blocks-requires : goal.all_blocks-requires
all_blocks-requires c = record {
  src_len_bound = (c.requires.n_value.2, omega arith);
  sized = (
    (size_range c.args.n c.requires.n_value.0).0,
    (size_range c.args.n c.requires.n_value.0).1,
    two_lent
        c.args.modes.indirect
        c.args.n
        c.args.one.now
        c.args.two.now
        c.args.pool.now
        c.new.new.two
        c.requires.pool_value
        c.new.auto.two,
  );
}

pub returns-clause-wrote : goal.returns-clause-wrote
returns-clause-wrote c before text w =
    c.all_blocks.ensures.wrote
    before
    (opened c.args.n c.args.modes.indirect c.args.modes.event_idx c.args.at text)
    (opened_plays c.args.n c.args.modes c.args.at text c.new.result c.requires.n_value.1 c.requires.pool_value c.new.ensures w)
