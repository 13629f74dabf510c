-- `replay::all_blocks` meets its contract: at each turn the blocks that are left of the replay where the struct stands end where the whole does.
use Prim.Native.Nat.{◌-◌}
use lib.ListN.{length}
use Rattle.replay.specs.Blocks.{Turning}
use Rattle.replay.proofs.all_blocks.Given as goal

abbrev pub invariant-loop-turn : goal.invariant-loop-turn
invariant-loop-turn l =
    Turning l.src l.initial.one l.initial.two l.initial.pool l.initial.page l.initial.p l.one l.two l.pool l.page l.p (length l.src - l._turn)
