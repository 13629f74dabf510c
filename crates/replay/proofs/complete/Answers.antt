-- `replay::complete` meets its contract: the element's place is in the ring, and the three stores are those of `completed`.
-- Assumes nothing.
use Prim.Native.Nat.{ℕ, ◌%◌, ◌<◌, ◌≤◌}
use native.Mathlib.Nat.{mod-lt}
use native.Mathlib.Omega.{arith}
use lib.ListN.{length}
use Rattle.replay.specs.Laws.{two_long}
use Rattle.replay.specs.Blocks.{completes}
use Rattle.replay.proofs.complete.Goals as goal

-- region two has the used ring, and the element's place is in it
place : (n idx : ℕ) → 1 ≤ n → n ≤ 64 → (idx % n < n) × (n ≤ 64)
place n idx low high = (mod-lt idx {m = n} (omega (arith, low)), high)

pub load-idx-requires : goal.load-idx-requires
load-idx-requires c = omega (arith, two_long c.args.n (length c.args.two.now) c.requires.2)

pub store-requires : goal.store-requires
store-requires c = omega (arith, two_long c.args.n (length c.args.two.now) c.requires.2, place c.args.n c.load-idx.result c.requires.0 c.requires.1)

pub store-requires-2 : goal.store-requires-2
store-requires-2 c =
    omega (arith, two_long c.args.n (length c.args.two.now) c.requires.2, place c.args.n c.load-idx.result c.requires.0 c.requires.1, c.store.auto)

pub store-requires-3 : goal.store-requires-3
store-requires-3 c =
    omega (arith, two_long c.args.n (length c.args.two.now) c.requires.2, c.store.auto, c.store-2.auto)

pub returns : goal.returns
returns c one pool =
    completes
    c.args.n
    one
    c.args.two.now
    pool
    c.args.id
    c.args.len
    c.load-idx.ensures
    c.store.ensures
    c.store-2.ensures
    c.after.ensures
    c.store-3.ensures
