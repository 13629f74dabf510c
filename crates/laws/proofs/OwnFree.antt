-- With a token held just its descriptor is free: so it is the next that an add takes, and fewer than n are used.
use Rattle.std.proofs.Math.Path.{◌≡◌}
use Rattle.std.proofs.Common.{arith}
use mathlib.Core.List.{[]}
use Prim.Native.Nat.{ℕ, ◌<◌}
use Rattle.rules.specs.Record.{Queue, next_of, free_count}
use Rattle.rules.specs.Owning.{Owning}
use Rattle.laws.specs.OwnIs.{InHand, OwnWell}
use Rattle.laws.specs.OwnFree.{walk_first, held_free}

module _ (o : Owning) (w : OwnWell o) where
  abbrev q : Queue
  q = o.queue

  -- THE LAWS
  pub held_next : (t : ℕ) → InHand o t → q.counts.free ≡ t
  held_next t x = (walk_first (next_of q) (free_count q) q.counts.free t [] (held_free o w t x)).0

  pub held_used : (t : ℕ) → InHand o t → q.counts.used < q.n
  held_used t x =
      let l : 0 < free_count q = (walk_first (next_of q) (free_count q) q.counts.free t [] (held_free o w t x)).1 in
      omega arith
