-- What the partition says of each descriptor: it is free, once, and in no chain; or it is not free, and in exactly one outstanding chain, once. Both ways.
use Rattle.std.proofs.Math.Path.{◌≡◌, ap}
use Rattle.std.proofs.Common.{sym, ◌∙◌}
use Rattle.std.specs.Prelude.{◌⊎◌, true, ℕ, ◌+◌, ◌<◌}
use native.Mathlib.Omega.{arith}
use Rattle.lists.specs.Once.{count, true_once, below_append}
use Rattle.lists.specs.Walk.{walk, walks, walk_below, walks_below}
use Rattle.lists.specs.Places.{InFront, InWalk, placed, counted}
use Rattle.rules.specs.Record.{Queue, next_of, noted_of, free_count, free_list, chain_of}
use Rattle.rules.specs.WellFormed.{well_formed, named, once_clause}
use Rattle.rules.specs.Meaning.{Out}
use Rattle.laws.specs.WellFormedIs.{well_formed_means}

module _ (q : Queue) (i : ℕ) where
  -- i is in the free list once and in no head's chain
  abbrev pub Free : Type 0
  Free = InFront (next_of q) (noted_of q) q.n (free_list q) i

  -- i is not in the free list, and in the chain of one head, once
  abbrev pub Chained : Type 0
  Chained = InWalk (next_of q) (noted_of q) q.n (free_list q) i

  -- that head is outstanding
  pub chained_out : (c : Chained) → Out q c.one.head
  unfolding count walk
  chained_out c = record { below = (let b : c.one.head < 0 + q.n = c.one.below in omega arith); noted = λ e. empty e c.one.once }
    where
      empty : noted_of q c.one.head ≡ 0 → count i (chain_of q c.one.head) ≡ 1 → ⊥
      empty e o = let z : ◌≡◌ {A = ℕ} 0 1 = ap (λ k. count i (walk (next_of q) k c.one.head)) (sym e) ∙ o in omega arith

module _ (q : Queue) where
  -- THE LAW
  pub each_placed : well_formed q ≡ true → (i : ℕ) → i < q.n → Free q i ⊎ Chained q i
  each_placed e i l =
      placed (next_of q) (noted_of q) q.n (free_list q) i ((well_formed_means q e).once.each i l)

  -- and back: where links stay below n and each descriptor is so placed, the partition's clause holds
  pub placed_each : q.counts.free < q.n → ((i : ℕ) → i < q.n → next_of q i < q.n) → ((i : ℕ) → i < q.n → Free q i ⊎ Chained q i) → once_clause q ≡ true
  placed_each f h p =
      true_once q.n (named q) (record {
        each = λ i l. counted (next_of q) (noted_of q) q.n (free_list q) i (p i l);
        only =
            below_append q.n (free_list q) (walks (next_of q) (noted_of q) q.n 0) (walk_below (next_of q) q.n h (free_count q) q.counts.free f)
            (walks_below (next_of q) (noted_of q) q.n h q.n 0 (omega arith));
      })
