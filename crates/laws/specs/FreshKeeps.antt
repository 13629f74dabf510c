-- The record that a good new makes is well formed, and as private memory can hold it: all its descriptors are in the free list, in rising order, and no
-- chain is outstanding.
use Rattle.std.specs.Prelude.{◌≡◌, refl, true, false, not, ◌&&◌, List, ◌++◌, map, ℕ, zero, suc, ◌+◌, ◌-◌, ◌*◌, ◌^◌, ◌≤◌, ◌<◌, ltb, eqb, length, get_or, replicate}
use Rattle.std.proofs.Math.Path.{ap}
use Rattle.std.proofs.Common.{◌∙◌, inl, mul-le-mul_left, arith, length-append}
use Rattle.std.proofs.Math.Bool.{and-false}
use Rattle.std.proofs.lemmas.List.{length-map, length-replicate}
use Rattle.lists.specs.Tests.{by_eq}
use Rattle.lists.specs.Pick.{rising}
use Rattle.lists.specs.PickLaws.{get_d_same_lem, tally_nowhere, count_rising}
use Rattle.lists.specs.Walk.{walk, walks, walk_below, walks_below}
use Rattle.lists.specs.WalkLaws.{walk_rising}
use Rattle.lists.specs.Once.{Once, count, below_append}
use Rattle.lists.specs.Places.{counted}
use Rattle.virtio.specs.declared.Desc.{Desc}
use Rattle.virtio.specs.Desc.{no_desc, no_buffer}
use Rattle.virtio.specs.Layout.{need_pool}
use Rattle.rules.specs.Record.{Queue, next_of, noted_of, outstanding, free_list}
use Rattle.rules.specs.WellFormed.{named, out_count}
use Rattle.rules.specs.Meaning.{WellFormed, Based, Out}
use Rattle.rules.specs.New.{Ask, nexts_from, linking, limit, fresh_queue}
use Rattle.laws.specs.Held.{Held}
use Rattle.laws.specs.StepKeeps.{power_most}

-- ---- the linked descriptors: each leads to the one after it, and the last to 0

link_next : (k a : ℕ) (ds : List Desc) (i : ℕ) → suc i < k → (get_or (map linking (nexts_from k a) ++ ds) i no_desc).next ≡ suc (a + i)
unfolding nexts_from
link_next zero a ds i l = absurd (omega arith)
link_next (suc zero) a ds i l = absurd (omega arith)
link_next (suc (suc k)) a ds zero l = omega arith
link_next (suc (suc k)) a ds (suc i) l = link_next (suc k) (suc a) ds i (omega arith) ∙ omega arith

link_last : (k a : ℕ) (ds : List Desc) (i : ℕ) → suc i ≡ k → (get_or (map linking (nexts_from k a) ++ ds) i no_desc).next ≡ 0
unfolding nexts_from
link_last zero a ds i e = absurd (omega arith)
link_last (suc zero) a ds zero e = refl
link_last (suc zero) a ds (suc i) e = absurd (omega arith)
link_last (suc (suc k)) a ds zero e = absurd (omega arith)
link_last (suc (suc k)) a ds (suc i) e = link_last (suc k) (suc a) ds i (omega arith)

-- there are as many as were asked for
nexts_length : (k a : ℕ) → length (nexts_from k a) ≡ k
unfolding nexts_from
nexts_length zero a = refl
nexts_length (suc zero) a = refl
nexts_length (suc (suc k)) a = ap suc (nexts_length (suc k) (suc a))

-- every size has a descriptor
some_power : (k : ℕ) → 0 < 2 ^ k
some_power zero = omega arith
some_power (suc k) = let l : 0 < 2 ^ k = some_power k in omega arith

-- ---- the fresh record

module _ (a : Ask) where
  abbrev q : Queue
  q = fresh_queue a

  -- no length is noted, so no chain is outstanding
  none_noted : (h : ℕ) → noted_of q h ≡ 0
  none_noted h = get_d_same_lem 0 limit h

  none_out : (h : ℕ) → Out q h → ⊥
  none_out h o = o.noted (none_noted h)

  pub none_outstanding : (h : ℕ) → outstanding (fresh_queue a) h ≡ false
  none_outstanding h = ap (λ k. ltb h a.n && not (eqb k 0)) (none_noted h) ∙ and-false (ltb h a.n)

  -- each descriptor links to the one after it, and all to one that is there
  next_is : (i : ℕ) → suc i < a.n → next_of q i ≡ suc i
  next_is i l = link_next a.n 0 (replicate (limit - a.n) no_desc) i l ∙ omega arith

  nexts_below : (i : ℕ) → i < a.n → next_of q i < a.n
  nexts_below i l =
      by_eq (suc i) a.n
      (λ e. let z : next_of q i ≡ 0 = link_last a.n 0 (replicate (limit - a.n) no_desc) i e in omega arith)
      (λ e. let z : next_of q i ≡ suc i = next_is i (omega arith) in omega arith)

  -- the free list has them all, in order
  free_is : free_list q ≡ rising a.n 0
  free_is =
      let e : a.n - 0 ≡ a.n = omega arith in
      ap (λ k. walk (next_of q) k 0) e ∙ walk_rising (next_of q) a.n 0 (λ i l u. next_is i (omega arith))

  -- so each is named once
  all_once : 0 < a.n → Once a.n (named q)
  unfolding walk count
  all_once some = record {
    each = λ i l. counted (next_of q) (noted_of q) a.n (free_list q) i (inl (record {
      once = ap (count i) free_is ∙ count_rising i a.n 0 (omega arith) (omega arith);
      nowhere = λ j m u. ap (λ k. count i (walk (next_of q) k j)) (none_noted j);
    }));
    only =
        below_append a.n (free_list q) (walks (next_of q) (noted_of q) a.n 0) (walk_below (next_of q) a.n nexts_below (a.n - 0) 0 some)
        (walks_below (next_of q) (noted_of q) a.n nexts_below a.n 0 (omega arith));
  }

  -- THE LAWS
  pub fresh_keeps : (k : ℕ) × (k ≤ 6) × (a.n ≡ 2 ^ k) → (a.modes.indirect ≡ true → Based a.base_pool (need_pool a.n)) → WellFormed (fresh_queue a)
  fresh_keeps s p =
      let power : a.n ≡ 2 ^ s.0 = s.2 in
      let some : 0 < a.n = omega (arith, some_power s.0) in
      record {
        size = s;
        pool = λ e. rw e (p e);
        no_pool = λ e. rw e;
        used = omega arith;
        free = some;
        nexts = nexts_below;
        once = all_once some;
        goes_on = λ h i o l. absurd (none_out h o);
        stops = λ h o. absurd (none_out h o);
        listed = λ h o e. absurd (none_out h o);
        buffers = λ h o. absurd (none_out h o);
        count = let z : out_count q ≡ 0 = tally_nowhere (outstanding q) none_outstanding a.n 0 in omega arith;
        call = tt;
      }

  pub fresh_held : (k : ℕ) × (k ≤ 6) × (a.n ≡ 2 ^ k) → Held (fresh_queue a)
  fresh_held s =
      let l : a.n ≤ 64 = power_most a.n s.0 s.1 s.2 in
      let e : length q.tables.shadow ≡ length (map linking (nexts_from a.n 0)) + length (replicate (limit - a.n) no_desc) = length-append (map linking (nexts_from a.n 0)) (replicate (limit - a.n) no_desc) in
      let f : length (map linking (nexts_from a.n 0)) ≡ a.n = length-map (nexts_from a.n 0) linking ∙ nexts_length a.n 0 in
      let n : length q.tables.noted ≡ 64 = length-replicate {A = ℕ} limit 0 in
      let k : length q.tables.kept ≡ 64 * 64 = length-replicate (limit * limit) no_buffer in
      let m : a.n * a.n ≤ a.n * 64 = mul-le-mul_left a.n l in
      record { shadow = omega arith; noted = omega arith; kept = omega arith; avail = omega arith; last = omega arith }
