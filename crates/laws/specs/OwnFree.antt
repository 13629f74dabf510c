-- What a well-formed owning record says of the descriptors: each buffer that is out is a chain of one; with nothing held no descriptor is free,
-- and with a token held just that one is.
use Rattle.std.proofs.Math.Path.{◌≡◌, sym, ap}
use Rattle.std.specs.Prelude.{None, refl, ◌⊎◌, true, false, cond, length}
use Rattle.std.proofs.Common.{ap₂, subst, ◌∙◌, inl, inr, arith}
use mathlib.Core.List.{List, [], ◌∷◌}
use Prim.Native.Nat.{ℕ, zero, suc, ◌≤◌, ◌<◌}
use Rattle.lists.specs.Tests.{by_test, by_eq}
use Rattle.lists.specs.Once.{Below, count, count_same, count_other}
use Rattle.lists.specs.Walk.{hop, walk, walk_below}
use Rattle.rules.specs.Record.{Queue, next_of, noted_of, free_count, free_list, is_indirect, entries_of, size_of, buffers_of}
use Rattle.rules.specs.Meaning.{WellFormed, Out}
use Rattle.rules.specs.Owning.{Owning}
use Rattle.laws.specs.WellFormedIs.{means_well_formed}
use Rattle.laws.specs.Placed.{Free, Chained, chained_out, each_placed}
use Rattle.laws.specs.FreeLaws.{hop_stands}
use Rattle.laws.specs.Added.{size_length}
use Rattle.laws.specs.OwnIs.{Away, InHand, OwnWell, other_away, all_away}

-- ---- lists that name no number below n, or just one

none_in : (n : ℕ) (xs : List ℕ) → Below n xs → ((i : ℕ) → i < n → count i xs ≡ 0) → xs ≡ []
none_in n [] b f = refl
none_in n (x ∷ xs) b f = absurd (let a = f x b.0 in let c = count_same x x xs refl in omega arith)

just_in : (n t : ℕ) (xs : List ℕ) → Below n xs → count t xs ≡ 1 → ((i : ℕ) → i < n → (i ≡ t → ⊥) → count i xs ≡ 0) → xs ≡ t ∷ []
unfolding count
just_in n t [] b e f = absurd (let z : ◌≡◌ {A = ℕ} 0 1 = e in omega arith)
just_in n t (x ∷ xs) b e f =
    by_eq x t
    (λ s. ap₂ (λ (a : ℕ) (l : List ℕ). a ∷ l) s (none_in n xs b.1 (λ i u. rest s i u)))
    (λ d. absurd (let a = f x b.0 d in let c = count_same x x xs refl in omega arith))
  where
    rest : x ≡ t → (i : ℕ) → i < n → count i xs ≡ 0
    rest s i u =
        by_eq i t
        (λ d. let a = count_same i x xs (d ∙ sym s) in let c : count i (x ∷ xs) ≡ 1 = ap (λ k. count k (x ∷ xs)) d ∙ e in omega arith)
        (λ d. let a = count_other i x xs (λ z. d (z ∙ s)) in let c = f i u d in omega arith)

-- where a walk starts
pub walk_first : (next : ℕ → ℕ) (k i x : ℕ) (xs : List ℕ) → walk next k i ≡ x ∷ xs → (i ≡ x) × (0 < k)
unfolding walk
walk_first next zero i x xs e = absurd (let z : 0 ≡ suc (length xs) = ap length e in omega arith)
walk_first next (suc k) i x xs e = (cc, omega arith)

-- ---- the queue's descriptors

-- a chain whose list is one buffer is no indirect one, and has one descriptor
module _ (q : Queue) (w : WellFormed q) (h : ℕ) (p : Out q h) (e : length (buffers_of q h) ≡ 1) where
  not_two : is_indirect q h ≡ true → ⊥
  not_two i =
      let l : 2 ≤ entries_of q h = (w.listed h p i).two in
      let s : size_of q h ≡ entries_of q h = ap (λ b. cond b (entries_of q h) (noted_of q h)) i in
      let k : entries_of q h ≡ 1 = sym s ∙ sym (size_length q h) ∙ e in
      omega arith

  pub plain_head : is_indirect q h ≡ false
  plain_head = by_test (is_indirect q h) (λ i. absurd (not_two i)) (λ i. i)

  pub one_noted : noted_of q h ≡ 1
  one_noted =
      let s : size_of q h ≡ noted_of q h = ap (λ b. cond b (entries_of q h) (noted_of q h)) plain_head in
      sym s ∙ sym (size_length q h) ∙ e

-- the head of a chain that is out is not free
out_not_free : (q : Queue) → WellFormed q → (h : ℕ) → Out q h → count h (free_list q) ≡ 0
unfolding hop
out_not_free q w h p = (hop_stands q w h 0 p.below (let d = p.noted in omega arith)).not_front

module _ (o : Owning) (w : OwnWell o) where
  abbrev q : Queue
  q = o.queue

  free_below : Below q.n (free_list q)
  free_below = walk_below (next_of q) q.n w.queue.nexts (free_count q) q.counts.free w.queue.free

  -- THE LAWS: a buffer that is out is a chain of one descriptor, not indirect
  pub away_one : (h : ℕ) → Away o h → noted_of q h ≡ 1
  away_one h a = one_noted q w.queue h a.out (ap length a.list)

  pub away_plain : (h : ℕ) → Away o h → is_indirect q h ≡ false
  away_plain h a = plain_head q w.queue h a.out (ap length a.list)

  -- with nothing held no descriptor is free
  pub none_free : o.held ≡ None → free_list q ≡ []
  none_free e = none_in q.n (free_list q) free_below (λ h b. out_not_free q w.queue h (all_away o w e h b).out)

  -- a descriptor that is in hand is in no chain, since each chain is its head alone
  hand_counted : (t : ℕ) → InHand o t → count t (free_list q) ≡ 1
  unfolding walk count
  hand_counted t x = from (each_placed q (means_well_formed q w.queue) t x.below)
    where
      from : Free q t ⊎ Chained q t → count t (free_list q) ≡ 1
      from (inl f) = f.once
      from (inr c) =
          let h : ℕ = c.one.head in
          let p : Out q h = chained_out q t c in
          let d : (h ≡ t → ⊥) = λ s. x.not_out (subst (Out q) s p) in
          let k : noted_of q h ≡ 1 = away_one h (other_away o w t x h p.below d) in
          let a : count t (walk (next_of q) 1 h) ≡ 1 = ap (λ j. count t (walk (next_of q) j h)) (sym k) ∙ c.one.once in
          let z : count t (h ∷ []) ≡ count t [] = count_other t h [] (λ s. d (sym s)) in
          absurd (let y : ◌≡◌ {A = ℕ} 0 1 = sym z ∙ a in omega arith)

  -- THE LAWS: with a token held just its descriptor is free, so it is the next that an add takes
  pub held_free : (t : ℕ) → InHand o t → free_list q ≡ t ∷ []
  held_free t x =
      just_in q.n t (free_list q) free_below (hand_counted t x)
      (λ h b d. out_not_free q w.queue h (other_away o w t x h b d).out)
