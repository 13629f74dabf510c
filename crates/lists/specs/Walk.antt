-- Walks along links: `next` gives the number that each number links to.
use Rattle.std.specs.Prelude.{◌≡◌, Bool, true, false, not, cond, ◌&&◌, ltb, length, get_or}
use Rattle.std.proofs.Math.Path.{refl, sym, ap, ap₂}
use Rattle.std.proofs.Common.{◌∙◌}
use Rattle.std.proofs.Math.Bool.{and-true}
use mathlib.Core.List.{List, [], ◌∷◌, ◌++◌, map}
use Prim.Native.Nat.{ℕ, zero, suc, ◌+◌, ◌-◌, ◌≤◌, ◌<◌}
use native.Mathlib.Omega.{arith}
use borrow.Author.Tests.{lt-ltb, not-true}
use Rattle.lists.specs.Tests.{and_left, and_right, and_both, false_not}
use Rattle.lists.specs.Once.{Below, below_append}

module _ (next : ℕ → ℕ) where
  -- the number k links on from i
  unfoldable pub hop : ℕ → ℕ → ℕ
  hop zero i = i
  hop (suc k) i = hop k (next i)

  -- the k numbers from i on
  unfoldable pub walk : ℕ → ℕ → List ℕ
  walk zero i = []
  walk (suc k) i = i ∷ walk k (next i)

  pub walk_length : (k i : ℕ) → length (walk k i) ≡ k
  unfolding walk
  walk_length zero i = refl
  walk_length (suc k) i = ap suc (walk_length k (next i))

  -- one link further
  pub hop_next : (k i : ℕ) → hop (suc k) i ≡ next (hop k i)
  unfolding hop
  hop_next zero i = refl
  hop_next (suc k) i = hop_next k (next i)

  -- a loop's turn, where links are left to follow, and its end
  pub hop_turn : (k i : ℕ) → 0 < k → hop k i ≡ hop (k - 1) (next i)
  unfolding hop
  hop_turn zero i l = absurd (omega arith)
  hop_turn (suc k) i l =
      let e : k ≡ suc k - 1 = omega arith in
      ap (λ j. hop j (next i)) e

  pub hop_none : (k i : ℕ) → k ≡ 0 → hop k i ≡ i
  unfolding hop
  hop_none k i e = rw e

  -- where links stay below n, so do the numbers met
  pub walk_below : (n : ℕ) → ((i : ℕ) → i < n → next i < n) → (k i : ℕ) → i < n → Below n (walk k i)
  unfolding walk
  walk_below n h zero i l = tt
  walk_below n h (suc k) i l = (l, walk_below n h k (next i) (h i l))

  pub hop_below : (n : ℕ) → ((i : ℕ) → i < n → next i < n) → (k i : ℕ) → i < n → hop k i < n
  unfolding hop
  hop_below n h zero i l = l
  hop_below n h (suc k) i l = hop_below n h k (next i) (h i l)

  -- a walk of a + b numbers is a walk of a, and then one of b from where that leads
  pub walk_split : (a b i : ℕ) → walk (a + b) i ≡ walk a i ++ walk b (hop a i)
  unfolding walk hop
  walk_split zero b i =
      let e : 0 + b ≡ b = omega arith in
      ap (λ k. walk k i) e
  walk_split (suc a) b i =
      let e : suc a + b ≡ suc (a + b) = omega arith in
      ap (λ k. walk k i) e ∙ ap (λ l. i ∷ l) (walk_split a b (next i))

  module _ {A : Type 0} (f : ℕ → A) where
    -- where f's values along a walk are a list's entries, they are the list
    pub map_walk : (d : A) (xs : List A) (i : ℕ) → ((j : ℕ) → j < length xs → f (hop j i) ≡ get_or xs j d) → map f (walk (length xs) i) ≡ xs
    unfolding walk hop
    map_walk d [] i h = refl
    map_walk d (x ∷ xs) i h =
        ap₂ (λ (y : A) (r : List A). y ∷ r) (h 0 (omega arith)) (map_walk d xs (next i) (λ j l. h (suc j) (omega arith)))

    -- two functions that agree along a walk have the same values there
    pub map_alike : (g : ℕ → A) (k i : ℕ) → ((j : ℕ) → j < k → f (hop j i) ≡ g (hop j i)) → map f (walk k i) ≡ map g (walk k i)
    unfolding walk hop
    map_alike g zero i h = refl
    map_alike g (suc k) i h =
        ap₂ (λ (y : A) (r : List A). y ∷ r) (h 0 (omega arith)) (map_alike g k (next i) (λ j l. h (suc j) (omega arith)))

-- Of the k numbers from i on `goes` holds at each but the last: a walk that ends where it says it ends.
unfoldable pub ending : (ℕ → Bool) → (ℕ → ℕ) → ℕ → ℕ → Bool
ending goes next zero i = true
ending goes next (suc zero) i = not (goes i)
ending goes next (suc (suc k)) i = goes i && ending goes next (suc k) (next i)

module _ (goes : ℕ → Bool) (next : ℕ → ℕ) where
  -- a loop's turn, and its end
  pub ending_turn : (k i : ℕ) → 0 < k → ending goes next k i ≡ (cond (ltb 0 (k - 1)) (goes i) (not (goes i)) && ending goes next (k - 1) (next i))
  unfolding ending
  ending_turn zero i l = absurd (omega arith)
  ending_turn (suc zero) i l = sym (and-true (not (goes i)))
  ending_turn (suc (suc k)) i l =
      let m : suc k ≡ suc (suc k) - 1 = omega arith in
      rw (lt-ltb 0 (suc (suc k) - 1) (omega arith)) (ap (λ j. goes i && ending goes next j (next i)) m)

  pub ending_none : (k i : ℕ) → k ≡ 0 → ending goes next k i ≡ true
  unfolding ending
  ending_none k i e = rw (e, ending)

  pub ending_goes_on : (k h : ℕ) → ending goes next k h ≡ true → (i : ℕ) → i + 1 < k → goes (hop next i h) ≡ true
  unfolding ending hop
  ending_goes_on zero h e i l = absurd (omega arith)
  ending_goes_on (suc zero) h e i l = absurd (omega arith)
  ending_goes_on (suc (suc k)) h e zero l = and_left (goes h) (ending goes next (suc k) (next h)) e
  ending_goes_on (suc (suc k)) h e (suc i) l =
      ending_goes_on (suc k) (next h) (and_right (goes h) (ending goes next (suc k) (next h)) e) i (omega arith)

  pub ending_stops : (k h : ℕ) → ending goes next (suc k) h ≡ true → goes (hop next k h) ≡ false
  unfolding ending hop
  ending_stops zero h e = not-true (goes h) e
  ending_stops (suc k) h e = ending_stops k (next h) (and_right (goes h) (ending goes next (suc k) (next h)) e)

  pub goes_on_ending : (k h : ℕ) → ((i : ℕ) → i < k → goes (hop next i h) ≡ true) → goes (hop next k h) ≡ false → ending goes next (suc k) h ≡ true
  unfolding ending hop
  goes_on_ending zero h f e = false_not (goes h) e
  goes_on_ending (suc k) h f e =
      and_both (goes h) (ending goes next (suc k) (next h)) (f 0 (omega arith))
      (goes_on_ending k (next h) (λ i l. f (suc i) (omega arith)) e)

-- The walks of the m numbers from h on, one after the other: that of h is as long as `size` says.
module _ (next size : ℕ → ℕ) where
  unfoldable pub walks : ℕ → ℕ → List ℕ
  walks zero h = []
  walks (suc m) h = walk next (size h) h ++ walks m (suc h)

  pub walks_below : (n : ℕ) → ((i : ℕ) → i < n → next i < n) → (m h : ℕ) → m + h ≤ n → Below n (walks m h)
  unfolding walks
  walks_below n b zero h l = tt
  walks_below n b (suc m) h l =
      below_append n (walk next (size h) h) (walks m (suc h)) (walk_below next n b (size h) h (omega arith))
      (walks_below n b m (suc h) (omega arith))
