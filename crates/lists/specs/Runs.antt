-- Runs of links that rise or fall by one. A run, up or down, is the beginning of a walk; marked, it is visited, and the walk goes on from where the run's last links to.
use Rattle.std.specs.Prelude.{◌≡◌, Bool, true, false, List, [], ◌∷◌, ◌++◌}
use Rattle.std.proofs.Common.{sym, ◌∙◌}
use Rattle.std.proofs.Math.Path.{ap}
use Prim.Native.Nat.{ℕ, zero, suc, ◌+◌, ◌-◌, ◌%◌, ◌≤◌, ◌<◌}
use native.Mathlib.Omega.{arith}
use Rattle.lists.specs.Pick.{rising}
use Rattle.lists.specs.PickLaws.{All}
use Rattle.lists.specs.Tests.{by_eq}
use Rattle.lists.specs.Walk.{walk}
use Rattle.lists.specs.Visited.{Visited, visited_then, visited_stop, MarkedRun, marked_up, marked_down, falling}

-- each of the c numbers from d on links to the one after it; each of the c numbers from d on down to the one before it
abbrev pub Rises : (ℕ → ℕ) → ℕ → ℕ → Type 0
Rises next d c = (i : ℕ) → d ≤ i → i < d + c → next i ≡ i + 1

abbrev pub Falls : (ℕ → ℕ) → ℕ → ℕ → Type 0
Falls next d c = (i : ℕ) → i ≤ d → d < i + c → next i + 1 ≡ i

-- 1 to `most` numbers from d on up, or from d on down, each of which but the last links to the next of them
pub record Up (most : ℕ) (next : ℕ → ℕ) (d c : ℕ) : Type 0 where
  pub some : 0 < c
  pub few : c ≤ most
  pub rises : Rises next d (c - 1)

pub record Down (most : ℕ) (next : ℕ → ℕ) (d c : ℕ) : Type 0 where
  pub some : 0 < c
  pub few : c ≤ most
  pub falls : Falls next d (c - 1)

-- ---- loops that count a run: none yet, and one more

module _ (next : ℕ → ℕ) (d : ℕ) where
  pub rises_none : Rises next d 0
  rises_none i l u = absurd (omega arith)

  pub rises_one : (c : ℕ) → Rises next d c → next (d + c) ≡ d + c + 1 → Rises next d (c + 1)
  rises_one c h e i l u = by_eq i (d + c) (λ z. ap next z ∙ e ∙ ap (λ x. x + 1) (sym z)) (λ z. h i l (omega arith))

  pub falls_none : Falls next d 0
  falls_none i l u = absurd (omega arith)

  pub falls_one : (c : ℕ) → c < d → Falls next d c → next (d - c) ≡ d - c - 1 → Falls next d (c + 1)
  falls_one c b h e i l u = by_eq i (d - c) (λ z. let f : next i ≡ next (d - c) = ap next z in omega arith) (λ z. h i l (omega arith))

-- ---- a run is the beginning of a walk

module _ (next : ℕ → ℕ) where
  up_begins : (c m d : ℕ) → Rises next d c → walk next (suc c + m) d ≡ rising (suc c) d ++ walk next m (next (d + c))
  unfolding walk rising
  up_begins zero m d h =
      let e : 1 + m ≡ suc m = omega arith in
      let f : d ≡ d + 0 = omega arith in
      ap (λ k. walk next k d) e ∙ ap (λ j. d ∷ walk next m (next j)) f
  up_begins (suc c) m d h =
      let e : suc (suc c) + m ≡ suc (suc c + m) = omega arith in
      let f : next d ≡ suc d = h d (omega arith) (omega arith) ∙ omega arith in
      let g : suc d + c ≡ d + suc c = omega arith in
      ap (λ k. walk next k d) e
      ∙ ap (λ j. d ∷ walk next (suc c + m) j) f
      ∙ ap (λ l. d ∷ l) (up_begins c m (suc d) (λ i l u. h i (omega arith) (omega arith)))
      ∙ ap (λ j. d ∷ (rising (suc c) (suc d) ++ walk next m (next j))) g

  down_begins : (c m d : ℕ) → c ≤ d → Falls next d c → walk next (suc c + m) d ≡ falling (suc c) d ++ walk next m (next (d - c))
  unfolding walk falling
  down_begins zero m d b h =
      let e : 1 + m ≡ suc m = omega arith in
      let f : d ≡ d - 0 = omega arith in
      ap (λ k. walk next k d) e ∙ ap (λ j. d ∷ walk next m (next j)) f
  down_begins (suc c) m d b h =
      let e : suc (suc c) + m ≡ suc (suc c + m) = omega arith in
      let x : next d + 1 ≡ d = h d (omega arith) (omega arith) in
      let f : next d ≡ d - 1 = omega arith in
      let g : d - 1 - c ≡ d - suc c = omega arith in
      ap (λ k. walk next k d) e
      ∙ ap (λ j. d ∷ walk next (suc c + m) j) f
      ∙ ap (λ l. d ∷ l) (down_begins c m (d - 1) (omega arith) (λ i l u. h i (omega arith) (omega arith)))
      ∙ ap (λ j. d ∷ (falling (suc c) (d - 1) ++ walk next m (next j))) g

-- a number below n that links to a number below n
abbrev pub Inside : ℕ → (ℕ → ℕ) → ℕ → Type 0
Inside n next x = (x < n) × (next x < n)

-- what holds of all numbers of two lists, of a run up, of a run down
module _ (P : ℕ → Type 0) where
  pub all_append : (xs ys : List ℕ) → All P xs → All P ys → All P (xs ++ ys)
  all_append [] ys a b = b
  all_append (x ∷ xs) ys a b = (a.0, all_append xs ys a.1 b)

  all_up : (c d : ℕ) → ((j : ℕ) → d ≤ j → j < d + c → P j) → All P (rising c d)
  unfolding rising
  all_up zero d h = tt
  all_up (suc c) d h = (h d (omega arith) (omega arith), all_up c (suc d) (λ j l u. h j (omega arith) (omega arith)))

  all_down : (c d : ℕ) → ((j : ℕ) → j ≤ d → d < j + c → P j) → All P (falling c d)
  unfolding falling
  all_down zero d h = tt
  all_down (suc zero) d h = (h d (omega arith) (omega arith), tt)
  all_down (suc (suc c)) d h = (h d (omega arith) (omega arith), all_down (suc c) (d - 1) (λ j l u. h j (omega arith) (omega arith)))

-- THE FIRST RUN of a walk of k numbers from d on, the `count` numbers from `low` on: they share a word of marks and lie below n; once they are marked, the
-- walk goes on from where `last` links to
pub record Begins (n : ℕ) (next : ℕ → ℕ) (k d low count last : ℕ) : Type 0 where
  pub some : 0 < count
  pub few : count ≤ k
  pub share : low % 64 + count ≤ 64
  pub below : low + count ≤ n
  pub last_below : last < n
  pub on : (a b z : List Bool) (r : Bool) → MarkedRun a b low count true → Visited b z (walk next (k - count) (next last)) r → Visited a z (walk next k d) r
  pub stop : (a b z : List Bool) → MarkedRun a b low count false → Visited a z (walk next k d) false
  pub safe : next last < n → All (Inside n next) (walk next (k - count) (next last)) → All (Inside n next) (walk next k d)

module _ (n : ℕ) (next : ℕ → ℕ) (k d most c : ℕ) (m : most ≤ k) (b : d < n) where
  pub begins_up : most ≤ 64 - d % 64 → d + most ≤ n → Up most next d c → Begins n next k d d c (d + (c - 1))
  begins_up w l u =
      let s : 0 < c = u.some in
      let f : c ≤ most = u.few in
      let e : k ≡ suc (c - 1) + (k - c) = omega arith in
      let g : suc (c - 1) ≡ c = omega arith in
      let is : walk next k d ≡ rising c d ++ walk next (k - c) (next (d + (c - 1))) =
      ap (λ j. walk next j d) e ∙ up_begins next (c - 1) (k - c) d u.rises ∙ ap (λ j. rising j d ++ walk next (k - c) (next (d + (c - 1)))) g in
      record {
        some = s;
        few = omega arith;
        share = omega arith;
        below = omega arith;
        last_below = omega arith;
        on = λ a b z r v x. rw is (visited_then a b z (rising c d) (walk next (k - c) (next (d + (c - 1)))) r (marked_up a b d c true v) x);
        stop = λ a b z v. rw is (visited_stop a b z (rising c d) (walk next (k - c) (next (d + (c - 1)))) (marked_up a b d c false v));
        safe = λ v x. rw is (all_append (Inside n next) (rising c d) (walk next (k - c) (next (d + (c - 1))))
            (all_up (Inside n next) c d (λ j y q. (omega arith, by_eq j (d + (c - 1)) (λ z. rw z v) (λ z. let t : next j ≡ j + 1 = u.rises j y (omega arith) in omega arith)))) x);
      }

  pub begins_down : most ≤ d % 64 + 1 → Down most next d c → Begins n next k d (d - (c - 1)) c (d - (c - 1))
  begins_down w u =
      let s : 0 < c = u.some in
      let f : c ≤ most = u.few in
      let e : k ≡ suc (c - 1) + (k - c) = omega arith in
      let g : suc (c - 1) ≡ c = omega arith in
      let top : d ≡ d - (c - 1) + c - 1 = omega arith in
      let is : walk next k d ≡ falling c d ++ walk next (k - c) (next (d - (c - 1))) =
      ap (λ j. walk next j d) e ∙ down_begins next (c - 1) (k - c) d (omega arith) u.falls ∙ ap (λ j. falling j d ++ walk next (k - c) (next (d - (c - 1)))) g in
      record {
        some = s;
        few = omega arith;
        share = omega arith;
        below = omega arith;
        last_below = omega arith;
        on = λ a b z r v x. rw is (visited_then a b z (falling c d) (walk next (k - c) (next (d - (c - 1)))) r (marked_down a b (d - (c - 1)) c d true top v) x);
        stop = λ a b z v. rw is (visited_stop a b z (falling c d) (walk next (k - c) (next (d - (c - 1)))) (marked_down a b (d - (c - 1)) c d false top v));
        safe = λ v x. rw is (all_append (Inside n next) (falling c d) (walk next (k - c) (next (d - (c - 1))))
            (all_down (Inside n next) c d (λ j y q. (omega arith, by_eq j (d - (c - 1)) (λ z. rw z v) (λ z. let t : next j + 1 ≡ j = u.falls j y (omega arith) in omega arith)))) x);
      }
