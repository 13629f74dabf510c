-- Laws of walks: a number that a walk meets, and walks along links of which some have changed.
use Rattle.std.specs.Prelude.{◌≡◌, ◌⊎◌, List, ◌∷◌, ◌++◌}
use Rattle.std.proofs.Math.Path.{refl, ap, ap₂}
use Rattle.std.proofs.Common.{sym, ◌∙◌, inl, inr}
use Prim.Native.Nat.{ℕ, zero, suc, ◌+◌, ◌≤◌, ◌<◌}
use native.Mathlib.Omega.{arith}
use Rattle.std.proofs.Math.ListN.{length, length-append}
use Rattle.lists.specs.Tests.{by_eq}
use Rattle.lists.specs.Pick.{rising}
use Rattle.lists.specs.Once.{count, count_same, count_other}
use Rattle.lists.specs.Places.{count_append, on_walk, times, OneFrom, InFront, InWalk, placed}
use Rattle.lists.specs.Walk.{hop, walk, walk_length, walks}

module _ (next : ℕ → ℕ) where
  -- a walk names what it meets; and twice, what it meets at its end and before
  pub hop_counted : (k i j x : ℕ) → j < k → hop next j i ≡ x → 0 < count x (walk next k i)
  hop_counted k i j x l e = rw (← e) (on_walk next k i j l)

  pub hop_twice : (k i j x : ℕ) → j < k → hop next j i ≡ x → hop next k i ≡ x → 1 < count x (walk next (suc k) i)
  unfolding hop walk
  hop_twice zero i j x l e f = absurd (omega arith)
  hop_twice (suc k) i zero x l e f =
      let a = count_same x i (walk next (suc k) (next i)) (sym e) in
      let r : 0 < count x (walk next (suc k) (next i)) = hop_counted (suc k) (next i) k x (omega arith) f in
      omega arith
  hop_twice (suc k) i (suc j) x l e f =
      let r : 1 < count x (walk next (suc k) (next i)) = hop_twice k (next i) j x (omega arith) e f in
      by_eq x i
      (λ s. let a = count_same x i (walk next (suc k) (next i)) s in omega arith)
      (λ s. let a = count_other x i (walk next (suc k) (next i)) s in omega arith)

  -- where each of the k numbers from a on, but the last, links to the one after it, a walk meets them in order
  pub walk_rising : (k a : ℕ) → ((i : ℕ) → a ≤ i → suc i < a + k → next i ≡ suc i) → walk next k a ≡ rising k a
  unfolding walk rising
  walk_rising zero a h = refl
  walk_rising (suc zero) a h = refl
  walk_rising (suc (suc k)) a h =
      ap (λ j. a ∷ walk next (suc k) j) (h a (omega arith) (omega arith))
      ∙ ap (λ l. a ∷ l) (walk_rising (suc k) (suc a) (λ i l u. h i (omega arith) (omega arith)))

-- Links that are the same at the first k numbers met lead to the same number after k, and to the same k + 1 numbers.
module _ (next other : ℕ → ℕ) where
  abbrev pub Agree : ℕ → ℕ → Type 0
  Agree k i = (j : ℕ) → j < k → other (hop next j i) ≡ next (hop next j i)

  agree_on : (k i : ℕ) → Agree (suc k) i → Agree k (next i)
  unfolding hop
  agree_on k i f j l = f (suc j) (omega arith)

  agree_here : (k i : ℕ) → Agree (suc k) i → other i ≡ next i
  unfolding hop
  agree_here k i f = f 0 (omega arith)

  pub hop_agree : (k i : ℕ) → Agree k i → hop other k i ≡ hop next k i
  unfolding hop
  hop_agree zero i f = refl
  hop_agree (suc k) i f = ap (λ j. hop other k j) (agree_here k i f) ∙ hop_agree k (next i) (agree_on k i f)

  pub walk_agree_last : (k i : ℕ) → Agree k i → walk other (suc k) i ≡ walk next (suc k) i
  unfolding walk
  walk_agree_last zero i f = refl
  walk_agree_last (suc k) i f =
      ap (λ j. i ∷ walk other (suc k) j) (agree_here k i f) ∙ ap (λ l. i ∷ l) (walk_agree_last k (next i) (agree_on k i f))

  pub walk_agree : (k i : ℕ) → Agree k i → walk other k i ≡ walk next k i
  unfolding walk
  walk_agree zero i f = refl
  walk_agree (suc k) i f = walk_agree_last k i (λ j l. f j (omega arith))

-- ---- the walks of the m numbers from a on

module _ (next size : ℕ → ℕ) where
  -- together they are as long as any one of them, or longer
  pub walks_longer : (m a h : ℕ) → a ≤ h → h < a + m → size h ≤ length (walks next size m a)
  unfolding walks
  walks_longer zero a h l u = absurd (omega arith)
  walks_longer (suc m) a h l u =
      let s = length-append (walk next (size a) a) (walks next size m (suc a)) in
      let k : length (walk next (size a) a) ≡ size a = walk_length next (size a) a in
      by_eq a h
      (λ e. let z : size a ≡ size h = ap size e in omega arith)
      (λ e. let r : size h ≤ length (walks next size m (suc a)) = walks_longer m (suc a) h (omega arith) (omega arith) in omega arith)

-- with the walk of h gone and the others the same, as much is gone as that walk was
module _ (next size next' size' : ℕ → ℕ) (h : ℕ) (gone : size' h ≡ 0) where
  abbrev pub Same : ℕ → ℕ → Type 0
  Same m a = (j : ℕ) → a ≤ j → j < a + m → (j ≡ h → ⊥) → walk next' (size' j) j ≡ walk next (size j) j

  walks_same : (m a : ℕ) → h < a → Same m a → walks next' size' m a ≡ walks next size m a
  unfolding walks
  walks_same zero a l f = refl
  walks_same (suc m) a l f =
      ap₂ (λ x y. x ++ y) (f a (omega arith) (omega arith) (omega arith))
      (walks_same m (suc a) (omega arith) (λ j i u d. f j (omega arith) (omega arith) d))

  pub walks_without : (i m a : ℕ) → a ≤ h → h < a + m → Same m a → count i (walks next' size' m a) + times next size i h ≡ count i (walks next size m a)
  unfolding walks walk count
  walks_without i zero a l u f = absurd (omega arith)
  walks_without i (suc m) a l u f =
      let s' : count i (walks next' size' (suc m) a) ≡ count i (walk next' (size' a) a) + count i (walks next' size' m (suc a)) = count_append i (walk next' (size' a) a) (walks next' size' m (suc a)) in
      let s : count i (walks next size (suc m) a) ≡ count i (walk next (size a) a) + count i (walks next size m (suc a)) = count_append i (walk next (size a) a) (walks next size m (suc a)) in
      by_eq a h
      (λ e. let z : count i (walk next' (size' a) a) ≡ 0 = ap (λ k. count i (walk next' k a)) (ap size' e ∙ gone) in
      let t : times next size i a ≡ times next size i h = ap (times next size i) e in
      let r : count i (walks next' size' m (suc a)) ≡ count i (walks next size m (suc a)) = ap (count i) (walks_same m (suc a) (omega arith) (λ j b v d. f j (omega arith) (omega arith) d)) in
      omega arith)
      (λ e. let t : count i (walk next' (size' a) a) ≡ count i (walk next (size a) a) = ap (count i) (f a (omega arith) (omega arith) e) in
      let r : count i (walks next' size' m (suc a)) + times next size i h ≡ count i (walks next size m (suc a)) = walks_without i m (suc a) (omega arith) (omega arith) (λ j b v d. f j (omega arith) (omega arith) d) in
      omega arith)

-- ---- a number that is named once in all, and met in the walk of h

module _ (next size : ℕ → ℕ) (n : ℕ) (front : List ℕ) (i h : ℕ) where
  -- it stands in that walk once, not in the first list, and in no other walk
  pub record StandsIn : Type 0 where
    pub not_front : count i front ≡ 0
    pub once : times next size i h ≡ 1
    pub others : (j : ℕ) → j < n → (j ≡ h → ⊥) → times next size i j ≡ 0

  pub stands : count i (front ++ walks next size n 0) ≡ 1 → h < n → 0 < times next size i h → StandsIn
  stands e b l = from (placed next size n front i e)
    where
      from : InFront next size n front i ⊎ InWalk next size n front i → StandsIn
      from (inl p) = absurd (let z : times next size i h ≡ 0 = p.nowhere h (omega arith) (omega arith) in omega arith)
      from (inr p) =
          let o : OneFrom next size i n 0 = p.one in
          by_eq h o.head
          (λ s. record {
            not_front = p.not_front;
            once = ap (times next size i) s ∙ o.once;
            others = λ j u d. o.others j (omega arith) (omega arith) (λ z. d (z ∙ sym s));
          })
          (λ s. absurd (let z : times next size i h ≡ 0 = o.others h (omega arith) (omega arith) s in omega arith))
