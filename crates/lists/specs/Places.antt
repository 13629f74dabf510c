-- Where a number stands in a list made of a first walk and then the walks of 0..n-1: named once in all means that it stands in the first walk once and in
-- no other, or in just one of the others, once.
use Rattle.std.proofs.Math.Path.{◌≡◌, refl, ap, ap₂}
use Rattle.std.proofs.Common.{◌∙◌, inl, inr}
use Rattle.std.specs.Prelude.{◌⊎◌, List, [], ◌∷◌, ◌++◌}
use Prim.Native.Nat.{ℕ, zero, suc, ◌+◌, ◌≤◌, ◌<◌}
use native.Mathlib.Omega.{arith}
use Rattle.lists.specs.Tests.{by_eq}
use Rattle.lists.specs.Once.{count, count_same, count_other}
use Rattle.lists.specs.Walk.{hop, walk, walks}

pub count_append : (i : ℕ) (xs ys : List ℕ) → count i (xs ++ ys) ≡ count i xs + count i ys
unfolding count
count_append i [] ys = omega arith
count_append i (x ∷ xs) ys =
    let e : count i (xs ++ ys) ≡ count i xs + count i ys = count_append i xs ys in
    by_eq i x
    (λ s. count_same i x (xs ++ ys) s ∙ (let a = count_same i x xs s in omega arith))
    (λ s. count_other i x (xs ++ ys) s ∙ (let a = count_other i x xs s in omega arith))

-- a number stands in a longer list as often, or more
pub count_cons : (i x : ℕ) (xs : List ℕ) → count i xs ≤ count i (x ∷ xs)
count_cons i x xs =
    by_eq i x
    (λ s. let a = count_same i x xs s in omega arith)
    (λ s. let a = count_other i x xs s in omega arith)

-- a number that a walk leads to stands in it
pub on_walk : (next : ℕ → ℕ) (k i j : ℕ) → j < k → 1 ≤ count (hop next j i) (walk next k i)
unfolding walk hop
on_walk next zero i j l = absurd (omega arith)
on_walk next (suc k) i zero l =
    let a = count_same i i (walk next k (next i)) refl in
    omega arith
on_walk next (suc k) i (suc j) l =
    let a = on_walk next k (next i) j (omega arith) in
    let b = count_cons (hop next j (next i)) i (walk next k (next i)) in
    omega arith

module _ (next size : ℕ → ℕ) (i : ℕ) where
  -- how often i stands in the walk of h
  abbrev pub times : ℕ → ℕ
  times h = count i (walk next (size h) h)

  -- in none of the m walks from h on; in just one of them, once
  abbrev pub NoneFrom : ℕ → ℕ → Type 0
  NoneFrom m h = (j : ℕ) → h ≤ j → j < h + m → times j ≡ 0

  pub record OneFrom (m h : ℕ) : Type 0 where
    pub head : ℕ
    pub from : h ≤ head
    pub below : head < h + m
    pub once : times head ≡ 1
    pub others : (j : ℕ) → h ≤ j → j < h + m → (j ≡ head → ⊥) → times j ≡ 0

  walks_count : (m h : ℕ) → count i (walks next size (suc m) h) ≡ times h + count i (walks next size m (suc h))
  unfolding walks
  walks_count m h = count_append i (walk next (size h) h) (walks next size m (suc h))

  -- the count of all tells which
  pub none_from : (m h : ℕ) → count i (walks next size m h) ≡ 0 → NoneFrom m h
  none_from zero h e j l u = absurd (omega arith)
  none_from (suc m) h e j l u =
      let s = walks_count m h in
      by_eq j h
      (λ t. ap times t ∙ omega arith)
      (λ t. none_from m (suc h) (omega arith) j (omega arith) (omega arith))

  pub from_none : (m h : ℕ) → NoneFrom m h → count i (walks next size m h) ≡ 0
  unfolding walks count
  from_none zero h f = refl
  from_none (suc m) h f =
      let a = walks_count m h in
      let b = f h (omega arith) (omega arith) in
      let c = from_none m (suc h) (λ j l u. f j (omega arith) (omega arith)) in
      omega arith

  pub one_from : (m h : ℕ) → count i (walks next size m h) ≡ 1 → OneFrom m h
  unfolding walks count
  one_from zero h e = absurd (let z : ◌≡◌ {A = ℕ} 0 1 = e in omega arith)
  one_from (suc m) h e =
      let s : count i (walks next size (suc m) h) ≡ times h + count i (walks next size m (suc h)) = walks_count m h in
      by_eq (times h) 1 (λ t. here t (omega arith)) (λ t. there (one_from m (suc h) (omega arith)) (omega arith))
    where
      here : times h ≡ 1 → count i (walks next size m (suc h)) ≡ 0 → OneFrom (suc m) h
      here t r = record {
        head = h;
        from = omega arith;
        below = omega arith;
        once = t;
        others = λ j l u d. none_from m (suc h) r j (omega arith) (omega arith);
      }

      there : OneFrom m (suc h) → times h ≡ 0 → OneFrom (suc m) h
      there o t =
          let f : suc h ≤ o.head = o.from in
          let b : o.head < suc h + m = o.below in
          record {
            head = o.head;
            from = omega arith;
            below = omega arith;
            once = o.once;
            others = λ j l u d. by_eq j h (λ y. ap times y ∙ t) (λ y. o.others j (omega arith) (omega arith) d);
          }

  pub from_one : (m h : ℕ) → OneFrom m h → count i (walks next size m h) ≡ 1
  from_one zero h o = absurd (let a = o.from in let b = o.below in omega arith)
  from_one (suc m) h o =
      let s : count i (walks next size (suc m) h) ≡ times h + count i (walks next size m (suc h)) = walks_count m h in
      let f : h ≤ o.head = o.from in
      let b : o.head < h + suc m = o.below in
      by_eq h o.head
      (λ y. let a : times h ≡ 1 = ap times y ∙ o.once in
      let r : count i (walks next size m (suc h)) ≡ 0 = from_none m (suc h) (λ j l u. o.others j (omega arith) (omega arith) (omega arith)) in
      omega arith)
      (λ y. let a : times h ≡ 0 = o.others h (omega arith) (omega arith) y in
      let r : count i (walks next size m (suc h)) ≡ 1 = from_one m (suc h) (record {
        head = o.head;
        from = omega arith;
        below = omega arith;
        once = o.once;
        others = λ j l u d. o.others j (omega arith) (omega arith) d;
      }) in
      omega arith)

  -- a number stands in all the walks as often as in any of them, or more
  pub in_walks : (m h j : ℕ) → h ≤ j → j < h + m → times j ≤ count i (walks next size m h)
  in_walks zero h j l u = absurd (omega arith)
  in_walks (suc m) h j l u =
      let s = walks_count m h in
      by_eq j h
      (λ t. let a : times j ≡ times h = ap times t in omega arith)
      (λ t. let a = in_walks m (suc h) j (omega arith) (omega arith) in omega arith)

-- Where the size of one head, t, goes from 0 to any other, the walks name what its walk names besides.
module _ (next size size' : ℕ → ℕ) where
  pub walks_same : (m h : ℕ) → ((j : ℕ) → h ≤ j → j < h + m → size' j ≡ size j) → walks next size' m h ≡ walks next size m h
  unfolding walks
  walks_same zero h o = refl
  walks_same (suc m) h o =
      ap₂ (λ k r. walk next k h ++ r) (o h (omega arith) (omega arith)) (walks_same m (suc h) (λ j l u. o j (omega arith) (omega arith)))

  module _ (t : ℕ) (none : size t ≡ 0) (others : (j : ℕ) → (j ≡ t → ⊥) → size' j ≡ size j) (i : ℕ) where
    pub walks_more : (m h : ℕ) → h ≤ t → t < h + m → count i (walks next size' m h) ≡ count i (walk next (size' t) t) + count i (walks next size m h)
    unfolding walk count
    walks_more zero h l u = absurd (omega arith)
    walks_more (suc m) h l u =
        let a : count i (walks next size' (suc m) h) ≡ count i (walk next (size' h) h) + count i (walks next size' m (suc h)) = walks_count next size' i m h in
        let b : count i (walks next size (suc m) h) ≡ count i (walk next (size h) h) + count i (walks next size m (suc h)) = walks_count next size i m h in
        by_eq h t
        (λ e. let c : count i (walk next (size h) h) ≡ 0 = ap (λ k. count i (walk next k h)) (ap size e ∙ none) in
        let d : count i (walk next (size' h) h) ≡ count i (walk next (size' t) t) = ap (λ k. count i (walk next (size' k) k)) e in
        let f : count i (walks next size' m (suc h)) ≡ count i (walks next size m (suc h)) = ap (count i) (walks_same m (suc h) (λ j p q. others j (omega arith))) in
        omega arith)
        (λ e. let c : count i (walk next (size' h) h) ≡ count i (walk next (size h) h) = ap (λ k. count i (walk next k h)) (others h e) in
        let f : count i (walks next size' m (suc h)) ≡ count i (walk next (size' t) t) + count i (walks next size m (suc h)) = walks_more m (suc h) (omega arith) (omega arith) in
        omega arith)

-- THE LAW, for a first list and the walks of 0..n-1
module _ (next size : ℕ → ℕ) (n : ℕ) (front : List ℕ) (i : ℕ) where
  -- in the first list once and in no walk; or not in it, and in just one walk, once
  pub record InFront : Type 0 where
    pub once : count i front ≡ 1
    pub nowhere : NoneFrom next size i n 0

  pub record InWalk : Type 0 where
    pub not_front : count i front ≡ 0
    pub one : OneFrom next size i n 0

  pub placed : count i (front ++ walks next size n 0) ≡ 1 → InFront ⊎ InWalk
  placed e =
      let s : count i (front ++ walks next size n 0) ≡ count i front + count i (walks next size n 0) = count_append i front (walks next size n 0) in
      by_eq (count i front) 1
      (λ t. inl (record { once = t; nowhere = none_from next size i n 0 (omega arith) }))
      (λ t. inr (record { not_front = omega arith; one = one_from next size i n 0 (omega arith) }))

  pub counted : InFront ⊎ InWalk → count i (front ++ walks next size n 0) ≡ 1
  counted (inl p) =
      let s : count i (front ++ walks next size n 0) ≡ count i front + count i (walks next size n 0) = count_append i front (walks next size n 0) in
      let a = p.once in
      let b = from_none next size i n 0 p.nowhere in
      omega arith
  counted (inr p) =
      let s : count i (front ++ walks next size n 0) ≡ count i front + count i (walks next size n 0) = count_append i front (walks next size n 0) in
      let a = p.not_front in
      let b = from_one next size i n 0 p.one in
      omega arith
