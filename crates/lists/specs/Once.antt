-- A list that names each of 0..n-1 once, and nothing else: a test that computes, its plain meaning, and that they agree.
use Rattle.std.specs.Prelude.{◌≡◌, List, [], ◌∷◌, ◌++◌, Bool, true, false, not, cond, ◌&&◌, ◌||◌, ltb, eqb, length}
use Rattle.std.proofs.Math.Path.{refl, ap, ap₂}
use Rattle.std.proofs.Common.{sym, ◌∙◌, true≢false, lt-ltb, ltb-true, eq-eqb, ne_eqb, eqb-true}
use Prim.Native.Nat.{ℕ, zero, suc, ◌+◌, ◌≤◌, ◌<◌}
use native.Mathlib.Omega.{arith}
use Rattle.std.proofs.lemmas.Bool.{not-true}
use Rattle.lists.specs.Tests.{by_eq, and_left, and_right}

-- x is one of xs
unfoldable pub mem : ℕ → List ℕ → Bool
mem x [] = false
mem x (y ∷ ys) = eqb x y || mem x ys

-- no number is in the list twice
unfoldable pub no_dup : List ℕ → Bool
no_dup [] = true
no_dup (x ∷ xs) = not (mem x xs) && no_dup xs

-- the numbers of the list are below n
unfoldable pub all_below : ℕ → List ℕ → Bool
all_below n [] = true
all_below n (x ∷ xs) = ltb x n && all_below n xs

-- THE TEST: n names, none of them twice, all below n
unfoldable pub once_each : ℕ → List ℕ → Bool
once_each n xs = no_dup xs && (eqb (length xs) n && all_below n xs)

-- tried: all of 0..2, in another order; one twice; one too large; one missing
tried : (once_each 3 (2 ∷ 0 ∷ 1 ∷ []) ≡ true) × (once_each 3 (0 ∷ 1 ∷ 0 ∷ []) ≡ false) × (once_each 3 (0 ∷ 1 ∷ 3 ∷ []) ≡ false) × (once_each 3 (0 ∷ 1 ∷ []) ≡ false)
unfolding once_each no_dup mem all_below
tried = (refl, refl, refl, refl)

-- how often x is in the list
unfoldable pub count : ℕ → List ℕ → ℕ
count x [] = 0
count x (y ∷ ys) = cond (eqb x y) (suc (count x ys)) (count x ys)

abbrev pub Below : ℕ → List ℕ → Type 0
Below n [] = Unit {0}
Below n (x ∷ xs) = (x < n) × Below n xs

-- ITS MEANING: each number below n is in the list exactly once, and no other number is
pub record Once (n : ℕ) (xs : List ℕ) : Type 0 where
  pub each : (i : ℕ) → i < n → count i xs ≡ 1
  pub only : Below n xs

pub below_append : (n : ℕ) (xs ys : List ℕ) → Below n xs → Below n ys → Below n (xs ++ ys)
below_append n [] ys a b = b
below_append n (x ∷ xs) ys a b = (a.0, below_append n xs ys a.1 b)

all_below_lem : (n : ℕ) (xs : List ℕ) → all_below n xs ≡ true → Below n xs
unfolding all_below
all_below_lem n [] e = tt
all_below_lem n (x ∷ xs) e =
    (ltb-true x n (and_left (ltb x n) (all_below n xs) e), all_below_lem n xs (and_right (ltb x n) (all_below n xs) e))

pub below_all : (n : ℕ) (xs : List ℕ) → Below n xs → all_below n xs ≡ true
unfolding all_below
below_all n [] b = refl
below_all n (x ∷ xs) b = rw (lt-ltb x n b.0) (below_all n xs b.1)

-- ---- counting

pub count_same : (x y : ℕ) (ys : List ℕ) → x ≡ y → count x (y ∷ ys) ≡ suc (count x ys)
unfolding count
count_same x y ys e = rw (eq-eqb x y e)

pub count_other : (x y : ℕ) (ys : List ℕ) → (x ≡ y → ⊥) → count x (y ∷ ys) ≡ count x ys
unfolding count
count_other x y ys e = rw (ne_eqb x y e)

sum_to : (ℕ → ℕ) → ℕ → ℕ
sum_to f zero = 0
sum_to f (suc n) = f n + sum_to f n

sum_none : (n : ℕ) → sum_to (λ i. count i []) n ≡ 0
unfolding sum_to count
sum_none zero = refl
sum_none (suc n) = let h = sum_none n in omega arith

module _ (x : ℕ) (xs : List ℕ) where
  sum_above : (n : ℕ) → n ≤ x → sum_to (λ i. count i (x ∷ xs)) n ≡ sum_to (λ i. count i xs) n
  unfolding sum_to
  sum_above zero h = refl
  sum_above (suc n) h = ap₂ (λ a b. a + b) (count_other n x xs (omega arith)) (sum_above n (omega arith))

  sum_cons : (n : ℕ) → x < n → sum_to (λ i. count i (x ∷ xs)) n ≡ suc (sum_to (λ i. count i xs) n)
  unfolding sum_to
  sum_cons zero h = absurd (omega arith)
  sum_cons (suc n) h =
      by_eq n x
      (λ e. let a = count_same n x xs e in let b = sum_above n (omega arith) in omega arith)
      (λ e. let a = count_other n x xs e in let b = sum_cons n (omega arith) in omega arith)

sum_length : (n : ℕ) (xs : List ℕ) → Below n xs → sum_to (λ i. count i xs) n ≡ length xs
sum_length n [] b = sum_none n
sum_length n (x ∷ xs) b = sum_cons x xs n b.0 ∙ ap suc (sum_length n xs b.1)

module _ (f : ℕ → ℕ) where
  sum_le : (n : ℕ) → ((i : ℕ) → i < n → f i ≤ 1) → sum_to f n ≤ n
  unfolding sum_to
  sum_le zero h = omega arith
  sum_le (suc n) h = omega (arith, h n (omega arith), sum_le n (λ i l. h i (omega arith)))

  sum_full : (n : ℕ) → ((i : ℕ) → i < n → f i ≤ 1) → sum_to f n ≡ n → (i : ℕ) → i < n → f i ≡ 1
  unfolding sum_to
  sum_full zero h e i l = absurd (omega arith)
  sum_full (suc n) h e i l =
      let top = h n (omega arith) in
      let low = sum_le n (λ j m. h j (omega arith)) in
      by_eq i n
      (λ p. ap f p ∙ (omega arith))
      (λ p. sum_full n (λ j m. h j (omega arith)) (omega arith) i (omega arith))

  sum_ones : (n : ℕ) → ((i : ℕ) → i < n → f i ≡ 1) → sum_to f n ≡ n
  unfolding sum_to
  sum_ones zero h = refl
  sum_ones (suc n) h = omega (arith, h n (omega arith), sum_ones n (λ i l. h i (omega arith)))

not_mem : (x : ℕ) (xs : List ℕ) → mem x xs ≡ false → count x xs ≡ 0
unfolding mem count
not_mem x [] e = refl
not_mem x (y ∷ ys) e = go (eqb x y) refl e (not_mem x ys)
  where
    go : (t : Bool) → eqb x y ≡ t → (eqb x y || mem x ys) ≡ false → (mem x ys ≡ false → count x ys ≡ 0) → cond (eqb x y) (suc (count x ys)) (count x ys) ≡ 0
    go true p h ih = absurd (true≢false (rw p at h))
    go false p h ih = rw p (ih (rw p at h))

mem_not : (x : ℕ) (xs : List ℕ) → count x xs ≡ 0 → mem x xs ≡ false
unfolding mem
mem_not x [] e = refl
mem_not x (y ∷ ys) e =
    by_eq x y
    (λ p. let h = count_same x y ys p in absurd (omega arith))
    (λ p. rw (ne_eqb x y p) (mem_not x ys (sym (count_other x y ys p) ∙ e)))

dup_count : (xs : List ℕ) → no_dup xs ≡ true → (i : ℕ) → count i xs ≤ 1
unfolding no_dup count
dup_count [] e i = omega arith
dup_count (x ∷ xs) e i =
    let once = not_mem x xs (not-true (mem x xs) (and_left (not (mem x xs)) (no_dup xs) e)) in
    let rest = dup_count xs (and_right (not (mem x xs)) (no_dup xs) e) i in
    by_eq i x
    (λ p. let a = count_same i x xs p in let b = ap (λ z. count z xs) p in omega arith)
    (λ p. let a = count_other i x xs p in omega arith)

count_dup : (n : ℕ) (xs : List ℕ) → Below n xs → ((i : ℕ) → i < n → count i xs ≤ 1) → no_dup xs ≡ true
unfolding no_dup
count_dup n [] b h = refl
count_dup n (x ∷ xs) b h =
    let top : count x xs ≡ 0 = (let a = count_same x x xs refl in let c = h x b.0 in omega arith) in
    rw (mem_not x xs top) (count_dup n xs b.1 (λ i l. less i (h i l)))
  where
    less : (i : ℕ) → count i (x ∷ xs) ≤ 1 → count i xs ≤ 1
    less i l =
        by_eq i x
        (λ p. let a = count_same i x xs p in omega arith)
        (λ p. let a = count_other i x xs p in omega arith)

-- ---- THE LAW: the test holds exactly where each of 0..n-1 is named once, and nothing else

pub once_true : (n : ℕ) (xs : List ℕ) → once_each n xs ≡ true → Once n xs
unfolding once_each
once_true n xs e =
    let d : no_dup xs ≡ true = and_left (no_dup xs) (eqb (length xs) n && all_below n xs) e in
    let r : (eqb (length xs) n && all_below n xs) ≡ true = and_right (no_dup xs) (eqb (length xs) n && all_below n xs) e in
    let l : length xs ≡ n = eqb-true (length xs) n (and_left (eqb (length xs) n) (all_below n xs) r) in
    let b : Below n xs = all_below_lem n xs (and_right (eqb (length xs) n) (all_below n xs) r) in
    record { each = sum_full (λ i. count i xs) n (λ i h. dup_count xs d i) (sum_length n xs b ∙ l); only = b }

pub true_once : (n : ℕ) (xs : List ℕ) → Once n xs → once_each n xs ≡ true
unfolding once_each
true_once n xs o =
    let d : no_dup xs ≡ true = count_dup n xs o.only (λ i u. let e = o.each i u in omega arith) in
    let l : length xs ≡ n = sym (sum_length n xs o.only) ∙ sum_ones (λ i. count i xs) n o.each in
    rw (d, eq-eqb (length xs) n l, below_all n xs o.only)

-- so it has n names
pub once_length : (n : ℕ) (xs : List ℕ) → Once n xs → length xs ≡ n
once_length n xs o = sym (sum_length n xs o.only) ∙ sum_ones (λ i. count i xs) n o.each
