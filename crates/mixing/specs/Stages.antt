-- A head's stage changes, and every other head's stays; and lists of heads that name none twice.
use Rattle.std.specs.Prelude.{◌≡◌, refl, true, false, not, cond, List, [], ◌∷◌, ◌++◌, ℕ, suc, ◌+◌, ◌<◌, eqb, length}
use Rattle.std.proofs.Common.{sym, ap, ◌∙◌, true≢false, arith, eq-eqb, ne_eqb}
use Rattle.std.proofs.lemmas.Bool.{false≢true}
use Rattle.lists.specs.Tests.{by_test, by_eq, and_right}
use Rattle.lists.specs.Once.{mem, no_dup}
use Rattle.mixing.specs.Device.{without}
use Rattle.mixing.specs.Facts.{Stage, none, adding, taken, offered, returned, is_out}

-- ---- stages differ

abbrev pub kind : Stage → ℕ
kind none = 0
kind adding = 1
kind taken = 2
kind (offered k) = 3
kind (returned k) = 4

abbrev pub number_of : Stage → ℕ
number_of none = 0
number_of adding = 0
number_of taken = 0
number_of (offered k) = k
number_of (returned k) = k

-- ---- one head's stage becomes s

abbrev pub turned : (ℕ → Stage) → ℕ → Stage → ℕ → Stage
turned f h s x = cond (eqb x h) s (f x)

module _ (f : ℕ → Stage) (h : ℕ) (s : Stage) where
  pub turned_here : (x : ℕ) → x ≡ h → turned f h s x ≡ s
  turned_here x e = rw (eq-eqb x h e)

  pub turned_there : (x : ℕ) → (x ≡ h → ⊥) → turned f h s x ≡ f x
  turned_there x d = rw (ne_eqb x h d)

  -- a head with another stage than h had keeps it
  pub turned_keeps : (x : ℕ) (a : Stage) → f x ≡ a → (f h ≡ a → ⊥) → turned f h s x ≡ a
  turned_keeps x a e d = turned_there x (λ z. d (ap f (sym z) ∙ e)) ∙ e

  -- one that has another stage than s had it, and is not h
  pub turned_back : (x : ℕ) (a : Stage) → turned f h s x ≡ a → (s ≡ a → ⊥) → (f x ≡ a) × (x ≡ h → ⊥)
  turned_back x a e d =
      let n : (x ≡ h → ⊥) = λ z. d (sym (turned_here x z) ∙ e) in
      (sym (turned_there x n) ∙ e, n)

  pub turned_out : (x : ℕ) → is_out s ≡ is_out (f h) → is_out (turned f h s x) ≡ is_out (f x)
  turned_out x e =
      by_eq x h (λ z. ap is_out (turned_here x z) ∙ e ∙ ap (λ y. is_out (f y)) (sym z)) (λ z. ap is_out (turned_there x z))

-- ---- lists of heads

mem_here : (x y : ℕ) (ys : List ℕ) → x ≡ y → mem x (y ∷ ys) ≡ true
unfolding mem
mem_here x y ys e = rw (eq-eqb x y e)

mem_there : (x y : ℕ) (ys : List ℕ) → (x ≡ y → ⊥) → mem x (y ∷ ys) ≡ mem x ys
unfolding mem
mem_there x y ys d = rw (ne_eqb x y d)

pub mem_some : (x : ℕ) (xs : List ℕ) → mem x xs ≡ true → 0 < length xs
unfolding mem
mem_some x [] e = absurd (false≢true e)
mem_some x (y ∷ ys) e = omega arith

-- a head more
pub mem_more : (x h : ℕ) (xs : List ℕ) → mem x (xs ++ (h ∷ [])) ≡ true → (x ≡ h → ⊥) → mem x xs ≡ true
unfolding mem
mem_more x h [] e d = absurd (false≢true (sym (mem_there x h [] d) ∙ e))
mem_more x h (y ∷ ys) e d =
    by_eq x y (λ z. mem_here x y ys z) (λ z. mem_there x y ys z ∙ mem_more x h ys (sym (mem_there x y (ys ++ (h ∷ [])) z) ∙ e) d)

mem_end : (x h : ℕ) (xs : List ℕ) → mem x xs ≡ false → (x ≡ h → ⊥) → mem x (xs ++ (h ∷ [])) ≡ false
unfolding mem
mem_end x h [] e d = mem_there x h [] d
mem_end x h (y ∷ ys) e d =
    by_eq x y
    (λ z. absurd (true≢false (sym (mem_here x y ys z) ∙ e)))
    (λ z. mem_there x y (ys ++ (h ∷ [])) z ∙ mem_end x h ys (sym (mem_there x y ys z) ∙ e) d)

first_out : (x : ℕ) (xs : List ℕ) → no_dup (x ∷ xs) ≡ true → mem x xs ≡ false
unfolding no_dup
first_out x xs e = by_test (mem x xs) (λ m. absurd (false≢true (rw m at e))) (λ m. m)

rest_once : (x : ℕ) (xs : List ℕ) → no_dup (x ∷ xs) ≡ true → no_dup xs ≡ true
unfolding no_dup
rest_once x xs e = and_right (not (mem x xs)) (no_dup xs) e

once_cons : (x : ℕ) (xs : List ℕ) → mem x xs ≡ false → no_dup xs ≡ true → no_dup (x ∷ xs) ≡ true
unfolding no_dup
once_cons x xs e f = rw e f

pub once_more : (h : ℕ) (xs : List ℕ) → no_dup xs ≡ true → mem h xs ≡ false → no_dup (xs ++ (h ∷ [])) ≡ true
unfolding no_dup mem
once_more h [] e m = refl
once_more h (x ∷ xs) e m =
    let d : (h ≡ x → ⊥) = λ z. true≢false (sym (mem_here h x xs z) ∙ m) in
    once_cons x (xs ++ (h ∷ [])) (mem_end x h xs (first_out x xs e) (λ z. d (sym z)))
    (once_more h xs (rest_once x xs e) (sym (mem_there h x xs d) ∙ m))

-- and one less
without_here : (h x : ℕ) (xs : List ℕ) → h ≡ x → without h (x ∷ xs) ≡ xs
unfolding without
without_here h x xs e = rw (eq-eqb h x e)

without_there : (h x : ℕ) (xs : List ℕ) → (h ≡ x → ⊥) → without h (x ∷ xs) ≡ x ∷ without h xs
unfolding without
without_there h x xs d = rw (ne_eqb h x d)

pub mem_less : (x h : ℕ) (xs : List ℕ) → mem x (without h xs) ≡ true → mem x xs ≡ true
unfolding mem without
mem_less x h [] e = e
mem_less x h (y ∷ ys) e =
    by_eq x y (λ z. mem_here x y ys z)
    (λ z. mem_there x y ys z ∙ by_eq h y
    (λ k. ap (mem x) (sym (without_here h y ys k)) ∙ e)
    (λ k. mem_less x h ys (sym (mem_there x y (without h ys) z) ∙ ap (mem x) (sym (without_there h y ys k)) ∙ e)))

-- the head is gone, since it was there once
pub gone : (h : ℕ) (xs : List ℕ) → no_dup xs ≡ true → mem h (without h xs) ≡ false
unfolding mem without
gone h [] e = refl
gone h (y ∷ ys) e =
    by_eq h y
    (λ k. ap (mem h) (without_here h y ys k) ∙ ap (λ z. mem z ys) k ∙ first_out y ys e)
    (λ k. ap (mem h) (without_there h y ys k) ∙ mem_there h y (without h ys) k ∙ gone h ys (rest_once y ys e))

pub once_less : (h : ℕ) (xs : List ℕ) → no_dup xs ≡ true → no_dup (without h xs) ≡ true
unfolding no_dup without
once_less h [] e = refl
once_less h (y ∷ ys) e =
    by_eq h y
    (λ k. ap no_dup (without_here h y ys k) ∙ rest_once y ys e)
    (λ k. ap no_dup (without_there h y ys k)
    ∙ once_cons y (without h ys) (by_test (mem y (without h ys)) (λ m. absurd (true≢false (sym (mem_less y h ys m) ∙ first_out y ys e))) (λ m. m))
    (once_less h ys (rest_once y ys e)))

pub length_less : (h : ℕ) (xs : List ℕ) → mem h xs ≡ true → length (without h xs) + 1 ≡ length xs
unfolding mem without
length_less h [] e = absurd (false≢true e)
length_less h (y ∷ ys) e =
    by_eq h y
    (λ k. let z : length (without h (y ∷ ys)) ≡ length ys = ap length (without_here h y ys k) in omega arith)
    (λ k. let z : length (without h (y ∷ ys)) ≡ suc (length (without h ys)) = ap length (without_there h y ys k) in
    let r : length (without h ys) + 1 ≡ length ys = length_less h ys (sym (mem_there h y ys k) ∙ e) in
    omega arith)
