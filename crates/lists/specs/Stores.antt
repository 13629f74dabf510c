-- What stores to a list leave: what they keep of every entry, the entries outside them and in them, and slots of n entries that lie apart.
use Rattle.std.specs.Prelude.{◌≡◌, refl, ◌⊎◌, List, [], ◌∷◌, ℕ, zero, suc, ◌+◌, ◌*◌, ◌≤◌, ◌<◌, length, get_or, set, ltb}
use Rattle.std.proofs.Common.{ap₂, ◌∙◌, inl, inr, arith, mul-le-mul_left, mul-suc, length-set, get_or-set_same, get_or-set_other, ltb-true, ltb-false}
use Rattle.std.proofs.lemmas.List.Edits.{sets}
use Rattle.lists.specs.Tests.{by_test}
use Rattle.lists.specs.Pick.{rising, run_of}

-- a store that keeps what f says of its entry keeps it of every entry
pub set_keeps : {A B : Type 0} (f : A → B) (l : List A) (i : ℕ) (y d : A) → f y ≡ f (get_or l i d) → (j : ℕ) → f (get_or (set l i y) j d) ≡ f (get_or l j d)
set_keeps f [] i y d e j = refl
set_keeps f (x ∷ xs) zero y d e zero = e
set_keeps f (x ∷ xs) zero y d e (suc j) = refl
set_keeps f (x ∷ xs) (suc i) y d e zero = refl
set_keeps f (x ∷ xs) (suc i) y d e (suc j) = set_keeps f xs i y d e j

-- a run of stores leaves the entries before and behind it
pub sets_outside : {A : Type 0} (l : List A) (i : ℕ) (vs : List A) (j : ℕ) (d : A) → (j < i) ⊎ (i + length vs ≤ j) → get_or (sets l i vs) j d ≡ get_or l j d
sets_outside l i [] j d o = refl
sets_outside l i (v ∷ vs) j d (inl h) =
    sets_outside (set l i v) (suc i) vs j d (inl (omega arith)) ∙ get_or-set_other l i j v d (omega arith)
sets_outside l i (v ∷ vs) j d (inr h) =
    sets_outside (set l i v) (suc i) vs j d (inr (omega arith)) ∙ get_or-set_other l i j v d (omega arith)

-- and reads back as what was stored
pub run_sets : {A : Type 0} (d : A) (l : List A) (i : ℕ) (vs : List A) → i + length vs ≤ length l → run_of d (sets l i vs) i (length vs) ≡ vs
unfolding rising
run_sets d l i [] h = refl
run_sets d l i (v ∷ vs) h =
    let n : length (set l i v) ≡ length l = length-set l i v in
    ap₂ (λ x xs. x ∷ xs)
    (sets_outside (set l i v) (suc i) vs i d (inl (omega arith)) ∙ get_or-set_same l i v d (omega arith))
    (run_sets d (set l i v) (suc i) vs (omega arith))

-- an entry of slot h is before or behind all of slot t
pub slots_apart : (n h t i : ℕ) → n * h ≤ i → i < n * h + n → (h ≡ t → ⊥) → (i < n * t) ⊎ (n * t + n ≤ i)
slots_apart n h t i l u d =
    by_test (ltb h t)
    (λ e. inl (let b : h < t = ltb-true h t e in let m : n * suc h ≤ n * t = mul-le-mul_left n b in let s : n * suc h ≡ n * h + n = mul-suc n h in omega arith))
    (λ e. inr (let b : t ≤ h = ltb-false h t e in let c : suc t ≤ h = omega arith in let m : n * suc t ≤ n * h = mul-le-mul_left n c in let s : n * suc t ≡ n * t + n = mul-suc n t in omega arith))
