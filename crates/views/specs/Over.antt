-- What a test or a count over the first n numbers says, as the rules have it: `every`, `tally`.
use Rattle.std.specs.Prelude.{◌≡◌, refl, Bool, true, false, not, cond, List, [], ◌∷◌, ℕ, zero, suc, ◌+◌, ◌≤◌, ◌<◌, eqb, ltb, length, get_or, take}
use Rattle.std.specs.List.{count_by, list_all, range_with_len}
use Rattle.std.proofs.lemmas.List.Sums.{sum_by-cons}
use Rattle.std.proofs.Common.{ap, ◌∙◌, lt-ltb, arith}
use Rattle.lists.specs.Pick.{every, tally, one_if}
use Rattle.views.specs.Views.{at, heads}

one_is : (b : Bool) → one_if b ≡ cond b 1 0
one_is true = refl
one_is false = refl

-- a test at each of m numbers that is p of the entries counts those entries
tally_over : (f p : ℕ → Bool) (m i : ℕ) (xs : List ℕ) → m ≤ length xs → ((j : ℕ) → j < m → f (i + j) ≡ p (get_or xs j 0)) → tally f m i ≡ count_by p (take m xs)
unfolding tally
tally_over f p zero i xs l h = refl
tally_over f p (suc m) i [] l h = absurd (omega arith)
tally_over f p (suc m) i (x ∷ xs) l h =
    let here : f i ≡ p x = ap f (omega arith) ∙ h 0 (omega arith) in
    let rest : tally f m (suc i) ≡ count_by p (take m xs) = tally_over f p m (suc i) xs (omega arith) (λ j u. ap f (omega arith) ∙ h (suc j) (omega arith)) in
    let sum : count_by p (take (suc m) (x ∷ xs)) ≡ cond (p x) 1 0 + count_by p (take m xs) = sum_by-cons (λ y. cond (p y) 1 0) x (take m xs) in
    rw (sum, here, rest, one_is)

-- a test at each of m numbers that is p of the entries tests those entries
every_over : (f p : ℕ → Bool) (m i : ℕ) (xs : List ℕ) → m ≤ length xs → ((j : ℕ) → j < m → f (i + j) ≡ p (get_or xs j 0)) → every f m i ≡ list_all p (take m xs)
unfolding every
every_over f p zero i xs l h = refl
every_over f p (suc m) i [] l h = absurd (omega arith)
every_over f p (suc m) i (x ∷ xs) l h =
    let here : f i ≡ p x = ap f (omega arith) ∙ h 0 (omega arith) in
    let rest : every f m (suc i) ≡ list_all p (take m xs) = every_over f p m (suc i) xs (omega arith) (λ j u. ap f (omega arith) ∙ h (suc j) (omega arith)) in
    rw (here, rest, take)

-- every next is below n exactly if each of the first n is
pub every_below : (n : ℕ) (next : List ℕ) → n ≤ length next → every (λ i. ltb (at next i) n) n 0 ≡ list_all (λ x. ltb x n) (take n next)
every_below n next l = every_over (λ i. ltb (at next i) n) (λ x. ltb x n) n 0 next l (λ j u. let e : 0 + j ≡ j = omega arith in rw e)

-- as many chains are outstanding as noted lengths are not 0
pub tally_heads : (n : ℕ) (noted : List ℕ) → n ≤ length noted → tally (heads n noted) n 0 ≡ count_by (λ k. not (eqb k 0)) (take n noted)
tally_heads n noted l =
    tally_over (heads n noted) (λ k. not (eqb k 0)) n 0 noted l
    (λ j u. let e : 0 + j ≡ j = omega arith in rw (e, lt-ltb j n u))

-- a test at each of the m numbers from i on, as a list of them
pub every_ranged : (f : ℕ → Bool) (m i : ℕ) → every f m i ≡ list_all f (range_with_len i m)
unfolding every
every_ranged f zero i = refl
every_ranged f (suc m) i = let e : i + 1 ≡ suc i = omega arith in rw (e, every_ranged f m (suc i))
