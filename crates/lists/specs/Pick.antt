-- The first test of a list that holds, a test at each of a run of numbers, and a run of a list's entries.
use Rattle.std.specs.Prelude.{Bool, true, false, ◌&&◌, List, [], ◌∷◌, map, ℕ, zero, suc, ◌+◌, eqb, get_or}

-- A number, and the test that gives it.
infix 20 ◌when◌
pub data Test : Type 0 where
  ◌when◌ : ℕ → Bool → Test

-- the number of the first test that holds, and 0 where none does
abbrev pub first : List Test → ℕ
first [] = 0
first ((n when true) ∷ ts) = n
first ((n when false) ∷ ts) = first ts

-- p holds at each of the m numbers from i on
unfoldable pub every : (ℕ → Bool) → ℕ → ℕ → Bool
every p zero i = true
every p (suc m) i = p i && every p m (suc i)

-- at how many of the m numbers from i on p holds
abbrev pub one_if : Bool → ℕ
one_if true = 1
one_if false = 0

unfoldable pub tally : (ℕ → Bool) → ℕ → ℕ → ℕ
tally p zero i = 0
tally p (suc m) i = one_if (p i) + tally p m (suc i)

-- the k numbers from i on
unfoldable pub rising : ℕ → ℕ → List ℕ
rising zero i = []
rising (suc k) i = i ∷ rising k (suc i)

-- the k entries of xs from a on, d for those past its end
abbrev pub run_of : {A : Type 0} → A → List A → ℕ → ℕ → List A
run_of d xs a k = map (λ i. get_or xs i d) (rising k a)

-- two lists of numbers are one
unfoldable pub same : List ℕ → List ℕ → Bool
same [] [] = true
same [] (y ∷ ys) = false
same (x ∷ xs) [] = false
same (x ∷ xs) (y ∷ ys) = eqb x y && same xs ys
