-- The numbers of the clauses, as the rules count them, and of what a check answers: 0 where none is broken.
use Rattle.std.specs.Prelude.{◌≡◌, refl, ℕ, ◌<◌, List, [], ◌∷◌, map, get_or, Result, Ok, Err}
use Rattle.std.proofs.Common.{sym, ap, ◌∙◌, arith}
use Rattle.wellformed.specs.declared.clause.Clause.{Clause}
use Rattle.wellformed.specs.declared.clause.Clause.TheVariants.{Size, Base, Used, Next, Once, End, Indirect, Buffer, Count, Call}

abbrev pub number_of : Clause → ℕ
number_of Size = 1
number_of Base = 2
number_of Used = 3
number_of Next = 4
number_of Once = 5
number_of End = 6
number_of Indirect = 7
number_of Buffer = 8
number_of Count = 9
number_of Call = 10

abbrev pub broken_number : Result (Unit {0}) Clause → ℕ
broken_number (Ok u) = 0
broken_number (Err k) = number_of k

-- THE LAW: each clause has a number of its own, 1 to 10, and what is broken has one
pub clauses_numbered : map number_of (Size ∷ Base ∷ Used ∷ Next ∷ Once ∷ End ∷ Indirect ∷ Buffer ∷ Count ∷ Call ∷ []) ≡ 1 ∷ 2 ∷ 3 ∷ 4 ∷ 5 ∷ 6 ∷ 7 ∷ 8 ∷ 9 ∷ 10 ∷ []
clauses_numbered = refl

-- ---- the numbers tell clauses apart, and from 0

clause_above : (k : Clause) → 0 < number_of k
clause_above Size = omega arith
clause_above Base = omega arith
clause_above Used = omega arith
clause_above Next = omega arith
clause_above Once = omega arith
clause_above End = omega arith
clause_above Indirect = omega arith
clause_above Buffer = omega arith
clause_above Count = omega arith
clause_above Call = omega arith

-- all clauses in the order of their numbers, the last also where no number is
clauses : List Clause
clauses = Call ∷ Size ∷ Base ∷ Used ∷ Next ∷ Once ∷ End ∷ Indirect ∷ Buffer ∷ Count ∷ Call ∷ []

pub clause_of : ℕ → Clause
clause_of n = get_or clauses n Call

of_number : (k : Clause) → clause_of (number_of k) ≡ k
unfolding clause_of clauses
of_number Size = refl
of_number Base = refl
of_number Used = refl
of_number Next = refl
of_number Once = refl
of_number End = refl
of_number Indirect = refl
of_number Buffer = refl
of_number Count = refl
of_number Call = refl

pub clause_one : (a b : Clause) → number_of a ≡ number_of b → a ≡ b
clause_one a b e = sym (of_number a) ∙ ap clause_of e ∙ of_number b

-- THE LAW: the number of what a check answers fixes the answer
pub broken_one : (r s : Result (Unit {0}) Clause) → broken_number r ≡ broken_number s → r ≡ s
broken_one (Ok u) (Ok v) e = refl
broken_one (Ok u) (Err b) e = absurd (let l : 0 < number_of b = clause_above b in omega arith)
broken_one (Err a) (Ok v) e = absurd (let l : 0 < number_of a = clause_above a in omega arith)
broken_one (Err a) (Err b) e = ap Err (clause_one a b e)
