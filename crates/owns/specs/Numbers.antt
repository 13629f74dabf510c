-- The numbers of an owning record's clauses, as the rules count them, and of what its check answers: 0 where none is broken.
use Rattle.std.specs.Prelude.{◌≡◌, refl, Bool, true, false, cond, ℕ, List, [], ◌∷◌, map, get_or, Result, Ok, Err}
use Rattle.std.specs.Result.{is_err}
use Rattle.std.proofs.Common.{sym, ap, ◌∙◌, arith, true≢false}
use Rattle.std.proofs.lemmas.Bool.{false≢true}
use Rattle.rules.specs.Owning.{Owning, own_broken}
use Rattle.wellformed.specs.declared.clause.Clause.{Clause}
use Rattle.wellformed.specs.declared.clause.Clause.TheVariants.{Size, Base, Used, Next, Once, End, Indirect, Buffer, Count, Call}
use Rattle.wellformed.specs.Numbers.{number_of}
use Rattle.wellformed.specs.Groups.{numbered}
use Rattle.owns.specs.declared.clause.OwnClause.{OwnClause}
use Rattle.owns.specs.declared.clause.OwnClause.TheVariants.{Record, Open, Store, OwnBuffers, Held}

abbrev pub own_number_of : OwnClause → ℕ
own_number_of (Record k) = number_of k
own_number_of Open = 11
own_number_of Store = 12
own_number_of OwnBuffers = 13
own_number_of Held = 14

abbrev pub own_broken_number : Result (Unit {0}) OwnClause → ℕ
own_broken_number (Ok u) = 0
own_broken_number (Err k) = own_number_of k

-- THE LAW: a clause of the queue's keeps its number, 1 to 10, each of the others has one of its own behind these, and what is broken has one
pub queue_numbered : (k : Clause) → own_number_of (Record k) ≡ number_of k
queue_numbered k = refl

pub own_clauses_numbered : map own_number_of (Open ∷ Store ∷ OwnBuffers ∷ Held ∷ []) ≡ 11 ∷ 12 ∷ 13 ∷ 14 ∷ []
own_clauses_numbered = refl

pub own_numbered : (k : OwnClause) → own_number_of k ≡ 0 → ⊥
own_numbered (Record k) e = numbered k e
own_numbered Open e = omega arith
own_numbered Store e = omega arith
own_numbered OwnBuffers e = omega arith
own_numbered Held e = omega arith

-- all clauses in the order of their numbers, the last also where no number is
own_clauses : List OwnClause
own_clauses =
    Held ∷ Record Size ∷ Record Base ∷ Record Used ∷ Record Next ∷ Record Once ∷ Record End ∷ Record Indirect ∷ Record Buffer ∷ Record Count ∷ Record Call ∷ Open ∷ Store ∷ OwnBuffers ∷ Held ∷ []

own_clause_of : ℕ → OwnClause
own_clause_of n = get_or own_clauses n Held

own_of_number : (k : OwnClause) → own_clause_of (own_number_of k) ≡ k
unfolding own_clause_of own_clauses
own_of_number (Record Size) = refl
own_of_number (Record Base) = refl
own_of_number (Record Used) = refl
own_of_number (Record Next) = refl
own_of_number (Record Once) = refl
own_of_number (Record End) = refl
own_of_number (Record Indirect) = refl
own_of_number (Record Buffer) = refl
own_of_number (Record Count) = refl
own_of_number (Record Call) = refl
own_of_number Open = refl
own_of_number Store = refl
own_of_number OwnBuffers = refl
own_of_number Held = refl

-- THE LAW: the number of what a check answers fixes the answer
pub own_broken_one : (r s : Result (Unit {0}) OwnClause) → own_broken_number r ≡ own_broken_number s → r ≡ s
own_broken_one (Ok u) (Ok v) e = refl
own_broken_one (Ok u) (Err b) e = absurd (own_numbered b (sym e))
own_broken_one (Err a) (Ok v) e = absurd (own_numbered a e)
own_broken_one (Err a) (Err b) e = ap Err (sym (own_of_number a) ∙ ap own_clause_of e ∙ own_of_number b)

-- ---- a clause that was asked: it holds where nothing was told, and else it does not and its number is told

pub asked : (b : Bool) (k : OwnClause) → cond b 0 (own_number_of k) ≡ 0 → b ≡ true
asked true k e = refl
asked false k e = absurd (own_numbered k e)

pub refused : (b : Bool) (k x : OwnClause) → own_number_of x ≡ cond b 0 (own_number_of k) → (b ≡ false) × (own_number_of x ≡ own_number_of k)
refused true k x e = absurd (own_numbered x e)
refused false k x e = (refl, e)

-- ---- what a check's result tells: whether a clause is broken

pub told_bad : (o : Owning) (r : Result (Unit {0}) OwnClause) → own_broken_number r ≡ own_broken o → is_err r ≡ true → own_broken o ≡ 0 → ⊥
told_bad o (Ok u) e f z = false≢true f
told_bad o (Err k) e f z = own_numbered k (e ∙ z)

pub told_well : (o : Owning) (r : Result (Unit {0}) OwnClause) → own_broken_number r ≡ own_broken o → is_err r ≡ false → own_broken o ≡ 0
told_well o (Ok u) e f = sym e
told_well o (Err k) e f = absurd (true≢false f)
