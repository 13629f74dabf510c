-- What the code was told, by numbers: of a test that was made, and of the check of the record.
use Rattle.std.specs.Prelude.{◌≡◌, refl, Bool, true, false, cond, Result, Ok, Err, ℕ}
use Rattle.std.specs.Result.{is_ok, OnOk}
use Rattle.std.proofs.Common.{sym, ◌∙◌, arith, eq-eqb, ne_eqb}
use Rattle.rules.specs.declared.Refusal.{Refusal}
use Rattle.rules.specs.declared.Refusal.TheVariants.{InvalidParam, QueueFull, NotReady, WrongToken, BadSize, AlreadyUsed, EmptyBuffer, NotOutstanding, Mismatch, OverLength, Busy, BadRecord, BadRegion}
use Rattle.rules.specs.Refused.{refusal_number, result_number}
use Rattle.rules.specs.Record.{Queue}
use Rattle.rules.specs.WellFormed.{broken, well_formed}
use Rattle.wellformed.specs.declared.clause.Clause.{Clause}
use Rattle.wellformed.specs.declared.clause.Clause.TheVariants.{Size, Base, Used, Next, Once, End, Indirect, Buffer, Count, Call}
use Rattle.wellformed.specs.Numbers.{number_of, broken_number}

-- a refusal has a number, and so has a clause
pub some_refusal : (e : Refusal) → refusal_number e ≡ 0 → ⊥
some_refusal InvalidParam e = omega arith
some_refusal QueueFull e = omega arith
some_refusal NotReady e = omega arith
some_refusal WrongToken e = omega arith
some_refusal BadSize e = omega arith
some_refusal AlreadyUsed e = omega arith
some_refusal EmptyBuffer e = omega arith
some_refusal NotOutstanding e = omega arith
some_refusal Mismatch e = omega arith
some_refusal OverLength e = omega arith
some_refusal Busy e = omega arith
some_refusal BadRecord e = omega arith
some_refusal BadRegion e = omega arith

some_clause : (k : Clause) → number_of k ≡ 0 → ⊥
some_clause Size e = omega arith
some_clause Base e = omega arith
some_clause Used e = omega arith
some_clause Next e = omega arith
some_clause Once e = omega arith
some_clause End e = omega arith
some_clause Indirect e = omega arith
some_clause Buffer e = omega arith
some_clause Count e = omega arith
some_clause Call e = omega arith

-- a test that was made: it holds where nothing was refused, and else it does not and its number is told
pub passed : (b : Bool) (e : Refusal) → cond b 0 (refusal_number e) ≡ 0 → b ≡ true
passed true e h = refl
passed false e h = absurd (some_refusal e h)

pub failed : (b : Bool) (e x : Refusal) → refusal_number x ≡ cond b 0 (refusal_number e) → (b ≡ false) × (refusal_number x ≡ refusal_number e)
failed true e x h = absurd (some_refusal x h)
failed false e x h = (refl, h)

-- what follows where no refusal applies holds of an Ok
pub where_ok : {A : Type 0} (P : Type 0) (r : Result A Refusal) (k : ℕ) → result_number r ≡ k → (k ≡ 0 → P) → OnOk r P
where_ok P (Ok v) k e f = f (sym e)
where_ok P (Err x) k e f = tt

-- whether the check found no broken clause is whether the record is well formed
pub told_well : (q : Queue) (r : Result (Unit {0}) Clause) → broken_number r ≡ broken q → is_ok r ≡ well_formed q
unfolding well_formed
told_well q (Ok v) e = sym (eq-eqb (broken q) 0 (sym e))
told_well q (Err k) e = sym (ne_eqb (broken q) 0 (λ z. some_clause k (e ∙ z)))
