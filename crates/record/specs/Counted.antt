-- The outcomes of available_desc, each from the plain facts that lead to it.
use Rattle.std.specs.Prelude.{◌≡◌, true, false, ◌≤◌, Result, Ok, Err}
use Rattle.std.specs.Result.{is_err}
use Rattle.std.proofs.Common.{sym, eq-eqb, ne_eqb}
use Rattle.virtio.specs.Memory.{Memory}
use Rattle.rules.specs.Record.{Queue, is_open}
use Rattle.rules.specs.WellFormed.{broken, well_formed}
use Rattle.rules.specs.Answer.{refused, Busy, BadRecord}
use Rattle.rules.specs.Calls.{available_desc, available_now, answered}
use Rattle.laws.specs.WellFormedIs.{well_formed_means}
use Rattle.wellformed.specs.declared.clause.Clause.{Clause}
use Rattle.wellformed.specs.Numbers.{broken_number}
use Rattle.refusals.specs.Told.{told_well}

module _ (q : Queue) (m : Memory) where
  pub count_bad : (broken q ≡ 0 → ⊥) → available_desc q m ≡ refused BadRecord q m
  unfolding available_desc well_formed
  count_bad e = rw (ne_eqb (broken q) 0 e)

  module _ (e : broken q ≡ 0) where
    pub count_busy : is_open q.call ≡ true → available_desc q m ≡ refused Busy q m
    unfolding available_desc well_formed
    count_busy o = rw (eq-eqb (broken q) 0 e, o)

    pub count_told : is_open q.call ≡ false → available_desc q m ≡ answered 0 (available_now q) q m
    unfolding available_desc well_formed
    count_told o = rw (eq-eqb (broken q) 0 e, o)

-- what the check's result tells of the record
pub broken_told : (q : Queue) (r : Result (Unit {0}) Clause) → broken_number r ≡ broken q → is_err r ≡ true → broken q ≡ 0 → ⊥
unfolding well_formed broken
broken_told q (Ok u) e f z = true_false f
  where
    true_false : false ≡ true → ⊥
    true_false g = cc
broken_told q (Err k) e f z =
    let w : false ≡ well_formed q = told_well q (Err k) e in
    let v : well_formed q ≡ true = eq-eqb (broken q) 0 z in
    cc

pub sound_told : (q : Queue) (r : Result (Unit {0}) Clause) → broken_number r ≡ broken q → is_err r ≡ false → broken q ≡ 0
sound_told q (Ok u) e f = sym e
sound_told q (Err k) e f = absurd (true_false f)
  where
    true_false : true ≡ false → ⊥
    true_false g = cc

pub used_within : (q : Queue) → broken q ≡ 0 → q.counts.used ≤ q.n
unfolding well_formed
used_within q e = (well_formed_means q (eq-eqb (broken q) 0 e)).used
