-- A new that does not refuse makes a well-formed record, such as private memory can hold.
use Rattle.std.specs.Prelude.{◌≡◌, Bool, true, false, cond, not, ◌&&◌, ◌||◌, List, [], ◌∷◌, ℕ, ltb, leb, eqb, length}
use Rattle.std.proofs.Math.Path.{refl, subst}
use Rattle.std.proofs.Common.{sym, arith, eqb-true}
use Rattle.std.proofs.lemmas.Bool.{eqb-false, not-false}
use Rattle.lists.specs.Pick.{Test, ◌when◌}
use Rattle.lists.specs.PickLaws.{first_none, NoneOf}
use Rattle.lists.specs.Tests.{and_right, implied}
use Rattle.virtio.specs.Layout.{need_one, need_two, need_pool}
use Rattle.virtio.specs.Memory.{Memory}
use Rattle.rules.specs.WellFormed.{size_ok, base_ok}
use Rattle.rules.specs.Meaning.{WellFormed, Based}
use Rattle.rules.specs.Answer.{InvalidParam, BadSize, AlreadyUsed, BadRegion}
use Rattle.rules.specs.New.{Ask, made, not_made, new, new_refusal, regions_ok, lends, fresh_queue}
use Rattle.laws.specs.WellFormedIs.{size_means, based_means}
use Rattle.laws.specs.FreshKeeps.{fresh_keeps, fresh_held}
use Rattle.laws.specs.Held.{Held}
use Rattle.laws.specs.CallKeeps.{Good}

module _ (a : Ask) (m : Memory) where
  abbrev refusal : ℕ
  refusal = new_refusal a (length m.one) (length m.two) (length m.pool)

  abbrev tests : List Test
  tests =
      (BadSize when not (size_ok a.n))
      ∷ (AlreadyUsed when a.in_use)
      ∷ (InvalidParam when ltb a.most a.n)
      ∷ (BadRegion when not (regions_ok a (length m.one) (length m.two) (length m.pool)))
      ∷ []

  -- a new that answers 0 refused nothing, and made the fresh record
  by_answer : (b : Bool) → eqb refusal 0 ≡ b → (cond b (made a m) (not_made refusal m)).answer ≡ 0 → (refusal ≡ 0) × ((cond b (made a m) (not_made refusal m)).queue ≡ fresh_queue a)
  by_answer true e f = (eqb-true refusal 0 e, refl)
  by_answer false e f = absurd (eqb-false refusal 0 e f)

  pool_based : refusal ≡ 0 → a.modes.indirect ≡ true → Based a.base_pool (need_pool a.n)
  pool_based e i =
      let t : NoneOf tests = first_none tests (omega arith) e in
      let r : regions_ok a (length m.one) (length m.two) (length m.pool) ≡ true = not-false _ t.1.1.1.0 in
      let p : (not a.modes.indirect || lends a.base_pool (need_pool a.n) (length m.pool)) ≡ true =
      and_right (a.modes.legacy || lends a.base_two (need_two false a.n) (length m.two)) (not a.modes.indirect || lends a.base_pool (need_pool a.n) (length m.pool))
      (and_right (lends a.base_one (need_one a.modes.legacy a.n) (length m.one)) ((a.modes.legacy || lends a.base_two (need_two false a.n) (length m.two)) && (not a.modes.indirect || lends a.base_pool (need_pool a.n) (length m.pool))) r) in
      based_means a.base_pool (need_pool a.n) (and_right (leb (need_pool a.n) (length m.pool)) (base_ok a.base_pool (need_pool a.n)) (implied a.modes.indirect (lends a.base_pool (need_pool a.n) (length m.pool)) p i))

  -- THE LAWS
  pub new_keeps : (new a m).answer ≡ 0 → WellFormed (new a m).queue
  unfolding new
  new_keeps f =
      let b = by_answer (eqb refusal 0) refl f in
      let t : NoneOf tests = first_none tests (omega arith) b.0 in
      subst WellFormed (sym b.1) (fresh_keeps a (size_means a.n (not-false (size_ok a.n) t.0)) (pool_based b.0))

  pub new_good : (new a m).answer ≡ 0 → Good (new a m).queue
  unfolding new
  new_good f =
      let b = by_answer (eqb refusal 0) refl f in
      let t : NoneOf tests = first_none tests (omega arith) b.0 in
      record {
        held = subst Held (sym b.1) (fresh_held a (size_means a.n (not-false (size_ok a.n) t.0)));
        well = new_keeps f;
      }
