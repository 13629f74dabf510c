-- The call new by its refusal: what it answers where that is 0 and where it is not, and what 0 says of what is asked and lent.
use Rattle.std.specs.Prelude.{◌≡◌, refl, Bool, true, false, not, cond, ◌&&◌, ◌||◌, List, [], ◌∷◌, ℕ, ◌+◌, ◌%◌, ◌^◌, ◌≤◌, ◌<◌, ltb, leb, eqb, length}
use Rattle.std.proofs.Common.{arith, leb-true, eq-eqb, ne_eqb}
use Rattle.std.proofs.lemmas.Bool.{not-false}
use Rattle.lists.specs.Tests.{by_test, and_left, and_right}
use Rattle.lists.specs.Pick.{Test, ◌when◌}
use Rattle.lists.specs.PickLaws.{Numbered, NoneOf, first_none, mem_all}
use Rattle.virtio.specs.Layout.{page, avail_at, used_at, need_one, need_two, need_pool}
use Rattle.virtio.specs.Memory.{Memory}
use Rattle.virtio.specs.Sizes.{front_inside, used_in_one, used_in_two}
use Rattle.rules.specs.WellFormed.{size_ok, base_ok}
use Rattle.rules.specs.Answer.{InvalidParam, BadSize, AlreadyUsed, BadRegion}
use Rattle.rules.specs.New.{Ask, lends, new_refusal, clear_used, clear_front, used_base, made, not_made, new}
use Rattle.access.specs.Accesses.{memory}

-- ---- sizes

pub size_small : (n : ℕ) → size_ok n ≡ true → n ≤ 64
unfolding size_ok
size_small n e =
    mem_all (λ k. k ≤ 64) n (1 ∷ 2 ∷ 4 ∷ 8 ∷ 16 ∷ 32 ∷ 64 ∷ []) (omega arith) e

pub size_large : (n : ℕ) → 64 < n → size_ok n ≡ false
size_large n h = by_test (size_ok n) (λ e. absurd (omega (arith, size_small n e))) (λ e. e)

-- ---- a region that does

lends_true : (base size have : ℕ) → lends base size have ≡ true → (size ≤ have) × (base + size ≤ 2 ^ 64)
lends_true base size have e =
    let fits : base_ok base size ≡ true = and_right (leb size have) (base_ok base size) e in (
      leb-true size have (and_left (leb size have) (base_ok base size) e),
      leb-true (base + size) (2 ^ 64) (and_right (eqb (base % page) 0) (leb (base + size) (2 ^ 64)) fits),
    )

-- region two, in either layout
two_lent : (legacy : Bool) (n base two : ℕ) → (legacy || lends base (need_two false n) two) ≡ true → need_two legacy n ≤ two
unfolding need_two
two_lent true n base two e = omega arith
two_lent false n base two e = (lends_true base (need_two false n) two e).0

used_below : (legacy : Bool) (n one-base two-base two : ℕ) → one-base + need_one legacy n ≤ 2 ^ 64
    → (legacy || lends two-base (need_two false n) two) ≡ true → cond legacy one-base two-base + used_at legacy n < 2 ^ 64
used_below true n one-base two-base two h e = omega (arith, used_in_one true n refl)
used_below false n one-base two-base two h e =
    omega (arith, used_in_two false n refl, lends_true two-base (need_two false n) two e)

-- ---- the call, by its refusal

module _ (a : Ask) (m : Memory) where
  -- the number by which it refuses
  abbrev pub refusal : ℕ
  refusal = new_refusal a (length m.one) (length m.two) (length m.pool)

  pub new_made : refusal ≡ 0 → new a m ≡ made a m
  unfolding new
  new_made e = rw (eq-eqb refusal 0 e)

  pub new_not : (refusal ≡ 0 → ⊥) → new a m ≡ not_made refusal m
  unfolding new
  new_not e = rw (ne_eqb refusal 0 e)

  -- the parts of `regions_ok`, and the tests of `new_refusal` in their order
  abbrev one_does : Bool
  one_does = lends a.base_one (need_one a.modes.legacy a.n) (length m.one)

  abbrev two_does : Bool
  two_does = a.modes.legacy || lends a.base_two (need_two false a.n) (length m.two)

  abbrev pool_does : Bool
  pool_does = not a.modes.indirect || lends a.base_pool (need_pool a.n) (length m.pool)

  abbrev all_do : Bool
  all_do = one_does && (two_does && pool_does)

  abbrev tests : List Test
  tests =
      (BadSize when not (size_ok a.n))
      ∷ (AlreadyUsed when a.in_use)
      ∷ (InvalidParam when ltb a.most a.n)
      ∷ (BadRegion when not all_do)
      ∷ []

  numbered : Numbered tests
  numbered = omega arith

  -- WHAT NO REFUSAL SHOWS: n is small, the regions are long enough, and the addresses fit 64 bits
  pub record Fine : Type 0 where
    pub small : a.n ≤ 64
    pub one_has : need_one a.modes.legacy a.n ≤ length m.one
    pub two_has : need_two a.modes.legacy a.n ≤ length m.two
    pub avail_fits : a.base_one + avail_at a.n < 2 ^ 64
    pub used_fits : used_base a < 2 ^ 64

  pub fine : refusal ≡ 0 → Fine
  fine e =
      let legacy : Bool = a.modes.legacy in
      let none : NoneOf tests = first_none tests numbered e in
      let lent : all_do ≡ true = not-false all_do none.1.1.1.0 in
      let first : (need_one legacy a.n ≤ length m.one) × (a.base_one + need_one legacy a.n ≤ 2 ^ 64) =
      lends_true a.base_one (need_one legacy a.n) (length m.one) (and_left one_does (two_does && pool_does) lent) in
      let second : two_does ≡ true = and_left two_does pool_does (and_right one_does (two_does && pool_does) lent) in
      record {
        small = size_small a.n (not-false (size_ok a.n) none.0);
        one_has = first.0;
        two_has = two_lent legacy a.n a.base_two (length m.two) second;
        avail_fits = omega (arith, front_inside legacy a.n);
        used_fits = used_below legacy a.n a.base_one a.base_two (length m.two) first.1 second;
      }

-- ---- the memory: clearing leaves the pool's bytes, whatever they are

pub with_pool : (legacy : Bool) (n : ℕ) (one two one₁ two₁ pool : List ℕ) → memory one₁ two₁ [] ≡ clear_used legacy n (clear_front n (memory one two []))
    → memory one₁ two₁ pool ≡ clear_used legacy n (clear_front n (memory one two pool))
with_pool true n one two one₁ two₁ pool e = λ i. record { one = (e i).one; two = (e i).two; pool = pool }
with_pool false n one two one₁ two₁ pool e = λ i. record { one = (e i).one; two = (e i).two; pool = pool }
