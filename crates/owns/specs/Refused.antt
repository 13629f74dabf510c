-- The refusals of the owning queue's calls, case by case, where it is known whether memory and store do.
use Rattle.std.specs.Prelude.{◌≡◌, Bool, true, false, ℕ}
use Rattle.std.proofs.Common.{sym}
use borrow.Author.Tests.{eq-eqb, ne_eqb}
use Rattle.lists.specs.Pick.{first, rising, same}
use Rattle.rules.specs.Record.{Queue, free_list, is_open}
use Rattle.rules.specs.WellFormed.{broken}
use Rattle.rules.specs.Owning.{Owning, size_allowed, holds_none, own_broken, own_well_formed, own_new_tests, poll_tests, release_tests}
use Rattle.owns.specs.Owns.{lent_tests}
use Rattle.owns.specs.Clauses.{unbroken, is_broken}

-- ---- new

abbrev pub in_order_of : Queue → Bool
in_order_of q = same (free_list q) (rising q.n 0)

module _ (q : Queue) (size : ℕ) (fit : Bool) where
  pub new_bad : (broken q ≡ 0 → ⊥) → 12 ≡ first (own_new_tests q size fit)
  new_bad w = sym (rw (is_broken q w))

  module _ (w : broken q ≡ 0) where
    pub new_short : fit ≡ false → 13 ≡ first (own_new_tests q size fit)
    new_short f = sym (rw (unbroken q w, f))

    module _ (f : fit ≡ true) where
      pub new_busy : is_open q.call ≡ true → 11 ≡ first (own_new_tests q size fit)
      new_busy i = sym (rw (unbroken q w, f, i))

      module _ (i : is_open q.call ≡ false) where
        pub new_size : size_allowed size ≡ false → 1 ≡ first (own_new_tests q size fit)
        new_size s = sym (rw (unbroken q w, f, i, s))

        pub new_order : size_allowed size ≡ true → in_order_of q ≡ false → 1 ≡ first (own_new_tests q size fit)
        new_order s o = sym (rw (unbroken q w, f, i, s, o))

        pub new_told : size_allowed size ≡ true → in_order_of q ≡ true → 0 ≡ first (own_new_tests q size fit)
        new_told s o = sym (rw (unbroken q w, f, i, s, o))

-- ---- poll and release

module _ (o : Owning) where
  pub own_well : own_broken o ≡ 0 → own_well_formed o ≡ true
  unfolding own_well_formed
  own_well e = eq-eqb (own_broken o) 0 e

  own_bad : (own_broken o ≡ 0 → ⊥) → own_well_formed o ≡ false
  unfolding own_well_formed
  own_bad e = ne_eqb (own_broken o) 0 e

  module _ (fit : Bool) where
    pub lent_bad : (own_broken o ≡ 0 → ⊥) → 12 ≡ first (lent_tests o fit)
    lent_bad w = sym (rw (own_bad w))

    pub poll_bad : (own_broken o ≡ 0 → ⊥) → 12 ≡ first (poll_tests o fit)
    poll_bad w = sym (rw (own_bad w))

    pub release_bad : (own_broken o ≡ 0 → ⊥) → 12 ≡ first (release_tests o fit)
    release_bad w = sym (rw (own_bad w))

    module _ (w : own_broken o ≡ 0) where
      pub lent_short : fit ≡ false → 13 ≡ first (lent_tests o fit)
      lent_short f = sym (rw (own_well w, f))

      pub lent_told : fit ≡ true → 0 ≡ first (lent_tests o fit)
      lent_told f = sym (rw (own_well w, f))

      pub poll_short : fit ≡ false → 13 ≡ first (poll_tests o fit)
      poll_short f = sym (rw (own_well w, f))

      pub poll_told : fit ≡ true → holds_none o.held ≡ true → 0 ≡ first (poll_tests o fit)
      poll_told f h = sym (rw (own_well w, f, h))

      pub poll_held : fit ≡ true → holds_none o.held ≡ false → 11 ≡ first (poll_tests o fit)
      poll_held f h = sym (rw (own_well w, f, h))

      pub release_short : fit ≡ false → 13 ≡ first (release_tests o fit)
      release_short f = sym (rw (own_well w, f))

      pub release_unheld : fit ≡ true → holds_none o.held ≡ true → 8 ≡ first (release_tests o fit)
      release_unheld f h = sym (rw (own_well w, f, h))

      pub release_told : fit ≡ true → holds_none o.held ≡ false → 0 ≡ first (release_tests o fit)
      release_told f h = sym (rw (own_well w, f, h))
