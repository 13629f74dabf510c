-- The number of an owning record's first broken clause, case by case, as the code goes through them; and the held clause.
use Rattle.std.specs.Prelude.{◌≡◌, Bool, true, false, cond, ℕ, ◌+◌, ◌*◌, ◌≤◌, ◌<◌, ◌%◌, ◌^◌, leb, eqb}
use Rattle.std.proofs.Math.Path.{sym}
use Rattle.std.proofs.Common.{◌∙◌, eq-eqb, ne_eqb, lt-ltb, le-ltb, leb-true}
use Rattle.std.proofs.Math.Bool.{and-false}
use Rattle.lists.specs.Tests.{and_left, and_right}
use Rattle.lists.specs.Pick.{every}
use Rattle.rules.specs.Record.{Queue, outstanding, is_open}
use Rattle.rules.specs.WellFormed.{broken, well_formed, base_ok}
use Rattle.rules.specs.Owning.{Owning, holds, size_allowed, placed_clause, own_clause, held_clause, own_broken}
use Rattle.owns.specs.Turns.{out_but}

pub unbroken : (q : Queue) → broken q ≡ 0 → well_formed q ≡ true
unfolding well_formed
unbroken q e = eq-eqb (broken q) 0 e

pub is_broken : (q : Queue) → (broken q ≡ 0 → ⊥) → well_formed q ≡ false
unfolding well_formed
is_broken q e = ne_eqb (broken q) 0 e

-- a store at this base, of n buffers of this size, ends within 2^64
pub placed_ends : (base size n : ℕ) → base_ok base (n * size) ≡ true → base + n * size ≤ 2 ^ 64
placed_ends base size n e = leb-true (base + n * size) (2 ^ 64) (and_right (eqb (base % 4096) 0) (leb (base + n * size) (2 ^ 64)) e)

module _ (o : Owning) where
  pub by_queue : (x : ℕ) → x ≡ broken o.queue → (x ≡ 0 → ⊥) → x ≡ own_broken o
  unfolding own_broken
  by_queue x e z = e ∙ sym (rw (is_broken o.queue (λ b. z (e ∙ b))))

  module _ (w : broken o.queue ≡ 0) where
    pub by_open : is_open o.queue.call ≡ true → 11 ≡ own_broken o
    unfolding own_broken
    by_open i = sym (rw (unbroken o.queue w, i))

    module _ (i : is_open o.queue.call ≡ false) where
      pub by_base : base_ok o.base (o.queue.n * o.size) ≡ false → 12 ≡ own_broken o
      unfolding own_broken
      by_base b = sym (rw (unbroken o.queue w, i, b))

      pub by_size : size_allowed o.size ≡ false → 12 ≡ own_broken o
      unfolding own_broken
      by_size z = sym (rw (unbroken o.queue w, i, z, and-false (base_ok o.base (o.queue.n * o.size))))

      module _ (b : base_ok o.base (o.queue.n * o.size) ≡ true) (z : size_allowed o.size ≡ true) where
        pub by_own : own_clause o ≡ false → 13 ≡ own_broken o
        unfolding own_broken
        by_own c = sym (rw (unbroken o.queue w, i, b, z, c))

        module _ (c : own_clause o ≡ true) where
          pub by_held : held_clause o o.held ≡ false → 14 ≡ own_broken o
          unfolding own_broken
          by_held h = sym (rw (unbroken o.queue w, i, b, z, c, h))

          pub by_none : held_clause o o.held ≡ true → 0 ≡ own_broken o
          unfolding own_broken
          by_none h = sym (rw (unbroken o.queue w, i, b, z, c, h))

-- ---- the same by what is asked: base and size in one, and what is held last

module _ (o : Owning) where
  pub placed_within : placed_clause o ≡ true → o.base + o.queue.n * o.size ≤ 2 ^ 64
  placed_within p = placed_ends o.base o.size o.queue.n (and_left (base_ok o.base (o.queue.n * o.size)) (size_allowed o.size) p)

  module _ (w : broken o.queue ≡ 0) (i : is_open o.queue.call ≡ false) where
    pub by_placed : placed_clause o ≡ false → 12 ≡ own_broken o
    unfolding own_broken
    by_placed p = sym (rw (unbroken o.queue w, i, p))

    module _ (p : placed_clause o ≡ true) where
      abbrev based : base_ok o.base (o.queue.n * o.size) ≡ true
      based = and_left (base_ok o.base (o.queue.n * o.size)) (size_allowed o.size) p

      abbrev sized : size_allowed o.size ≡ true
      sized = and_right (base_ok o.base (o.queue.n * o.size)) (size_allowed o.size) p

      pub by_owned : own_clause o ≡ false → 13 ≡ own_broken o
      by_owned c = by_own o w i based sized c

      pub by_last : own_clause o ≡ true → (b : Bool) → b ≡ held_clause o o.held → cond b 0 14 ≡ own_broken o
      by_last c true h = by_none o w i based sized c (sym h)
      by_last c false h = by_held o w i based sized c (sym h)

-- ---- what is held, in the order of its tests

module _ (o : Owning) (t l : ℕ) where
  pub held_past : o.queue.n ≤ t → false ≡ held_clause o (holds t l)
  held_past p = sym (rw (le-ltb t o.queue.n p))

  module _ (p : t < o.queue.n) where
    pub held_out : outstanding o.queue t ≡ true → false ≡ held_clause o (holds t l)
    held_out u = sym (rw (u, lt-ltb t o.queue.n p))

    module _ (u : outstanding o.queue t ≡ false) where
      pub held_short : every (out_but o.queue t) o.queue.n 0 ≡ false → false ≡ held_clause o (holds t l)
      held_short e = sym (rw (u, e, lt-ltb t o.queue.n p))

      pub held_length : every (out_but o.queue t) o.queue.n 0 ≡ true → leb l o.size ≡ held_clause o (holds t l)
      held_length e = sym (rw (u, e, lt-ltb t o.queue.n p))
