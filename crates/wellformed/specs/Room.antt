-- What the check asks of the words that it is lent: room for as many descriptors as an allowed size has.
use Rattle.std.specs.Prelude.{◌≡◌, Bool, true, List, ℕ, ◌+◌, ◌*◌, ◌≤◌, length}
use Rattle.rules.specs.WellFormed.{size_ok}
use Rattle.views.specs.declared.Core.{Core}
use Rattle.tables.specs.declared.TablesRef.{TablesRef}

pub record Room (c : Core) (r : ℕ) (words lens halves : List ℕ) (sides : List Bool) : Type 0 where
  pub most : r ≤ 65536
  pub enough : size_ok c.n ≡ true → c.n ≤ r
  pub words_of : r + r * r ≤ length words
  pub lens_of : r + r * r ≤ length lens
  pub halves_of : 3 * r ≤ length halves
  pub sides_of : r * r ≤ length sides

-- what of it lent tables don't say of themselves
pub record HasRoom (c : Core) (r : ℕ) : Type 0 where
  pub most : r ≤ 65536
  pub enough : size_ok c.n ≡ true → c.n ≤ r

pub room_of : (c : Core) (t : TablesRef) → HasRoom c t.room → Room c t.room t.words.now t.lens.now t.halves.now t.sides.now
room_of c t h = record { most = h.most; enough = h.enough; words_of = t.words_of; lens_of = t.lens_of; halves_of = t.halves_of; sides_of = t.sides_of }
