-- The sections of lent tables, by field.
use Rattle.std.specs.Prelude.{◌≡◌, ℕ}
use Rattle.views.specs.declared.by_field.Fields.{Fields}
use Rattle.views.specs.Tables.{of_table, of_lists, nexts_in, flags_in, noted_in, sides_in}
use Rattle.tables.specs.declared.TablesRef.{TablesRef}

pub record IsBy (n : ℕ) (t : TablesRef) (f : Fields) : Type 0 where
  pub n_of : f.n ≡ n
  pub nexts : f.next.now ≡ nexts_in t.room t.halves.now
  pub flags : f.flags.now ≡ flags_in t.room t.halves.now
  pub noted : f.noted.now ≡ noted_in t.room t.halves.now
  pub addrs : f.addr.now ≡ of_table t.room t.words.now
  pub lengths : f.len.now ≡ of_table t.room t.lens.now
  pub lists : f.lens.now ≡ of_lists t.room t.lens.now
  pub kept : f.sides.now ≡ sides_in t.room t.sides.now
