-- The rules' tables that lent words say, and that a loan stays the same: its slices, and its room.
use Rattle.std.specs.Prelude.{◌≡◌, refl}
use Rattle.std.proofs.Common.{◌∙◌}
use Rattle.rules.specs.Record.{Tables}
use Rattle.views.specs.Tables.{tables_of}
use Rattle.tables.specs.declared.TablesRef.{TablesRef}
use Rattle.tables.specs.declared.TablesMut.{TablesMut}

-- the tables that are lent to be read, and to be changed
abbrev pub tables_read : TablesRef → Tables
tables_read t = tables_of t.room t.words.now t.lens.now t.halves.now t.sides.now

abbrev pub tables_held : TablesMut → Tables
tables_held t = tables_of t.room t.words.now t.lens.now t.halves.now t.sides.now

-- r reads what t holds
pub record Reads (t : TablesMut) (r : TablesRef) : Type 0 where
  pub room : r.room ≡ t.room
  pub words : r.words.now ≡ t.words.now
  pub lens : r.lens.now ≡ t.lens.now
  pub halves : r.halves.now ≡ t.halves.now
  pub sides : r.sides.now ≡ t.sides.now

-- t and u are lent the same slices, with the same room, whatever these hold
pub record SameLoan (t u : TablesMut) : Type 0 where
  pub room : u.room ≡ t.room
  pub words : u.words.ghost_name ≡ t.words.ghost_name
  pub lens : u.lens.ghost_name ≡ t.lens.ghost_name
  pub halves : u.halves.ghost_name ≡ t.halves.ghost_name
  pub sides : u.sides.ghost_name ≡ t.sides.ghost_name

-- ---- laws: what is read is what is held, and a loan that stays the same twice stays the same

pub reads_tables : (t : TablesMut) (r : TablesRef) → Reads t r → tables_read r ≡ tables_held t
reads_tables t r h = rw (h.room, h.words, h.lens, h.halves, h.sides)

pub same_loan_refl : (t : TablesMut) → SameLoan t t
same_loan_refl t = record { room = refl; words = refl; lens = refl; halves = refl; sides = refl }

pub same_loan_trans : (t u v : TablesMut) → SameLoan t u → SameLoan u v → SameLoan t v
same_loan_trans t u v a b =
    record { room = b.room ∙ a.room; words = b.words ∙ a.words; lens = b.lens ∙ a.lens; halves = b.halves ∙ a.halves; sides = b.sides ∙ a.sides }
