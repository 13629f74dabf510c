-- The rules' record of the struct: its plain fields, and the tables that its words say, with room for 64 descriptors. It fixes the struct.
use Rattle.std.specs.Prelude.{◌≡◌, false, ℕ}
use Rattle.std.proofs.Common.{ap}
use Rattle.rules.specs.declared.Open.TheVariants.{Idle}
use Rattle.rules.specs.Record as model
use Rattle.rules.specs.New.{limit}
use Rattle.views.specs.declared.Core.{Core}
use Rattle.views.specs.Tables.{tables_of, queue_of}
use Rattle.views.specs.Fixed.{Stored, words_fixed, lens_fixed, halves_fixed, sides_fixed}
use Rattle.tables.specs.declared.TablesRef.{TablesRef}
use Rattle.record.specs.declared.Queue.{Queue}

abbrev pub room : ℕ
room = limit

abbrev pub abs : Queue → model.Queue
abs q = queue_of q.core (tables_of room q.words q.lens q.halves q.sides)

-- its tables as they are lent to be read
pub record Lends (q : Queue) (t : TablesRef) : Type 0 where
  pub has_room : t.room ≡ room
  pub words : t.words.now ≡ q.words
  pub lens : t.lens.now ≡ q.lens
  pub halves : t.halves.now ≡ q.halves
  pub sides : t.sides.now ≡ q.sides

-- the arrays of every struct have these lengths
abbrev pub Arrays : Queue → Type 0
Arrays q = Stored room q.words q.lens q.halves q.sides

-- THE LAW: an equation of rules' records is one of structs
core_fixed : (c d : Core) (s t : model.Tables) → queue_of c s ≡ queue_of d t → c ≡ d
core_fixed c d s t e = λ i. record {
  n = (e i).n;
  modes = (e i).modes;
  base = (e i).base;
  num_used = (e i).counts.used;
  free_head = (e i).counts.free;
  avail_idx = (e i).counts.avail;
  last_used_idx = (e i).counts.last;
  call = (e i).call;
}

pub abs_fixes : (p q : Queue) → Arrays p → Arrays q → abs p ≡ abs q → p ≡ q
abs_fixes p q a b e =
    let c : p.core ≡ q.core = core_fixed p.core q.core _ _ e in
    let t : tables_of room p.words p.lens p.halves p.sides ≡ tables_of room q.words q.lens q.halves q.sides = ap (λ (m : model.Queue). m.tables) e in
    let w : p.words ≡ q.words = words_fixed room p.words p.lens p.halves q.words q.lens q.halves p.sides q.sides a b t in
    let l : p.lens ≡ q.lens = lens_fixed room p.words p.lens p.halves q.words q.lens q.halves p.sides q.sides a b t in
    let h : p.halves ≡ q.halves = halves_fixed room p.words p.lens p.halves q.words q.lens q.halves p.sides q.sides a b t in
    let s : p.sides ≡ q.sides = sides_fixed room p.words p.lens p.halves q.words q.lens q.halves p.sides q.sides a b t in
    λ i. record { core = c i; words = w i; lens = l i; halves = h i; sides = s i }

-- the plain fields of the all-zero record
abbrev pub zero_core : Core
zero_core = record {
  n = 0;
  modes = record { indirect = false; event_idx = false; legacy = false };
  base = 0;
  num_used = 0;
  free_head = 0;
  avail_idx = 0;
  last_used_idx = 0;
  call = Idle;
}
