-- What the code of the calls asks: a record in lent words that has passed the check; lent bytes as long as it needs; and what follows at once.
use Rattle.std.specs.Prelude.{◌≡◌, Bool, true, List, ℕ, ◌+◌, ◌*◌, ◌^◌, ◌≤◌, ◌<◌, length}
use Rattle.std.proofs.Common.{ap, subst, mul-le-mul, arith, length-take}
use Rattle.std.proofs.Math.Nat.{pow-le-pow_right}
use Rattle.virtio.specs.declared.Desc.{Desc}
use Rattle.virtio.specs.Layout.{need_one, need_two, need_pool}
use Rattle.rules.specs.Meaning.{WellFormed}
use Rattle.laws.specs.CallKeeps.{Good}
use Rattle.views.specs.declared.Core.{Core}
use Rattle.views.specs.Views.{Closed}
use Rattle.views.specs.Tables.{nexts_in, tables_of, queue_of, desc_is}
use Rattle.tables.specs.declared.TablesRef.{TablesRef}
use Rattle.tables.specs.declared.TablesMut.{TablesMut}
use Rattle.tables.specs.Lent.{Reads}

-- room for n descriptors, and a record that is held and well formed
pub record Ready (c : Core) (r : ℕ) (words lens halves : List ℕ) (sides : List Bool) : Type 0 where
  pub within : c.n ≤ r
  pub words_of : r + r * r ≤ length words
  pub lens_of : r + r * r ≤ length lens
  pub halves_of : 3 * r ≤ length halves
  pub sides_of : r * r ≤ length sides
  pub good : Good (queue_of c (tables_of r words lens halves sides))

-- the same of tables that the code is lent, to be read and to be changed
abbrev pub ReadyRead : Core → TablesRef → Type 0
ReadyRead c t = Ready c t.room t.words.now t.lens.now t.halves.now t.sides.now

abbrev pub ReadyHeld : Core → TablesMut → Type 0
ReadyHeld c t = Ready c t.room t.words.now t.lens.now t.halves.now t.sides.now

-- the lent regions and, in indirect mode, the pool
pub record Fitting (c : Core) (one two pool : List ℕ) : Type 0 where
  pub one_of : need_one c.modes.legacy c.n ≤ length one
  pub two_of : need_two c.modes.legacy c.n ≤ length two
  pub pool_of : c.modes.indirect ≡ true → need_pool c.n ≤ length pool

module _ (c : Core) (r : ℕ) (words lens halves : List ℕ) (sides : List Bool) (s : Ready c r words lens halves sides) where
  -- the size is 1 to 64, and so many entries of lists lie in the room
  pub small : (0 < c.n) × (c.n ≤ 64)
  small =
      let w : WellFormed (queue_of c (tables_of r words lens halves sides)) = s.good.well in
      let most : 2 ^ w.size.0 ≤ 2 ^ 6 = pow-le-pow_right (omega arith) w.size.1 in
      let e : c.n ≡ 2 ^ w.size.0 = w.size.2 in
      let f : c.free_head < c.n = w.free in
      (omega arith, omega arith)

  pub square : c.n * c.n ≤ r * r
  square = mul-le-mul s.within s.within

  -- links stay among the descriptors
  pub closed : Closed c.n (nexts_in r halves)
  closed = record {
    room = (let w = s.within in let h = s.halves_of in omega (arith, length-take r halves));
    nexts = λ i l. subst (λ x. x < c.n) (ap (λ (d : Desc). d.next) (desc_is r words lens halves sides i)) (s.good.well.nexts i l);
  }

-- tables that are held ready are ready to be read
pub reads_ready : (c : Core) (t : TablesMut) (r : TablesRef) → Reads t r → ReadyHeld c t → ReadyRead c r
reads_ready c t r h s = rw (h.room, h.words, h.lens, h.halves, h.sides) s
