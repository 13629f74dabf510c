-- What a call has that nothing refuses: a record that is held and well formed, in words with room for it, and regions that do.
use Rattle.std.specs.Prelude.{◌≡◌, Bool, true, not, ◌&&◌, ◌||◌, List, ℕ, ◌*◌, ◌≤◌, ◌<◌, leb, length, drop}
use Rattle.std.proofs.Common.{◌∙◌, arith, leb-true}
use Rattle.std.proofs.Math.Nat.{mul-le-mul}
use Rattle.std.proofs.Math.ListN.{length-map, length-take, length-drop}
use Rattle.lists.specs.Tests.{and_left, and_right, implied}
use Rattle.lists.specs.Pick.{rising}
use Rattle.lists.specs.PickLaws.{length_rising}
use Rattle.virtio.specs.Layout.{need_one, need_two, need_pool}
use Rattle.rules.specs.Record.{Queue}
use Rattle.rules.specs.WellFormed.{well_formed}
use Rattle.rules.specs.Meaning.{WellFormed}
use Rattle.laws.specs.WellFormedIs.{means_size, well_formed_means}
use Rattle.laws.specs.StepKeeps.{power_most}
use Rattle.views.specs.declared.Core.{Core}
use Rattle.views.specs.Tables.{desc_in, entry_in, tables_of, queue_of}
use Rattle.wellformed.specs.Room.{Room, HasRoom, room_of}
use Rattle.tables.specs.declared.TablesRef.{TablesRef}
use Rattle.tables.specs.declared.TablesMut.{TablesMut}
use Rattle.tables.specs.Lent.{tables_read, tables_held}
use Rattle.tables.specs.Ready.{Ready, ReadyRead, ReadyHeld, Fitting}
use Rattle.refusals.specs.Refusals.{fits_by}

-- the 16-bit indices of a struct
pub record Indices (c : Core) : Type 0 where
  pub avail : c.avail_idx < 65536
  pub last : c.last_used_idx < 65536

module _ (c : Core) (r : ℕ) (words lens halves : List ℕ) (sides : List Bool) where
  abbrev q : Queue
  q = queue_of c (tables_of r words lens halves sides)

  pub shadow_length : length q.tables.shadow ≡ r
  unfolding tables_of
  shadow_length = length-map (rising r 0) (desc_in r words lens halves sides) ∙ length_rising r 0

  pub kept_length : length q.tables.kept ≡ r * r
  unfolding tables_of
  kept_length = length-map (rising (r * r) 0) (entry_in r words lens halves sides) ∙ length_rising (r * r) 0

  pub noted_length : 3 * r ≤ length halves → length q.tables.noted ≡ r
  unfolding tables_of
  noted_length h = omega (arith, length-take r (drop (2 * r) halves), length-drop (2 * r) halves)

  -- THE LAW: a record that the check finds unbroken is ready
  pub ready : Room c r words lens halves sides → Indices c → well_formed q ≡ true → Ready c r words lens halves sides
  unfolding well_formed
  ready room i e =
      let w : WellFormed q = well_formed_means q e in
      let n : c.n ≤ r = room.enough (means_size c.n w.size) in
      let k : c.n * c.n ≤ r * r = mul-le-mul n n in
      record {
        within = n;
        words_of = room.words_of;
        lens_of = room.lens_of;
        halves_of = room.halves_of;
        sides_of = room.sides_of;
        good = record {
          held = record {
            shadow = omega (arith, shadow_length);
            noted = omega (arith, noted_length room.halves_of);
            kept = omega (arith, kept_length);
            avail = i.avail;
            last = i.last;
          };
          well = w;
        };
      }

-- the same of tables that are lent with room for so many, to be read and to be changed
pub ready_read : (c : Core) (t : TablesRef) → HasRoom c t.room → Indices c → well_formed (queue_of c (tables_read t)) ≡ true → ReadyRead c t
ready_read c t e i w =
    ready c t.room t.words.now t.lens.now t.halves.now t.sides.now
    (room_of c t e) i w

pub ready_held : (c : Core) (t : TablesMut) → HasRoom c t.room → Indices c → well_formed (queue_of c (tables_held t)) ≡ true → ReadyHeld c t
ready_held c t e i w =
    ready c t.room t.words.now t.lens.now t.halves.now t.sides.now
    (record { most = e.most; enough = e.enough; words_of = t.words_of; lens_of = t.lens_of; halves_of = t.halves_of; sides_of = t.sides_of })
    i w

-- the size of a well-formed record, and its num_used
pub sized : (q : Queue) → well_formed q ≡ true → (q.n ≤ 64) × (q.counts.used ≤ q.n)
sized q e =
    let w : WellFormed q = well_formed_means q e in
    (power_most q.n w.size.0 w.size.1 w.size.2, w.used)

-- regions that do
pub fitting : (c : Core) (one two pool : List ℕ) → fits_by c (length one) (length two) (length pool) ≡ true → Fitting c one two pool
fitting c one two pool e =
    let a : Bool = leb (need_one c.modes.legacy c.n) (length one) in
    let b : Bool = leb (need_two c.modes.legacy c.n) (length two) in
    let d : Bool = not c.modes.indirect || leb (need_pool c.n) (length pool) in
    record {
      one_of = leb-true (need_one c.modes.legacy c.n) (length one) (and_left a (b && d) e);
      two_of = leb-true (need_two c.modes.legacy c.n) (length two) (and_left b d (and_right a (b && d) e));
      pool_of = λ i. leb-true (need_pool c.n) (length pool) (implied c.modes.indirect (leb (need_pool c.n) (length pool)) (and_right b d (and_right a (b && d) e)) i);
    }
