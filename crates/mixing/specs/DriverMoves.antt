-- What keeps the invariant where the driver's record changes, or the driver stores to a field that the invariant does not speak of.
use Rattle.std.specs.Prelude.{◌≡◌, refl, true, false, ℕ, ◌+◌, ◌*◌, ◌/◌, ◌%◌, ◌≤◌, ◌<◌}
use Rattle.std.proofs.Common.{sym, ap, subst, ◌∙◌, arith}
use Rattle.lists.specs.Once.{count}
use Rattle.virtio.specs.Desc.{has_indirect}
use Rattle.virtio.specs.Device.{device_writes}
use Rattle.virtio.specs.Memory.{Memory, Place, desc, entry}
use Rattle.virtio.specs.Sizes.{Has}
use Rattle.rules.specs.declared.Open.{Open}
use Rattle.rules.specs.Record.{Queue, Counts, Tables, desc_of, chain_of, outstanding, is_indirect, entries_of, with_call}
use Rattle.rules.specs.Calls.{fits}
use Rattle.laws.specs.CallKeeps.{Good}
use Rattle.mixing.specs.Device.{Table, in_table, in_list, Doing, resting, take_idx, take_head, take_chain, complete_id, complete_len, complete_idx, Device}
use Rattle.mixing.specs.Fields.{dsc, Changed}
use Rattle.mixing.specs.Facts.{Stage, taken, offered, returned, is_out, Notes, InChain, TableOk, Led, Blank, DriverAt, Reading, DeviceAt, Facts}
use Rattle.mixing.specs.Shows.{shown_kept, device_kept}

-- the record with other counts, tables and open call
abbrev pub remade : Queue → Counts → Tables → Open → Queue
remade q c t o = record { n = q.n; modes = q.modes; base = q.base; counts = c; tables = t; call = o }

-- a chain that the change leaves is led as before
module _ (base : ℕ) (q : Queue) (m : Memory) (c : Counts) (t : Tables) (o : Open) (h : ℕ)
    (chain : chain_of (remade q c t o) h ≡ chain_of q h) (head : desc_of (remade q c t o) h ≡ desc_of q h) where
  abbrev r : Queue
  r = remade q c t o

  in_moves : (i : ℕ) → InChain q h i → InChain r h i
  in_moves i x = subst (λ z. 0 < count i z) (sym chain) x

  in_back : (i : ℕ) → InChain r h i → InChain q h i
  in_back i x = subst (λ z. 0 < count i z) chain x

  indirect_moves : is_indirect q h ≡ true → is_indirect r h ≡ true
  indirect_moves e = ap has_indirect head ∙ e

  indirect_back : is_indirect r h ≡ true → is_indirect q h ≡ true
  indirect_back e = ap has_indirect (sym head) ∙ e

  entries : entries_of r h ≡ entries_of q h
  entries = ap (λ x. x.len / 16) head

  led_moves : Led base q m h → Led base r m h
  led_moves l = (
    (λ i x. let y : TableOk base q h (dsc q (desc i) m) = l.0 i (in_back i x) in
        ((λ e. let z = y.0 e in (indirect_moves z.0, z.1)), (λ e n. in_moves _ (y.1 e n)))),
    (λ e j u n. let b : j < entries_of q h = subst (λ z. j < z) entries u in
        subst (λ z. (dsc q (entry (q.n * h + j)) m).next < z) (sym entries) (l.1 (indirect_back e) j b n)),
  )

  reading_moves : (g g' : Notes) (s : Table) (i : ℕ) → Reading q g h s i → Reading r g' h s i
  reading_moves g g' in_table i x = in_moves i x
  reading_moves g g' (in_list s) i x = (indirect_moves x.0, x.1, subst (λ z. i < z) (sym entries) x.2)

module _ (base : ℕ) (q : Queue) (m : Memory) (d : Device) (g : Notes) (f : Facts base q m d g) where
  -- ---- the record changes, and the memory does not

  -- what is asked of the new record, of the stages and of how many were popped
  pub record Moves (c : Counts) (t : Tables) (o : Open) (pops : ℕ) (stage : ℕ → Stage) : Type 0 where
    pub good : Good (remade q c t o)
    pub avail : c.avail ≡ q.counts.avail
    pub last : c.last ≡ pops % 65536
    pub more : g.pops ≤ pops
    pub most : pops ≤ g.uses
    pub outs : (h : ℕ) → outstanding (remade q c t o) h ≡ is_out (stage h)
    pub held : (h : ℕ) → g.stage h ≡ taken → stage h ≡ taken
    pub offers : (h k : ℕ) → g.stage h ≡ offered k → stage h ≡ offered k
    pub back : (h k : ℕ) → stage h ≡ offered k → g.stage h ≡ offered k
    pub returns : (h k : ℕ) → pops ≤ k → g.stage h ≡ returned k → stage h ≡ returned k
    pub chain : (h k : ℕ) → g.stage h ≡ offered k → (chain_of (remade q c t o) h ≡ chain_of q h) × (desc_of (remade q c t o) h ≡ desc_of q h)

  module _ (c : Counts) (t : Tables) (o : Open) (pops : ℕ) (stage : ℕ → Stage) (v : Moves c t o pops stage) where
    abbrev made : Queue
    made = remade q c t o

    abbrev pub moved_notes : Notes
    moved_notes = record { adds = g.adds; takes = g.takes; uses = g.uses; pops = pops; stage = stage }

    device_moves : (a : Doing) → DeviceAt q m d g a → DeviceAt made m d moved_notes a
    device_moves resting x = tt
    device_moves take_idx x = tt
    device_moves take_head x = x
    device_moves (take_chain h k s i bs) x =
        let z = v.chain h g.takes x.1 in
        (x.0, v.offers h g.takes x.1, reading_moves base q m c t o h z.0 z.1 g moved_notes s i x.2, x.3)
    device_moves (complete_id h l) x = x
    device_moves (complete_len h l) x = x
    device_moves (complete_idx h l) x = x

    -- THE LAW
    pub moved : DriverAt base made m moved_notes o → Facts base made m d moved_notes
    moved a =
        let x : g.pops ≤ pops = v.more in
        let y : g.adds ≤ g.pops + 64 = f.near in
        record {
          good = v.good;
          fit = f.fit;
          based = f.based;
          avail = v.avail ∙ f.avail;
          last = v.last;
          took = f.took;
          gave = f.gave;
          popped = v.most;
          given = f.given;
          offers = f.offers;
          near = omega arith;
          outs = v.outs;
          held = λ h e. v.held h (f.held h e);
          once = f.once;
          many = f.many;
          shown = record {
            idx = f.shown.idx;
            used = f.shown.used;
            slots = λ k l u. v.offers _ k (f.shown.slots k l u);
            elements = λ k l u. v.returns _ k l (f.shown.elements k (omega arith) u);
            led = λ h k e. let b : g.stage h ≡ offered k = v.back h k e in
                led_moves base q m c t o h (v.chain h k b).0 (v.chain h k b).1 (f.shown.led h k b);
          };
          at_driver = a;
          at_device = device_moves d.doing f.at_device;
        }

  -- only the open call changes
  pub called : (o : Open) → Good (with_call q o) → DriverAt base (with_call q o) m g o → Facts base (with_call q o) m d g
  called o k a =
      moved q.counts q.tables o g.pops g.stage
      (record {
        good = k;
        avail = refl;
        last = f.last;
        more = omega arith;
        most = f.popped;
        outs = f.outs;
        held = λ h e. e;
        offers = λ h j e. e;
        back = λ h j e. e;
        returns = λ h j l e. e;
        chain = λ h j e. (refl, refl);
      }) a

  -- ---- the driver stores to a field that the invariant does not speak of

  module _ (p : Place) (m' : Memory) (has : Has q.n p) (own : device_writes p ≡ false) (blank : Blank q g p) (changed : Changed q p m m')
      (fit : fits q m' ≡ true) where
    -- all but the open call
    pub stored_idle : DriverAt base q m' g q.call → Facts base q m' d g
    stored_idle a = record {
      good = f.good;
      fit = fit;
      based = f.based;
      avail = f.avail;
      last = f.last;
      took = f.took;
      gave = f.gave;
      popped = f.popped;
      given = f.given;
      offers = f.offers;
      near = f.near;
      outs = f.outs;
      held = f.held;
      once = f.once;
      many = f.many;
      shown = shown_kept base q m m' g f.good.well f.outs p has changed blank f.shown;
      at_driver = a;
      at_device = device_kept base q m m' g f.good.well f.outs p has changed own d d.doing f.at_device;
    }

-- ---- and the open call changes then
pub stored : (base : ℕ) (q : Queue) (m : Memory) (d : Device) (g : Notes) → Facts base q m d g → (p : Place) (m' : Memory) → Has q.n p
    → device_writes p ≡ false → Blank q g p
    → Changed q p m m' → fits q m' ≡ true → DriverAt base q m' g q.call → (o : Open) → Good (with_call q o) → DriverAt base (with_call q o) m' g o
    → Facts base (with_call q o) m' d g
stored base q m d g f p m' has own blank changed fit a o k b =
    called base q m' d g (stored_idle base q m d g f p m' has own blank changed fit a) o k b
