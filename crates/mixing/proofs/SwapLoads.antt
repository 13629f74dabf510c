-- An event of the device that stores nothing, beside an event of the driver: where one of the two leaves its operation open, the device does what it would have
-- done before the driver's event.
use Rattle.std.specs.Prelude.{◌≡◌, Bool, true, false, cond, ◌⊎◌, List, [], ℕ, zero, suc, ◌+◌, ◌*◌, ◌%◌, ◌≤◌, ◌<◌}
use Rattle.std.proofs.Math.Path.{refl, sym, ap, subst}
use Rattle.std.proofs.Common.{◌∙◌, true≢false, inl, inr, arith, ne_eqb}
use Rattle.std.proofs.lemmas.Bool.{false≢true}
use Rattle.std.proofs.Math.Dec.{eqb}
use Rattle.virtio.specs.declared.Desc.{Desc}
use Rattle.virtio.specs.declared.Buffer.{Buffer}
use Rattle.virtio.specs.Desc.{has_next, has_indirect}
use Rattle.virtio.specs.Device.{may_give_back}
use Rattle.virtio.specs.Memory.{Memory, Place, desc, avail_flags, avail_idx, used_event, avail_ring, entry}
use Rattle.virtio.specs.Sizes.{Has}
use Rattle.rules.specs.Record.{Queue, is_indirect, entries_of}
use Rattle.rules.specs.Meaning.{WellFormed}
use Rattle.mixing.specs.Device.{Wiring, take_next, complete, see_avail_flags, see_used_event, none_available, saw, Table, in_table, in_list, take_idx, take_head, take_chain, Device, Worked, acting, goes, comes, begin, reads, work}
use Rattle.mixing.specs.Fields.{num, dsc, num_kept, dsc_kept, unlike}
use Rattle.mixing.specs.Facts.{Notes, InChain, offered, is_out, DeviceAt, Facts}
use Rattle.mixing.specs.Shows.{next_differs, slot_low, chain_low, entry_low, staged_out, table_same, list_same, slot_same, idx_same, taken_slot}
use Rattle.mixing.proofs.DeviceKeeps.{wire}
use Rattle.mixing.specs.Seen.{Filled, still, fills, tells, offers}

-- what an opening or a step comes to, over another memory
abbrev pub over : Worked → Memory → Worked
over x y = record { device = x.device; memory = y; done = x.done }

cond_over : (b c : Bool) (u v x y : Worked) (m : Memory) → b ≡ c → u ≡ over x m → v ≡ over y m → cond b u v ≡ over (cond c x y) m
cond_over b true u v x y m e s t = ap (λ z. cond z u v) e ∙ s
cond_over b false u v x y m e s t = ap (λ z. cond z u v) e ∙ t

module _ (base : ℕ) (q : Queue) (m : Memory) (d : Device) (g : Notes) (f : Facts base q m d g) (open? : Bool) where
  abbrev w : Wiring
  w = wire base q

  abbrev well : WellFormed q
  well = f.good.well

  -- ---- what the device loads

  -- the fields of which the invariant speaks, but for idx
  head_kept : (x : Memory) → Filled q g m open? x → g.takes < g.adds
      → num q (avail_ring (d.taken % q.n)) x ≡ num q (avail_ring (d.taken % q.n)) m
  unfolding Has
  head_kept x still l = refl
  head_kept x (fills p y h o c b u v) l =
      subst (λ z. num q (avail_ring z) x ≡ num q (avail_ring z) m) (sym (taken_slot q m d g f))
      (slot_same base q m x g well f.outs p h c b g.takes (omega arith) l)
  head_kept x (tells p y n h o c b) l =
      subst (λ z. num q (avail_ring z) x ≡ num q (avail_ring z) m) (sym (taken_slot q m d g f))
      (slot_same base q m x g well f.outs p h c b g.takes (omega arith) l)
  head_kept x (offers y n c v) l =
      num_kept q (avail_ring (d.taken % q.n)) avail_idx m x (slot_low q well d.taken) tt (unlike (omega arith)) c

  desc_kept : (x : Memory) → Filled q g m open? x → (h i : ℕ) → g.stage h ≡ offered g.takes → InChain q h i → dsc q (desc i) x ≡ dsc q (desc i) m
  unfolding Has
  desc_kept x still h i e c = refl
  desc_kept x (fills p y a o z b u v) h i e c = table_same base q m x g well f.outs p a z b h g.takes i e c
  desc_kept x (tells p y n a o z b) h i e c = table_same base q m x g well f.outs p a z b h g.takes i e c
  desc_kept x (offers y n z v) h i e c =
      dsc_kept q (desc i) avail_idx m x refl (chain_low q well h i (staged_out q m d g f h (ap is_out e)) c) tt
      (unlike (omega arith)) z

  entry_kept : (x : Memory) → Filled q g m open? x → (h j : ℕ) → g.stage h ≡ offered g.takes → is_indirect q h ≡ true → j < entries_of q h
      → dsc q (entry (q.n * h + j)) x ≡ dsc q (entry (q.n * h + j)) m
  unfolding Has
  entry_kept x still h j e i l = refl
  entry_kept x (fills p y a o z b u v) h j e i l = list_same base q m x g well f.outs p a z b h g.takes j e i l
  entry_kept x (tells p y n a o z b) h j e i l = list_same base q m x g well f.outs p a z b h g.takes j e i l
  entry_kept x (offers y n z v) h j e i l =
      dsc_kept q (entry (q.n * h + j)) avail_idx m x refl (entry_low q well h j (staged_out q m d g f h (ap is_out e)) i l) tt
      (unlike (omega arith)) z

  -- idx: the same, or a take that found a chain finds one still
  abbrev none? : Memory → Bool
  none? x = eqb (num q avail_idx x) d.taken

  abbrev idx_work : Memory → Worked
  idx_work x = work w take_idx d x

  going_on : (b : Bool) → acting (cond b (comes d none_available m) (goes d take_head m)).device.doing ≡ true → b ≡ false
  going_on true e = absurd (false≢true e)
  going_on false e = refl

  some_still : (x : Memory) → num q avail_idx x ≡ (g.adds + 1) % 65536 → none? x ≡ false
  some_still x v =
      ne_eqb (num q avail_idx x) d.taken
      (λ z. let a : d.taken ≡ g.takes % 65536 = f.took in
      let b : g.takes ≤ g.adds = f.offers in
      let c : g.adds ≤ g.pops + 64 = f.near in
      let r : g.pops ≤ g.uses = f.popped in
      let s : g.uses ≤ g.takes = f.given in
      let y : (g.adds + 1) % 65536 ≡ g.takes % 65536 = sym v ∙ z ∙ a in
      next_differs g.adds g.takes b (omega arith) y)

  idx_kept : (x : Memory) → Filled q g m open? x → (open? ≡ true) ⊎ (acting (idx_work m).device.doing ≡ true) → none? x ≡ none? m
  unfolding Has
  idx_kept x still i = refl
  idx_kept x (fills p y a o z b u v) i = ap (λ n. eqb n d.taken) (idx_same base q m x g well f.outs p a z b)
  idx_kept x (tells p y n a o z b) i = ap (λ n. eqb n d.taken) (idx_same base q m x g well f.outs p a z b)
  idx_kept x (offers y n z v) (inl i) = absurd (true≢false (sym i ∙ n))
  idx_kept x (offers y n z v) (inr i) = some_still x v ∙ sym (going_on (none? m) i)

  -- ---- a step that stores nothing: THE LAWS of the steps of a take

  reads_over : (h k : ℕ) (t : Table) (bs : List Buffer) (y : Desc) (x : Memory) → reads w h k t bs y d x ≡ over (reads w h k t bs y d m) x
  reads_over h k in_table bs y x =
      cond_over (has_indirect y) (has_indirect y) _ _ _ _ x refl refl (cond_over (has_next y) (has_next y) _ _ _ _ x refl refl refl)
  reads_over h k (in_list s) bs y x = cond_over (has_next y) (has_next y) _ _ _ _ x refl refl refl

  pub taking_over : (x : Memory) → Filled q g m open? x → (h k : ℕ) (t : Table) (i : ℕ) (bs : List Buffer) → DeviceAt q m d g (take_chain h k t i bs)
      → work w (take_chain h k t i bs) d x ≡ over (work w (take_chain h k t i bs) d m) x
  taking_over x c h zero t i bs a = refl
  taking_over x c h (suc k) in_table i bs a =
      ap (λ y. reads w h k in_table bs y d x) (desc_kept x c h i a.1 a.2) ∙ reads_over h k in_table bs (dsc q (desc i) m) x
  taking_over x c h (suc k) (in_list s) i bs a =
      ap (λ y. reads w h k (in_list s) bs y d x)
      (subst (λ z. dsc q (entry (z + i)) x ≡ dsc q (entry (z + i)) m) (sym a.2.1) (entry_kept x c h i a.1 a.2.0 a.2.2))
      ∙ reads_over h k (in_list s) bs (dsc q (entry (s + i)) m) x

  pub idx_over : (x : Memory) → Filled q g m open? x → (open? ≡ true) ⊎ (acting (work w take_idx d m).device.doing ≡ true)
      → work w take_idx d x ≡ over (work w take_idx d m) x
  idx_over x c i = cond_over (none? x) (none? m) _ _ _ _ x (idx_kept x c i) refl refl

  pub idx_self : work w take_idx d m ≡ over (work w take_idx d m) m
  idx_self = cond_over (none? m) (none? m) _ _ _ _ m refl refl refl

  pub head_over : (x : Memory) → Filled q g m open? x → g.takes < g.adds → work w take_head d x ≡ over (work w take_head d m) x
  head_over x c l = ap (λ h. goes d (take_chain h (q.n + 1) in_table h []) x) (head_kept x c l)

  -- ---- an opening that stores nothing

  -- a look at a field that the device may look at any time, beside an event of the driver that leaves its call open
  look_kept : (x : Memory) → Filled q g m open? x → open? ≡ true → (p : Place) → Has q.n p → (p ≡ avail_flags) ⊎ (p ≡ used_event)
      → num q p x ≡ num q p m
  look_kept x still i p h e = refl
  look_kept x (fills r y a o z b u v) i p h (inl e) = num_kept q p r m x h a (λ c. u (sym e ∙ c)) z
  look_kept x (fills r y a o z b u v) i p h (inr e) = num_kept q p r m x h a (λ c. v (sym e ∙ c)) z
  look_kept x (tells r y n a o z b) i p h e = absurd (true≢false (sym i ∙ n))
  look_kept x (offers y n z v) i p h e = absurd (true≢false (sym i ∙ n))

  pub take_over : (x : Memory) → begin w take_next d x ≡ over (begin w take_next d m) x
  take_over x = refl

  pub complete_over : (x : Memory) (h l : ℕ) → begin w (complete h l) d x ≡ over (begin w (complete h l) d m) x
  complete_over x h l = cond_over (may_give_back d.holds h) (may_give_back d.holds h) _ _ _ _ x refl refl refl

  pub flags_over : (x : Memory) → Filled q g m open? x → open? ≡ true → begin w see_avail_flags d x ≡ over (begin w see_avail_flags d m) x
  unfolding Has
  flags_over x c i = ap (λ v. comes d (saw v) x) (look_kept x c i avail_flags tt (inl refl))

  pub event_over : (x : Memory) → Filled q g m open? x → open? ≡ true → begin w see_used_event d x ≡ over (begin w see_used_event d m) x
  unfolding Has
  event_over x c i = ap (λ v. comes d (saw v) x) (look_kept x c i used_event tt (inr refl))
