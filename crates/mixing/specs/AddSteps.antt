-- Every step of an add keeps the invariant.
use Rattle.std.specs.Prelude.{◌≡◌, Bool, true, ◌⊎◌, ℕ, suc, ◌+◌, ◌-◌, ◌*◌, ◌/◌, ◌%◌, ◌^◌, ◌≤◌, ◌<◌}
use Rattle.std.proofs.Math.Path.{refl, sym, ap, subst}
use Rattle.std.proofs.Common.{◌∙◌, true≢false, inl, inr, mul-le-mul_left, mul-suc}
use Rattle.std.proofs.Math.Bool.{false}
use Rattle.std.proofs.lemmas.Bool.{false≢true}
use native.Mathlib.Omega.{arith}
use borrow.Author.Tests.{lt-ltb, le-ltb, ltb-true, eq-eqb, ne_eqb}
use Rattle.std.proofs.Math.Dec.{ltb, eqb}
use Rattle.std.proofs.Math.ListN.{get_or}
use Rattle.lists.specs.Tests.{by_test}
use Rattle.lists.specs.Stores.{slots_apart}
use Rattle.lists.specs.Pick.{one_if}
use Rattle.lists.specs.Walk.{hop, hop_next}
use Rattle.virtio.specs.declared.Desc.{Desc}
use Rattle.virtio.specs.declared.Buffer.{Buffer}
use Rattle.virtio.specs.Desc.{no_buffer, has_next, has_indirect, flags_of}
use Rattle.virtio.specs.Device.{device_writes}
use Rattle.virtio.specs.Memory.{Memory, Place, desc, avail_ring, entry}
use Rattle.virtio.specs.Sizes.{Has}
use Rattle.rules.specs.declared.Open.TheVariants.{Add}
use Rattle.rules.specs.Record.{Queue, desc_of, next_of, noted_of, last_of, is_indirect, entries_of, size_of, slot_address, is_add, with_call}
use Rattle.rules.specs.Meaning.{WellFormed, Out, Named, Adding}
use Rattle.rules.specs.Calls.{fits}
use Rattle.rules.specs.Step.{Access, store, store_desc, accessed, with_next, list_entry, add_access, move}
use Rattle.laws.specs.Changes.{one_noted, last_head, access_lengths}
use Rattle.laws.specs.CallKeeps.{Good, move_keeps}
use Rattle.laws.specs.Regions.{still_fits}
use Rattle.laws.specs.Runs.{move_at}
use Rattle.laws.specs.FreeLaws.{hop_low, hop_stands}
use Rattle.mixing.specs.Device.{Device}
use Rattle.mixing.specs.Fields.{dsc, Changed, put_changed, desc_changed, put_num, Back, put_back, unlike, one_not_pool}
use Rattle.mixing.specs.Facts.{adding, offered, is_out, Notes, InChain, TableOk, ListOk, Blank, Progress, DriverAt, Facts}
use Rattle.mixing.specs.Stages.{kind}
use Rattle.mixing.specs.Shows.{slot_low, small, hop_in, entry_low, staged_out, filled, slots_differ, avail_slot}
use Rattle.mixing.specs.DriverMoves.{stored}
use Rattle.mixing.specs.Adding.{no, size_direct, size_list, some_noted, noted_apart, progress_on, progress_next, progress_call}

-- a flags word below 4 has no INDIRECT; with NEXT put in it stays below 4
low_direct : (x : ℕ) → x < 4 → eqb (x / 4 % 2) 1 ≡ false
low_direct x l = ne_eqb (x / 4 % 2) 1 (omega arith)

flags_low : (a b : Bool) → flags_of a b false < 65536
flags_low true true = omega arith
flags_low true false = omega arith
flags_low false true = omega arith
flags_low false false = omega arith

flags_next : (a b : Bool) → eqb (flags_of a b false % 2) 1 ≡ a
flags_next true true = refl
flags_next true false = refl
flags_next false true = refl
flags_next false false = refl

module _ (base : ℕ) (q : Queue) (m : Memory) (d : Device) (g : Notes) (f : Facts base q m d g) (h s : ℕ) (e : q.call ≡ Add h s) where
  abbrev pub well : WellFormed q
  well = f.good.well

  pub named : Adding q h s
  named = subst (λ c. Named q c) e well.call

  abbrev pub out : Out q h
  out = named.head

  pub standing : (g.stage h ≡ adding) × Progress base q m h s
  standing = subst (λ c. DriverAt base q m g c) e f.at_driver

  abbrev pub k : ℕ
  k = size_of q h

  -- what the driver leaves
  abbrev pub Ends : Queue → Memory → Type 0
  Ends r x = (g' : Notes) × Facts base r x d g'

  -- ---- a step that is not the last

  goes : s + 1 < k + 3 → (move q m).queue ≡ with_call q (Add h (s + 1))
  goes l = ap (λ r. r.queue) (move_at q m (Add h s) e) ∙ rw (lt-ltb (s + 1) (k + 3) l)

  stores : (a : Access) → add_access q h s ≡ a → (move q m).memory ≡ accessed q a m
  stores a x = ap (λ r. r.memory) (move_at q m (Add h s) e) ∙ ap (λ z. accessed q z m) x

  on : (a : Access) → add_access q h s ≡ a → s + 1 < k + 3 → Facts base (with_call q (Add h (s + 1))) (accessed q a m) d g
      → Ends (move q m).queue (move q m).memory
  on a x l y = (
    g,
    subst (λ r. Facts base r (move q m).memory d g) (sym (goes l))
        (subst (λ z. Facts base (with_call q (Add h (s + 1))) z d g) (sym (stores a x)) y),
  )

  next_good : s + 1 < k + 3 → Good (with_call q (Add h (s + 1)))
  next_good l = subst Good (goes l) (move_keeps q m f.good)

  pub still_fit : (a : Access) → fits q (accessed q a m) ≡ true
  still_fit a = still_fits q q (accessed q a m) m (record { n = refl; modes = refl }) (access_lengths q m a) ∙ f.fit

  -- it stores a field of which the invariant does not speak, and all that was stored stays
  after_store : (p : Place) (a : Access) → Has q.n p → device_writes p ≡ false → Blank q g p → Changed q p m (accessed q a m) → s + 1 < k + 3
      → Progress base q (accessed q a m) h s → Progress base q (accessed q a m) h (s + 1)
      → Facts base (with_call q (Add h (s + 1))) (accessed q a m) d g
  after_store p a has own b c l now next =
      stored base q m d g f p (accessed q a m) has own b c (still_fit a)
      (subst (λ c. DriverAt base q (accessed q a m) g c) (sym e) (standing.0, now))
      (Add h (s + 1)) (next_good l) (standing.0, progress_call q well h out base (accessed q a m) (s + 1) (Add h (s + 1)) next)

  -- an offered head is another one
  other : (x j : ℕ) → g.stage x ≡ offered j → x ≡ h → ⊥
  other x j z y = let c : ◌≡◌ {A = ℕ} 3 1 = ap kind (sym z ∙ ap g.stage y ∙ standing.0) in omega arith

  offered_out : (x j : ℕ) → g.stage x ≡ offered j → Out q x
  offered_out x j z = staged_out q m d g f x (ap is_out z)

  -- descriptors of this chain are in no offered one
  pub desc_blank : (i : ℕ) → i < noted_of q h → Blank q g (desc (hop (next_of q) i h))
  desc_blank i l x j z = (hop_stands q well h i out.below l).others x (offered_out x j z).below (other x j z)

  -- ---- the stores of the buffers: a list entry

  pub entry_blank : is_indirect q h ≡ true → s < entries_of q h → Blank q g (entry (q.n * h + s))
  entry_blank i l x j z y v u c =
      let a : entries_of q h ≤ q.n = (well.listed h out i).most in
      let b : entries_of q x ≤ q.n = (well.listed x (offered_out x j z) y).most in
      apart (slots_apart q.n x h (q.n * x + v) (omega arith) (omega arith) (other x j z))
    where
      apart : (q.n * x + v < q.n * h) ⊎ (q.n * h + q.n ≤ q.n * x + v) → ⊥
      apart (inl r) = omega arith
      apart (inr r) = let a : entries_of q h ≤ q.n = (well.listed h out i).most in omega arith

  abbrev own_entry : Access
  own_entry = store_desc (entry (q.n * h + s)) (list_entry q h s)

  entry_ok : (i : is_indirect q h ≡ true) → s < entries_of q h → ListOk q h (dsc q (entry (q.n * h + s)) (accessed q own_entry m))
  unfolding Has
  entry_ok i l n =
      let x : Desc = list_entry q h s in
      let a : entries_of q h ≤ q.n = (well.listed h out i).most in
      let c : q.n ≤ 64 = small q well in
      let b : Back (dsc q (entry (q.n * h + s)) (accessed q own_entry m)) x =
      put_back q (entry (q.n * h + s)) x m f.fit (entry_low q well h s out i l) (λ z. (well.listed h out i).mode) refl in
      let u : Buffer = get_or q.tables.kept (q.n * h + s) no_buffer in
      let y : has_next (dsc q (entry (q.n * h + s)) (accessed q own_entry m)) ≡ ltb (s + 1) (entries_of q h) =
      ap (λ z. eqb (z % 2) 1) (b.flags (flags_low (ltb (s + 1) (entries_of q h)) u.output)) ∙ flags_next (ltb (s + 1) (entries_of q h))
      u.output in
      let v : s + 1 < entries_of q h = ltb-true (s + 1) (entries_of q h) (sym y ∙ n) in
      let t : (dsc q (entry (q.n * h + s)) (accessed q own_entry m)).next ≡ s + 1 = b.next (omega arith) in
      omega arith

  pub at_entry : is_indirect q h ≡ true → s < k → Ends (move q m).queue (move q m).memory
  unfolding Has
  at_entry i l =
      let z : k ≡ entries_of q h = size_list q well h out i in
      let n : noted_of q h ≡ 1 = one_noted q well h out i in
      let p : Place = entry (q.n * h + s) in
      let has : q.n * h + s < q.n * q.n = entry_low q well h s out i (omega arith) in
      let c : Changed q p m (accessed q own_entry m) = desc_changed q p (list_entry q h s) m refl in
      let now : Progress base q (accessed q own_entry m) h s = progress_on q well h out base m (accessed q own_entry m) p has c s
      (λ j a b y. absurd (omega arith)) (λ a y. absurd (omega arith)) (λ a j b u y. let v : q.n * h + j ≡ q.n * h + s = ap no y in omega arith)
      (λ a y. absurd (omega arith)) standing.1 in
      on own_entry (rw (lt-ltb s k l, i)) (omega arith)
      (after_store p own_entry has refl (entry_blank i (omega arith)) c (omega arith) now
      (progress_next q well h out base (accessed q own_entry m) s (λ a. absurd (omega arith)) (λ a. absurd (omega arith))
      (λ a b. entry_ok i (omega arith)) (λ a. absurd (omega arith)) now))

  -- ---- or a descriptor with NEXT

  abbrev own_desc : Access
  own_desc = store_desc (desc (hop (next_of q) s h)) (with_next (desc_of q (hop (next_of q) s h)))

  desc_ok : is_indirect q h ≡ false → s + 1 < noted_of q h → TableOk base q h (dsc q (desc (hop (next_of q) s h)) (accessed q own_desc m))
  unfolding Has
  desc_ok i l =
      let x : Desc = desc_of q (hop (next_of q) s h) in
      let low : x.flags < 4 = standing.1.flags i s (omega arith) in
      let c : q.n ≤ 64 = small q well in
      let v : next_of q (hop (next_of q) s h) < q.n = well.nexts (hop (next_of q) s h) (hop_low q well h s out.below) in
      let b : Back (dsc q (desc (hop (next_of q) s h)) (accessed q own_desc m)) (with_next x) =
      put_back q (desc (hop (next_of q) s h)) (with_next x) m f.fit (hop_low q well h s out.below)
      (λ z. absurd (one_not_pool z)) refl in
      let y : (dsc q (desc (hop (next_of q) s h)) (accessed q own_desc m)).flags ≡ x.flags / 2 * 2 + 1 = b.flags (omega arith) in
      let t : has_indirect (dsc q (desc (hop (next_of q) s h)) (accessed q own_desc m)) ≡ false =
      ap (λ z. eqb (z / 4 % 2) 1) y ∙ low_direct (x.flags / 2 * 2 + 1) (omega arith) in (
        (λ a. absurd (true≢false (sym a ∙ t))),
        (λ a n. subst (InChain q h) (sym (b.next (omega arith) ∙ sym (hop_next (next_of q) s h))) (hop_in q well h (suc s) (omega arith))),
      )

  pub at_desc : is_indirect q h ≡ false → s < k → Ends (move q m).queue (move q m).memory
  unfolding Has
  at_desc i l =
      let z : k ≡ noted_of q h = size_direct q well h out i in
      let p : Place = desc (hop (next_of q) s h) in
      let has : hop (next_of q) s h < q.n = hop_low q well h s out.below in
      let c : Changed q p m (accessed q own_desc m) = desc_changed q p (with_next (desc_of q (hop (next_of q) s h))) m refl in
      let now : Progress base q (accessed q own_desc m) h s = progress_on q well h out base m (accessed q own_desc m) p has c s
      (λ j a b y. noted_apart q well h out j s b (omega arith) (ap no y)) (λ a y. absurd (omega arith)) (λ a j b u y. absurd (true≢false (sym a ∙ i)))
      (λ a y. absurd (omega arith)) standing.1 in
      on own_desc (rw (lt-ltb s k l, i)) (omega arith)
      (after_store p own_desc has refl (desc_blank s (omega arith)) c (omega arith) now
      (progress_next q well h out base (accessed q own_desc m) s (λ a. desc_ok i a) (λ a. absurd (omega arith))
      (λ a b. absurd (true≢false (sym a ∙ i))) (λ a. absurd (omega arith)) now))

  -- ---- the last descriptor, or the indirect one

  abbrev own_last : Access
  own_last = store_desc (desc (last_of q h)) (desc_of q (last_of q h))

  pub last_low : last_of q h < q.n
  last_low = hop_low q well h (noted_of q h - 1) out.below

  last_back : Back (dsc q (desc (last_of q h)) (accessed q own_last m)) (desc_of q (last_of q h))
  unfolding Has
  last_back =
      put_back q (desc (last_of q h)) (desc_of q (last_of q h)) m f.fit last_low (λ z. absurd (one_not_pool z)) refl

  last_direct : is_indirect q h ≡ false → TableOk base q h (dsc q (desc (last_of q h)) (accessed q own_last m))
  last_direct i =
      let x : Desc = desc_of q (last_of q h) in
      let n : 0 < noted_of q h = some_noted q well h out in
      let low : x.flags < 4 = standing.1.flags i (noted_of q h - 1) (omega arith) in
      let y : (dsc q (desc (last_of q h)) (accessed q own_last m)).flags ≡ x.flags = last_back.flags (omega arith) in (
        (λ a. absurd (true≢false (sym a ∙ ap (λ z. eqb (z / 4 % 2) 1) y ∙ low_direct x.flags low))),
        (λ a b. absurd (true≢false (sym b ∙ ap (λ z. eqb (z % 2) 1) y ∙ well.stops h out))),
      )

  -- the slot's address fits, and its entries start at n * h
  slot_addr : is_indirect q h ≡ true → (slot_address q h < 2 ^ 64) × ((slot_address q h - base) / 16 ≡ q.n * h)
  slot_addr i =
      let mode : q.modes.indirect ≡ true = (well.listed h out i).mode in
      let a : q.base + 16 * (q.n * q.n) ≤ 2 ^ 64 = (well.pool mode).within in
      let b : base ≡ q.base = f.based mode in
      let c : q.n * suc h ≤ q.n * q.n = mul-le-mul_left q.n out.below in
      let t : q.n * suc h ≡ q.n * h + q.n = mul-suc q.n h in
      let u : h < q.n = out.below in
      (omega arith, omega arith)

  last_list : is_indirect q h ≡ true → TableOk base q h (dsc q (desc (last_of q h)) (accessed q own_last m))
  last_list i =
      let x : Desc = desc_of q (last_of q h) in
      let r : desc_of q (last_of q h) ≡ desc_of q h = ap (desc_of q) (last_head q well h out i) in
      let t : x.flags ≡ 4 = ap (λ z. z.flags) r ∙ (well.listed h out i).flags in
      let u : x.addr ≡ slot_address q h = ap (λ z. z.addr) r ∙ (well.listed h out i).addr in
      let y : (dsc q (desc (last_of q h)) (accessed q own_last m)).flags ≡ 4 = last_back.flags (omega arith) ∙ t in
      let v : (dsc q (desc (last_of q h)) (accessed q own_last m)).addr ≡ slot_address q h =
      last_back.addr (subst (λ z. z < 2 ^ 64) (sym u) (slot_addr i).0) ∙ u in (
        (λ a. (i, ap (λ z. (z - base) / 16) v ∙ (slot_addr i).1)),
        (λ a b. absurd (false≢true (sym a ∙ ap (λ z. eqb (z / 4 % 2) 1) y))),
      )

  last_ok : TableOk base q h (dsc q (desc (last_of q h)) (accessed q own_last m))
  last_ok = by_test (is_indirect q h) last_list last_direct

  -- all buffers are stored
  pub noted_most : noted_of q h ≤ k
  noted_most =
      by_test (is_indirect q h)
      (λ i. let a : noted_of q h ≡ 1 = one_noted q well h out i in let b : k ≡ entries_of q h = size_list q well h out i in let c : 2 ≤ entries_of q h = (well.listed h out i).two in omega arith)
      (λ i. let b : k ≡ noted_of q h = size_direct q well h out i in omega arith)

  pub entries_most : is_indirect q h ≡ true → entries_of q h ≤ k
  entries_most i = let b : k ≡ entries_of q h = size_list q well h out i in omega arith

  pub at_last : s ≡ k → Ends (move q m).queue (move q m).memory
  unfolding Has
  at_last z =
      let n : 0 < noted_of q h = some_noted q well h out in
      let u : noted_of q h ≤ k = noted_most in
      let p : Place = desc (last_of q h) in
      let c : Changed q p m (accessed q own_last m) = desc_changed q p (desc_of q (last_of q h)) m refl in
      let now : Progress base q (accessed q own_last m) h s = progress_on q well h out base m (accessed q own_last m) p last_low c s
      (λ j a b y. noted_apart q well h out j (noted_of q h - 1) (omega arith) (omega arith) (ap no y)) (λ a y. absurd (omega arith))
      (λ a j b v. unlike (omega arith))
      (λ a y. absurd (omega arith)) standing.1 in
      on own_last (rw (le-ltb s k (omega arith), eq-eqb s k z)) (omega arith)
      (after_store p own_last last_low refl (desc_blank (noted_of q h - 1) (omega arith)) c (omega arith) now
      (progress_next q well h out base (accessed q own_last m) s (λ a. absurd (omega arith)) (λ a. last_ok)
      (λ a b. absurd (let v : entries_of q h ≤ k = entries_most a in omega arith)) (λ a. absurd (omega arith)) now))

  -- ---- the ring slot

  abbrev own_slot : Access
  own_slot = store (avail_ring (q.counts.avail % q.n)) h

  pub slot_blank : Blank q g (avail_ring (q.counts.avail % q.n))
  slot_blank j a b c =
      let z : g.adds + one_if (is_add q.call) ≤ g.pops + q.n = filled q m d g f in
      let t : one_if (is_add q.call) ≡ 1 = ap (λ x. one_if (is_add x)) e in
      let u : g.pops ≤ g.uses = f.popped in
      let v : g.uses ≤ g.takes = f.given in
      slots_differ j g.adds q.n b (omega arith) (c ∙ avail_slot q m d g f)

  pub at_slot : s ≡ k + 1 → Ends (move q m).queue (move q m).memory
  unfolding Has
  at_slot z =
      let u : noted_of q h ≤ k = noted_most in
      let p : Place = avail_ring (q.counts.avail % q.n) in
      let has : q.counts.avail % q.n < q.n = slot_low q well q.counts.avail in
      let c : Changed q p m (accessed q own_slot m) = put_changed q p h m in
      let b : h < q.n = out.below in
      let r : q.n ≤ 64 = small q well in
      let now : Progress base q (accessed q own_slot m) h s = progress_on q well h out base m (accessed q own_slot m) p has c s
      (λ j a b. unlike (omega arith)) (λ a. unlike (omega arith))
      (λ a j b v. unlike (omega arith))
      (λ a y. absurd (omega arith)) standing.1 in
      on own_slot (rw (le-ltb s k (omega arith), ne_eqb s k (omega arith), eq-eqb s (k + 1) z)) (omega arith)
      (after_store p own_slot has refl slot_blank c (omega arith) now
      (progress_next q well h out base (accessed q own_slot m) s (λ a. absurd (omega arith)) (λ a. absurd (omega arith))
      (λ a b. absurd (let v : entries_of q h ≤ k = entries_most a in omega arith))
      (λ a. put_num q p h m f.fit has (λ y. absurd (one_not_pool y)) (omega arith)) now))
