-- Every opening and every step of the device keeps the invariant.
use Rattle.std.proofs.Math.Path.{◌≡◌, refl, sym, ap}
use Rattle.std.proofs.Common.{subst, ◌∙◌, true≢false, arith}
use Rattle.std.specs.Prelude.{true, false, List, [], ◌∷◌, ◌++◌, eqb}
use Prim.Native.Nat.{ℕ, zero, suc, ◌+◌, ◌-◌, ◌/◌, ◌%◌, ◌≤◌, ◌<◌}
use Rattle.std.proofs.lemmas.Bool.{eqb-false}
use Rattle.std.proofs.Math.ListN.{length, length-append}
use Rattle.lists.specs.Tests.{by_test, by_eq, either}
use Rattle.lists.specs.Index.{after, after_counts}
use Rattle.lists.specs.Pick.{one_if}
use Rattle.lists.specs.Once.{mem}
use Rattle.lists.specs.Walk.{hop}
use Rattle.virtio.specs.declared.Desc.{Desc}
use Rattle.virtio.specs.declared.Buffer.{Buffer}
use Rattle.virtio.specs.Desc.{has_next, has_indirect, buffer_of}
use Rattle.virtio.specs.Device.{device_writes, may_give_back}
use Rattle.virtio.specs.Memory.{Memory, Place, desc, avail_idx, avail_ring, used_flags, used_idx, avail_event, used_id, used_len, entry}
use Rattle.virtio.specs.Sizes.{Has}
use Rattle.rules.specs.Record.{Queue, noted_of, entries_of, is_add}
use Rattle.rules.specs.Meaning.{WellFormed, Out}
use Rattle.rules.specs.Step.{store}
use Rattle.rules.specs.Calls.{fits}
use Rattle.laws.specs.Changes.{access_lengths}
use Rattle.laws.specs.Regions.{still_fits}
use Rattle.mixing.specs.Device.{Wiring, Act, take_next, complete, set_used_flags, set_avail_event, see_avail_flags, see_used_event, Table, in_table, in_list, Doing, resting, take_idx, take_head, take_chain, complete_id, complete_len, complete_idx, Device, Worked, doing, begin, takes, work, without}
use Rattle.mixing.specs.Fields.{num, dsc, put, Changed, put_changed, num_kept, put_num, unlike}
use Rattle.mixing.specs.Facts.{Stage, adding, taken, offered, returned, is_out, Notes, TableOk, ListOk, Led, Shown, Blank, DriverAt, DeviceAt, Facts}
use Rattle.mixing.specs.Stages.{kind, number_of, turned, turned_here, turned_there, turned_keeps, turned_back, turned_out, mem_some, mem_more, once_more, mem_less, gone, once_less, length_less}
use Rattle.mixing.specs.Shows.{slot_low, small, hop_in, staged_out, shown_kept, led_kept, driver_kept, filled, slots_differ, used_not_pool, last_slot, taken_slot, used_slot, driver_notes}

-- the queue's wiring
abbrev pub wire : ℕ → Queue → Wiring
wire base q = record { n = q.n; legacy = q.modes.legacy; base = base }

module _ (base : ℕ) (q : Queue) (m : Memory) (d : Device) (g : Notes) (f : Facts base q m d g) where
  abbrev w : Wiring
  w = wire base q

  abbrev well : WellFormed q
  well = f.good.well

  -- what an opening or a step of the device leaves
  abbrev pub Left : Worked → Type 0
  Left x = (g' : Notes) × Facts base q x.memory x.device g'

  -- ---- the act goes on, or ends, with no store

  goes_on : (a : Doing) → DeviceAt q m (doing d a) g a → Facts base q m (doing d a) g
  goes_on a x = record {
    good = f.good;
    fit = f.fit;
    based = f.based;
    avail = f.avail;
    last = f.last;
    took = f.took;
    gave = f.gave;
    popped = f.popped;
    given = f.given;
    offers = f.offers;
    near = f.near;
    outs = f.outs;
    held = f.held;
    once = f.once;
    many = f.many;
    shown = f.shown;
    at_driver = f.at_driver;
    at_device = x;
  }

  -- ---- a store to a field that the invariant does not speak of

  pub put_fits : (p : Place) (v : ℕ) → fits q (put q p v m) ≡ true
  put_fits p v = still_fits q q (put q p v m) m (record { n = refl; modes = refl }) (access_lengths q m (store p v)) ∙ f.fit

  -- the element that a pop reads
  popped_same : (p : Place) (v : ℕ) → Has q.n p → Blank q g p → g.pops < g.uses
      → num q (used_id (q.counts.last % q.n)) (put q p v m) ≡ num q (used_id (q.counts.last % q.n)) m
  unfolding Has
  popped_same p v h b l =
      num_kept q (used_id (q.counts.last % q.n)) p m (put q p v m) (slot_low q well q.counts.last) h
      (λ e. not_it (subst (Blank q g) (sym e) b)) (put_changed q p v m)
    where
      not_it : Blank q g (used_id (q.counts.last % q.n)) → ⊥
      not_it c = c g.pops (omega arith) l (sym (last_slot q m d g f))

  stores : (p : Place) (v : ℕ) (a : Doing) → Has q.n p → device_writes p ≡ true → Blank q g p → DeviceAt q (put q p v m) (doing d a) g a
      → Facts base q (put q p v m) (doing d a) g
  stores p v a h o b x = record {
    good = f.good;
    fit = put_fits p v;
    based = f.based;
    avail = f.avail;
    last = f.last;
    took = f.took;
    gave = f.gave;
    popped = f.popped;
    given = f.given;
    offers = f.offers;
    near = f.near;
    outs = f.outs;
    held = f.held;
    once = f.once;
    many = f.many;
    shown = shown_kept base q m (put q p v m) g well f.outs p h (put_changed q p v m) b f.shown;
    at_driver = driver_kept base q m (put q p v m) g well f.outs p h (put_changed q p v m) o (popped_same p v h b) q.call f.at_driver;
    at_device = x;
  }

  -- ---- a chain is taken

  pub took_notes : ℕ → Notes
  took_notes h = record { adds = g.adds; takes = g.takes + 1; uses = g.uses; pops = g.pops; stage = turned g.stage h taken }

  took_device : ℕ → Device
  took_device h = record { taken = after d.taken; used = d.used; holds = d.holds ++ (h ∷ []); doing = resting }

  module _ (h : ℕ) (l : g.takes < g.adds) (e : g.stage h ≡ offered g.takes) where
    -- the head differs from one whose stage differs
    not_next : (s : Stage) → (offered g.takes ≡ s → ⊥) → g.stage h ≡ s → ⊥
    not_next s n z = n (sym e ∙ z)

    took_shown : Shown base q m (took_notes h)
    unfolding took_notes
    took_shown = record {
      idx = f.shown.idx;
      used = f.shown.used;
      slots = λ k a b. turned_keeps g.stage h taken (num q (avail_ring (k % q.n)) m) (offered k) (f.shown.slots k (omega arith) b)
          (not_next (offered k) (λ z. let y : g.takes ≡ k = ap number_of z in omega arith));
      elements = λ k a b. turned_keeps g.stage h taken (num q (used_id (k % q.n)) m) (returned k) (f.shown.elements k a b)
          (not_next (returned k) (λ z. let y : ◌≡◌ {A = ℕ} 3 4 = ap kind z in omega arith));
      led = λ x k z. f.shown.led x k (turned_back g.stage h taken x (offered k) z (λ y. let c : ◌≡◌ {A = ℕ} 2 3 = ap kind y in omega arith)).0;
    }

    not_held : mem h d.holds ≡ false
    not_held = by_test (mem h d.holds) (λ z. absurd (let c : ◌≡◌ {A = ℕ} 3 2 = ap kind (sym e ∙ f.held h z) in omega arith)) (λ z. z)

    took_held : (x : ℕ) → mem x (d.holds ++ (h ∷ [])) ≡ true → turned g.stage h taken x ≡ taken
    took_held x z =
        by_eq x h (λ y. turned_here g.stage h taken x y) (λ y. turned_there g.stage h taken x y ∙ f.held x (mem_more x h d.holds z y))

    took_facts : Facts base q m (took_device h) (took_notes h)
    unfolding took_notes took_device
    took_facts =
        let a : g.uses ≤ g.takes = f.given in
        let b : length d.holds + g.uses ≡ g.takes = f.many in
        record {
          good = f.good;
          fit = f.fit;
          based = f.based;
          avail = f.avail;
          last = f.last;
          took = ap after f.took ∙ after_counts g.takes;
          gave = f.gave;
          popped = f.popped;
          given = omega arith;
          offers = omega arith;
          near = f.near;
          outs = λ x. f.outs x ∙ sym (turned_out g.stage h taken x (ap is_out (sym e)));
          held = took_held;
          once = once_more h d.holds f.once not_held;
          many = omega (arith, length-append d.holds (h ∷ []));
          shown = took_shown;
          at_driver = driver_notes base q m g (took_notes h)
              (λ x z. turned_keeps g.stage h taken x adding z (not_next adding (λ y. let c : ◌≡◌ {A = ℕ} 3 1 = ap kind y in omega arith))) (λ z. z)
              q.call f.at_driver;
          at_device = tt;
        }

    takes_left : (bs : List Buffer) → Left (takes w h bs d m)
    unfolding took_notes took_device
    takes_left bs = (took_notes h, took_facts)

  -- ---- the steps of a take

  idx_left : Left (work w take_idx d m)
  idx_left =
      either Left (eqb (num q avail_idx m) d.taken) _ _
      (λ e. (g, goes_on resting tt))
      (λ e. (
        g,
        goes_on take_head
            (let a : g.takes ≤ g.adds = f.offers in
            let b : num q avail_idx m ≡ g.adds % 65536 = f.shown.idx in
            let c : d.taken ≡ g.takes % 65536 = f.took in
            let n : (num q avail_idx m ≡ d.taken → ⊥) = eqb-false (num q avail_idx m) d.taken e in
            by_eq g.takes g.adds (λ z. absurd (n (b ∙ ap (λ y. y % 65536) (sym z) ∙ sym c))) (λ z. omega arith)),
      ))

  head_left : g.takes < g.adds → Left (work w take_head d m)
  unfolding hop
  head_left l =
      let h : ℕ = num q (avail_ring (d.taken % q.n)) m in
      let e : g.stage h ≡ offered g.takes =
      ap (λ z. g.stage (num q (avail_ring z) m)) (taken_slot q m d g f) ∙ f.shown.slots g.takes (omega arith) l in
      let o : Out q h = staged_out q m d g f h (ap is_out e) in
      let n : (noted_of q h ≡ 0 → ⊥) = o.noted in
      (g, goes_on (take_chain h (q.n + 1) in_table h []) (l, e, hop_in q well h 0 (omega arith), omega arith))

  chain_left : (h k : ℕ) (t : Table) (i : ℕ) (bs : List Buffer) → DeviceAt q m d g (take_chain h k t i bs) → Left (work w (take_chain h k t i bs) d m)
  chain_left h zero t i bs x = takes_left h x.0 x.1 bs
  chain_left h (suc k) in_table i bs x =
      let y : Desc = dsc q (desc i) m in
      let t : TableOk base q h y = (f.shown.led h g.takes x.1).0 i x.2 in
      let o : Out q h = staged_out q m d g f h (ap is_out x.1) in
      let u : suc k ≤ q.n + 1 = x.3 in
      either Left (has_indirect y) _ _
      (λ e. let r = t.0 e in
      let z : 2 ≤ entries_of q h = (well.listed h o r.0).two in
      (g, goes_on (take_chain h k (in_list ((y.addr - base) / 16)) 0 bs) (x.0, x.1, (r.0, r.1, omega arith), omega arith)))
      (λ e. either Left (has_next y) _ _
      (λ n. (g, goes_on (take_chain h k in_table y.next (bs ++ (buffer_of y ∷ []))) (x.0, x.1, t.1 e n, omega arith)))
      (λ n. takes_left h x.0 x.1 (bs ++ (buffer_of y ∷ []))))
  chain_left h (suc k) (in_list s) i bs x =
      let y : Desc = dsc q (entry (s + i)) m in
      let t : ListOk q h y =
      subst (λ z. ListOk q h (dsc q (entry (z + i)) m)) (sym x.2.1) ((f.shown.led h g.takes x.1).1 x.2.0 i x.2.2) in
      let u : suc k ≤ q.n + 1 = x.3 in
      either Left (has_next y) _ _
      (λ n. (g, goes_on (take_chain h k (in_list s) y.next (bs ++ (buffer_of y ∷ []))) (x.0, x.1, (x.2.0, x.2.1, t n), omega arith)))
      (λ n. takes_left h x.0 x.1 (bs ++ (buffer_of y ∷ [])))

  -- ---- a complete

  -- the element's slot is not one of those returned and not popped
  pub element_blank : (h : ℕ) → mem h d.holds ≡ true → Blank q g (used_id (d.used % q.n))
  element_blank h x k a b e =
      let c : 0 < length d.holds = mem_some h d.holds x in
      let n : length d.holds + g.uses ≡ g.takes = f.many in
      let o : g.takes ≤ g.adds = f.offers in
      slots_differ k g.uses q.n b (let z : g.adds + one_if (is_add q.call) ≤ g.pops + q.n = filled q m d g f in omega arith)
      (e ∙ used_slot q m d g f)

  held_small : (h : ℕ) → mem h d.holds ≡ true → h < 64
  held_small h x =
      let b : h < q.n = (staged_out q m d g f h (ap is_out (f.held h x))).below in
      let n : q.n ≤ 64 = small q well in
      omega arith

  id_left : (h l : ℕ) → mem h d.holds ≡ true → Left (work w (complete_id h l) d m)
  unfolding Has
  id_left h l x = (
    g,
    stores (used_id (d.used % q.n)) h (complete_len h l) (slot_low q well d.used) refl (element_blank h x) (
      x,
      put_num q (used_id (d.used % q.n)) h m f.fit (slot_low q well d.used) (λ e. absurd (used_not_pool q.modes.legacy e))
          (let b : h < 64 = held_small h x in omega arith),
    ),
  )

  len_left : (h l : ℕ) → mem h d.holds ≡ true → num q (used_id (d.used % q.n)) m ≡ h → Left (work w (complete_len h l) d m)
  unfolding Has
  len_left h l x e = (
    g,
    stores (used_len (d.used % q.n)) l (complete_idx h l) (slot_low q well d.used) refl tt (
      x,
      num_kept q (used_id (d.used % q.n)) (used_len (d.used % q.n)) m (put q (used_len (d.used % q.n)) l m) (slot_low q well d.used)
          (slot_low q well d.used)
          (unlike (omega arith)) (put_changed q (used_len (d.used % q.n)) l m) ∙ e,
    ),
  )

  -- its last store
  gave_notes : ℕ → Notes
  gave_notes h = record { adds = g.adds; takes = g.takes; uses = g.uses + 1; pops = g.pops; stage = turned g.stage h (returned g.uses) }

  gave_device : ℕ → Device
  gave_device h = record { taken = d.taken; used = after d.used; holds = without h d.holds; doing = resting }

  module _ (h : ℕ) (x : mem h d.holds ≡ true) (e : num q (used_id (d.used % q.n)) m ≡ h) where
    abbrev m' : Memory
    m' = put q used_idx (after d.used) m

    changed : Changed q used_idx m m'
    changed = put_changed q used_idx (after d.used) m

    -- the head was taken
    not_taken : (s : Stage) → (taken ≡ s → ⊥) → g.stage h ≡ s → ⊥
    not_taken s n z = n (sym (f.held h x) ∙ z)

    id_same : (s : ℕ) → s < q.n → num q (used_id s) m' ≡ num q (used_id s) m
    unfolding Has
    id_same s l = num_kept q (used_id s) used_idx m m' l tt (unlike (omega arith)) changed

    gave_element : (k : ℕ) → g.pops ≤ k → k < g.uses + 1 → turned g.stage h (returned g.uses) (num q (used_id (k % q.n)) m') ≡ returned k
    gave_element k a b =
        by_eq k g.uses
        (λ z. turned_here g.stage h (returned g.uses) (num q (used_id (k % q.n)) m')
        (id_same (k % q.n) (slot_low q well k) ∙ ap (λ y. num q (used_id y) m) (ap (λ y. y % q.n) z ∙ sym (used_slot q m d g f)) ∙ e) ∙ ap returned
        (sym z))
        (λ z. turned_keeps g.stage h (returned g.uses) (num q (used_id (k % q.n)) m') (returned k)
        (ap g.stage (id_same (k % q.n) (slot_low q well k)) ∙ f.shown.elements k a (omega arith))
        (not_taken (returned k) (λ y. let c : ◌≡◌ {A = ℕ} 2 4 = ap kind y in omega arith)))

    gave_led : (y k : ℕ) → turned g.stage h (returned g.uses) y ≡ offered k → Led base q m' y
    unfolding Has
    gave_led y k z =
        let r : g.stage y ≡ offered k =
        (turned_back g.stage h (returned g.uses) y (offered k) z (λ v. let c : ◌≡◌ {A = ℕ} 4 3 = ap kind v in omega arith)).0 in
        led_kept base q m m' g well f.outs used_idx tt changed refl y (staged_out q m d g f y (ap is_out r)) (f.shown.led y k r)

    gave_shown : Shown base q m' (gave_notes h)
    unfolding gave_notes Has
    gave_shown = record {
      idx = num_kept q avail_idx used_idx m m' tt tt (unlike (omega arith)) changed ∙ f.shown.idx;
      used = put_num q used_idx (after d.used) m f.fit tt (λ z. absurd (used_not_pool q.modes.legacy z)) (omega arith) ∙ ap after f.gave
          ∙ after_counts g.uses;
      slots = λ k a b. turned_keeps g.stage h (returned g.uses) (num q (avail_ring (k % q.n)) m') (offered k)
          (ap g.stage (num_kept q (avail_ring (k % q.n)) used_idx m m' (slot_low q well k) tt
          (unlike (omega arith)) changed) ∙ f.shown.slots k a b)
          (not_taken (offered k) (λ y. let c : ◌≡◌ {A = ℕ} 2 3 = ap kind y in omega arith));
      elements = gave_element;
      led = gave_led;
    }

    -- the open call
    gave_driver : DriverAt base q m' (gave_notes h) q.call
    unfolding gave_notes Has
    gave_driver =
        driver_notes base q m' g (gave_notes h)
        (λ y z. turned_keeps g.stage h (returned g.uses) y adding z
        (not_taken adding (λ v. let c : ◌≡◌ {A = ℕ} 2 1 = ap kind v in omega arith)))
        (λ z. omega arith) q.call
        (driver_kept base q m m' g well f.outs used_idx tt changed refl (λ z. id_same (q.counts.last % q.n) (slot_low q well q.counts.last))
        q.call f.at_driver)

    gave_held : (y : ℕ) → mem y (without h d.holds) ≡ true → turned g.stage h (returned g.uses) y ≡ taken
    gave_held y z =
        turned_there g.stage h (returned g.uses) y
        (λ v. true≢false (sym z ∙ ap (λ u. mem u (without h d.holds)) v ∙ gone h d.holds f.once))
        ∙ f.held y (mem_less y h d.holds z)

    gave_facts : Facts base q m' (gave_device h) (gave_notes h)
    unfolding gave_notes gave_device
    gave_facts =
        let a : g.pops ≤ g.uses = f.popped in
        let b : length d.holds + g.uses ≡ g.takes = f.many in
        let c : length (without h d.holds) + 1 ≡ length d.holds = length_less h d.holds x in
        record {
          good = f.good;
          fit = put_fits used_idx (after d.used);
          based = f.based;
          avail = f.avail;
          last = f.last;
          took = f.took;
          gave = ap after f.gave ∙ after_counts g.uses;
          popped = omega arith;
          given = omega arith;
          offers = f.offers;
          near = f.near;
          outs = λ y. f.outs y ∙ sym (turned_out g.stage h (returned g.uses) y (ap is_out (sym (f.held h x))));
          held = gave_held;
          once = once_less h d.holds f.once;
          many = omega arith;
          shown = gave_shown;
          at_driver = gave_driver;
          at_device = tt;
        }

    last_left : (l : ℕ) → Left (work w (complete_idx h l) d m)
    unfolding gave_notes gave_device
    last_left l = (gave_notes h, gave_facts)

  -- ---- THE LAWS: every step, and every opening

  work_at : (a : Doing) → DeviceAt q m d g a → Left (work w a d m)
  work_at resting x = (g, f)
  work_at take_idx x = idx_left
  work_at take_head x = head_left x
  work_at (take_chain h k t i bs) x = chain_left h k t i bs x
  work_at (complete_id h l) x = id_left h l x
  work_at (complete_len h l) x = len_left h l x.0 x.1
  work_at (complete_idx h l) x = last_left h x.0 x.1 l

  pub work_left : Left (work w d.doing d m)
  work_left = work_at d.doing f.at_device

  pub begin_left : (a : Act) → Left (begin w a d m)
  unfolding Has
  begin_left take_next = (g, goes_on take_idx tt)
  begin_left (complete h l) = either Left (may_give_back d.holds h) _ _ (λ e. (g, goes_on (complete_id h l) e)) (λ e. (g, goes_on resting tt))
  begin_left (set_used_flags v) = (g, stores used_flags v resting tt refl tt tt)
  begin_left (set_avail_event v) = (g, stores avail_event v resting tt refl tt tt)
  begin_left see_avail_flags = (g, goes_on resting tt)
  begin_left see_used_event = (g, goes_on resting tt)
