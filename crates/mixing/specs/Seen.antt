-- What the device can see of an event of the driver: which field it stored, and that only a call's last event stores one of those that the device may look at
-- at any time, or idx.
use Rattle.std.specs.Prelude.{◌≡◌, Bool, cond, ltb, eqb}
use Rattle.std.proofs.Math.Path.{refl, ap}
use Rattle.std.proofs.Common.{sym, subst, ◌∙◌}
use Rattle.std.proofs.Math.Bool.{true, false}
use Prim.Native.Nat.{ℕ, ◌+◌, ◌-◌, ◌*◌, ◌%◌, ◌≤◌, ◌<◌}
use native.Mathlib.Omega.{arith}
use borrow.Author.Tests.{lt-ltb, le-ltb, eq-eqb, ne_eqb, ltb-true, ltb-false}
use Rattle.lists.specs.Tests.{by_test, by_eq}
use Rattle.lists.specs.Index.{after, after_counts}
use Rattle.lists.specs.Pick.{one_if}
use Rattle.lists.specs.Walk.{hop, hop_below}
use Rattle.virtio.specs.Memory.{Memory, Place, desc, avail_flags, avail_idx, used_event, avail_ring, entry}
use Rattle.virtio.specs.Device.{device_writes}
use Rattle.virtio.specs.Sizes.{Has}
use Rattle.rules.specs.declared.Open.{Open}
use Rattle.rules.specs.declared.Open.TheVariants.{Idle, Add, PopIdx, PopId, PopLen, PopStore, PeekIdx, PeekId}
use Rattle.rules.specs.Record.{Queue, desc_of, next_of, noted_of, last_of, is_indirect, entries_of, size_of, free_count, is_open}
use Rattle.rules.specs.WellFormed.{store_steps}
use Rattle.rules.specs.Meaning.{WellFormed, Out, Named, Adding, Storing}
use Rattle.rules.specs.Answer.{Outcome, refused, unless}
use Rattle.rules.specs.Step.{Access, nothing, store, store_desc, accessed, with_next, list_entry, access, move}
use Rattle.rules.specs.Calls.{add_refusal, call_refusal, count_refusal, open_add, open_pop, open_peek, answered, can_pop, should_notify, set_dev_notify, available_desc}
use Rattle.laws.specs.FreeLaws.{hop_low}
use Rattle.laws.specs.Runs.{move_at}
use Rattle.laws.specs.EveryKeeps.{set_notify_record}
use Rattle.mixing.specs.Device.{Device}
use Rattle.mixing.specs.Mix.{Call, add, pop_used_call, peek_used_call, can_pop_call, should_notify_call, available_desc_call, set_dev_notify_call, opening}
use Rattle.mixing.specs.Fields.{num, put, Changed, put_changed, desc_changed, put_num, Stored, unlike, one_not_pool}
use Rattle.mixing.specs.Facts.{Notes, Blank, Facts}
use Rattle.mixing.specs.Shows.{slot_low, entry_low}
use Rattle.mixing.specs.Adding.{size_direct, size_list, some_noted}
use Rattle.mixing.specs.AddSteps.{named, entry_blank, desc_blank, slot_blank, last_low}
use Rattle.mixing.specs.PopSteps.{free_blank}

-- The memory after an event of the driver that leaves its call open, or not: as it was; or one field stored. `hidden`: the device's looks do not see it.
pub data Filled (q : Queue) (g : Notes) (m : Memory) (open? : Bool) : Memory → Type 0 where
  still : Filled q g m open? m
  fills : (p : Place) (x : Memory) → Has q.n p → device_writes p ≡ false → Changed q p m x → Blank q g p → (avail_flags ≡ p → ⊥)
      → (used_event ≡ p → ⊥) → Filled q g m open? x
  tells : (p : Place) (x : Memory) → open? ≡ false → Has q.n p → device_writes p ≡ false → Changed q p m x → Blank q g p → Filled q g m open? x
  offers : (x : Memory) → open? ≡ false → Changed q avail_idx m x → num q avail_idx x ≡ (g.adds + 1) % 65536 → Filled q g m open? x

module _ (base : ℕ) (q : Queue) (m : Memory) (d : Device) (g : Notes) (f : Facts base q m d g) where
  abbrev well : WellFormed q
  well = f.good.well

  -- ---- the places that accesses store to

  pick : (b : Bool) (x y : Access) → (b ≡ true → Stored q x) → (b ≡ false → Stored q y) → Stored q (cond b x y)
  pick true x y s t = s refl
  pick false x y s t = t refl

  pub access_stored : (c : Open) → q.call ≡ c → Stored q (access q c)
  unfolding Has
  access_stored Idle e = tt
  access_stored (Add h i) e =
      let n : Adding q h i = named base q m d g f h i e in
      pick (ltb i (size_of q h)) _ _
      (λ l. pick (is_indirect q h) _ _
      (λ z. (
        entry_low q well h i n.head z
            (let a : i < size_of q h = ltb-true i (size_of q h) l in let b : size_of q h ≡ entries_of q h = size_list q well h
            n.head z in omega arith),
        refl,
      ))
      (λ z. (hop_low q well h i n.head.below, refl)))
      (λ l. pick (eqb i (size_of q h)) _ _
      (λ z. (hop_low q well h (noted_of q h - 1) n.head.below, refl))
      (λ z. pick (eqb i (size_of q h + 1)) _ _ (λ y. (slot_low q well q.counts.avail, refl)) (λ y. (tt, refl))))
  access_stored (PopIdx t b) e = tt
  access_stored (PopId t b) e = tt
  access_stored (PopLen t b x) e = tt
  access_stored (PopStore k i l) e =
      pick (ltb i k) _ _ (λ z. (hop_below (next_of q) q.n well.nexts i q.counts.free well.free, refl)) (λ z. (tt, refl))
  access_stored PeekIdx e = tt
  access_stored PeekId e = tt

  -- ---- a step

  abbrev Left : Type 0
  Left = Filled q g m (is_open (move q m).queue.call) (move q m).memory

  -- it stores what the access says
  by_access : (c : Open) (a : Access) → q.call ≡ c → access q c ≡ a → Filled q g m (is_open (move q m).queue.call) (accessed q a m) → Left
  by_access c a e x y =
      subst (Filled q g m (is_open (move q m).queue.call)) (sym (ap (λ r. r.memory) (move_at q m c e) ∙ ap (λ z. accessed q z m) x)) y

  module _ (h s : ℕ) (e : q.call ≡ Add h s) where
    abbrev k : ℕ
    k = size_of q h

    abbrev out : Out q h
    out = (named base q m d g f h s e).head

    fills_desc : (i : ℕ) → i < q.n → (x : _) → Blank q g (desc i)
        → Filled q g m (is_open (move q m).queue.call) (accessed q (store_desc (desc i) x) m)
    unfolding Has
    fills_desc i l x b =
        fills (desc i) (accessed q (store_desc (desc i) x) m) l refl (desc_changed q (desc i) x m refl) b
        (unlike (omega arith)) (unlike (omega arith))

    entry_filled : is_indirect q h ≡ true → s < k → Left
    unfolding Has
    entry_filled i l =
        let z : k ≡ entries_of q h = size_list q well h out i in
        let p : Place = entry (q.n * h + s) in
        by_access (Add h s) (store_desc p (list_entry q h s)) e (rw (lt-ltb s k l, i))
        (fills p (accessed q (store_desc p (list_entry q h s)) m) (entry_low q well h s out i (omega arith)) refl
        (desc_changed q p (list_entry q h s) m refl)
        (entry_blank base q m d g f h s e i (omega arith)) (unlike (omega arith))
        (unlike (omega arith)))

    desc_filled : is_indirect q h ≡ false → s < k → Left
    desc_filled i l =
        let z : k ≡ noted_of q h = size_direct q well h out i in
        by_access (Add h s) (store_desc (desc (hop (next_of q) s h)) (with_next (desc_of q (hop (next_of q) s h)))) e (rw (lt-ltb s k l, i))
        (fills_desc (hop (next_of q) s h) (hop_low q well h s out.below) (with_next (desc_of q (hop (next_of q) s h)))
        (desc_blank base q m d g f h s e s (omega arith)))

    last_filled : s ≡ k → Left
    last_filled z =
        let n : 0 < noted_of q h = some_noted q well h out in
        by_access (Add h s) (store_desc (desc (last_of q h)) (desc_of q (last_of q h))) e (rw (le-ltb s k (omega arith), eq-eqb s k z))
        (fills_desc (last_of q h) (last_low base q m d g f h s e) (desc_of q (last_of q h))
        (desc_blank base q m d g f h s e (noted_of q h - 1) (omega arith)))

    slot_filled : s ≡ k + 1 → Left
    unfolding Has
    slot_filled z =
        let p : Place = avail_ring (q.counts.avail % q.n) in
        by_access (Add h s) (store p h) e (rw (le-ltb s k (omega arith), ne_eqb s k (omega arith), eq-eqb s (k + 1) z))
        (fills p (put q p h m) (slot_low q well q.counts.avail) refl (put_changed q p h m) (slot_blank base q m d g f h s e)
        (unlike (omega arith)) (unlike (omega arith)))

    idx_filled : s ≡ k + 2 → Left
    unfolding Has
    idx_filled z =
        let v : ℕ = after q.counts.avail in
        by_access (Add h s) (store avail_idx v) e (rw (le-ltb s k (omega arith), ne_eqb s k (omega arith), ne_eqb s (k + 1) (omega arith)))
        (offers (put q avail_idx v m) (ap (λ r. is_open r.queue.call) (move_at q m (Add h s) e) ∙ (rw (le-ltb (s + 1) (k + 3) (omega arith))))
        (put_changed q avail_idx v m)
        (put_num q avail_idx v m f.fit tt (λ y. absurd (one_not_pool y)) (omega arith) ∙ ap after f.avail
        ∙ after_counts g.adds))

    add_filled : Left
    add_filled =
        let l : s < k + 3 = (named base q m d g f h s e).step in
        by_test (ltb s k)
        (λ a. by_test (is_indirect q h) (λ i. entry_filled i (ltb-true s k a)) (λ i. desc_filled i (ltb-true s k a)))
        (λ a. let u : k ≤ s = ltb-false s k a in
        by_eq s k last_filled (λ b. by_eq s (k + 1) slot_filled (λ c. idx_filled (omega arith))))

  module _ (k i l : ℕ) (e : q.call ≡ PopStore k i l) where
    named_store : Storing q k i
    named_store = subst (λ c. Named q c) e well.call

    store_filled : Left
    unfolding Has
    store_filled =
        let n : i < k + one_if q.modes.event_idx = named_store.step in
        by_test (ltb i k)
        (λ b. let u : i < k = ltb-true i k b in
        let v : k ≤ free_count q = named_store.free in
        let p : Place = desc (hop (next_of q) i q.counts.free) in
        by_access (PopStore k i l) (store_desc p (desc_of q (hop (next_of q) i q.counts.free))) e (rw b)
        (fills p (accessed q (store_desc p (desc_of q (hop (next_of q) i q.counts.free))) m)
        (hop_below (next_of q) q.n well.nexts i q.counts.free well.free) refl
        (desc_changed q p (desc_of q (hop (next_of q) i q.counts.free)) m refl) (free_blank base q m d g f i (omega arith))
        (unlike (omega arith)) (unlike (omega arith))))
        (λ b. let u : k ≤ i = ltb-false i k b in
        by_access (PopStore k i l) (store used_event q.counts.last) e (rw b)
        (tells used_event (put q used_event q.counts.last m)
        (ap (λ r. is_open r.queue.call) (move_at q m (PopStore k i l) e) ∙
        (rw (le-ltb (i + 1) (store_steps q k) (last q.modes.event_idx n u)))) tt refl
        (put_changed q used_event q.counts.last m) tt))
      where
        last : (b : Bool) → i < k + one_if b → k ≤ i → k + one_if b ≤ i + 1
        last true x y = omega arith
        last false x y = omega arith

  step_at : (c : Open) → q.call ≡ c → Left
  step_at Idle e = by_access Idle nothing e refl still
  step_at (Add h i) e = add_filled h i e
  step_at (PopIdx t b) e = by_access (PopIdx t b) _ e refl still
  step_at (PopId t b) e = by_access (PopId t b) _ e refl still
  step_at (PopLen t b x) e = by_access (PopLen t b x) _ e refl still
  step_at (PopStore k i l) e = store_filled k i l e
  step_at PeekIdx e = by_access PeekIdx _ e refl still
  step_at PeekId e = by_access PeekId _ e refl still

  -- THE LAW of a step
  pub step_filled : Filled q g m (is_open (move q m).queue.call) (move q m).memory
  step_filled = step_at q.call refl

  -- ---- an opening: none stores, but for set_dev_notify, which ends at once

  unless_still : (open? : Bool) (number : ℕ) (o : Outcome) → Filled q g m open? o.memory → Filled q g m open? (unless number q m o).memory
  unless_still open? number o x = go (eqb number 0)
    where
      go : (b : Bool) → Filled q g m open? (cond b o (refused number q m)).memory
      go true = x
      go false = still

  notify_filled : (open? : Bool) → open? ≡ false → (b : Bool) → Filled q g m open? (set_dev_notify q m b).memory
  unfolding set_dev_notify Has
  notify_filled open? n b = unless_still open? (call_refusal q m) _ (go q.modes.event_idx)
    where
      go : (x : Bool) → Filled q g m open? (cond x (answered 0 0 q m) (answered 1 0 q (put q avail_flags (cond b 0 1) m))).memory
      go true = still
      go false = tells avail_flags (put q avail_flags (cond b 0 1) m) n tt refl (put_changed q avail_flags (cond b 0 1) m) tt

  -- THE LAW of an opening
  pub opening_filled : (c : Call) → is_open q.call ≡ false → Filled q g m (is_open (opening c q m).queue.call) (opening c q m).memory
  unfolding open_add open_pop open_peek can_pop should_notify available_desc
  opening_filled (add bs) r = unless_still _ (add_refusal q m bs) _ still
  opening_filled (pop_used_call t bs) r = unless_still _ (call_refusal q m) _ still
  opening_filled peek_used_call r = unless_still _ (call_refusal q m) _ still
  opening_filled can_pop_call r = unless_still _ (call_refusal q m) _ still
  opening_filled should_notify_call r = unless_still _ (call_refusal q m) _ still
  opening_filled available_desc_call r = unless_still _ (count_refusal q) _ still
  opening_filled (set_dev_notify_call b) r =
      notify_filled (is_open (set_dev_notify q m b).queue.call) (ap (λ x. is_open x.call) (set_notify_record q m b) ∙ r) b
