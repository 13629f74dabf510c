-- An event of the device that stores, beside an event of the driver: where one of the two leaves its operation open, the driver does what it would have done
-- before the device's event.
use Rattle.std.specs.Prelude.{◌≡◌, Bool, not, cond, ◌⊎◌, List, [], ◌∷◌, ℕ, ◌+◌, ◌%◌, ◌≤◌, ◌<◌, length}
use Rattle.std.proofs.Math.Path.{refl, sym, ap, ap₂, subst}
use Rattle.std.proofs.Common.{◌∙◌, true≢false, inl, inr, arith, ne_eqb}
use Rattle.std.proofs.Math.Bool.{true, false}
use Rattle.std.proofs.lemmas.Bool.{false≢true}
use Rattle.std.proofs.Math.Dec.{eqb}
use Rattle.lists.specs.Pick.{◌when◌, first, one_if}
use Rattle.virtio.specs.declared.Buffer.{Buffer}
use Rattle.virtio.specs.Device.{device_writes}
use Rattle.virtio.specs.Memory.{Memory, Place, avail_flags, used_flags, used_idx, avail_event, used_id, used_len}
use Rattle.virtio.specs.Notify.{by_flags}
use Rattle.virtio.specs.Sizes.{Has}
use Rattle.rules.specs.declared.Open.{Open}
use Rattle.rules.specs.declared.Open.TheVariants.{Idle, Add, PopIdx, PopId, PopLen, PopStore, PeekIdx, PeekId}
use Rattle.rules.specs.Record.{Queue, is_open}
use Rattle.rules.specs.WellFormed.{well_formed, no_empty}
use Rattle.rules.specs.Meaning.{WellFormed}
use Rattle.rules.specs.Answer.{Outcome, refused, unless, InvalidParam, QueueFull, EmptyBuffer, Busy, BadRecord, BadRegion}
use Rattle.rules.specs.Step.{store, loaded, access, will_go_on, ends, react, move}
use Rattle.rules.specs.Calls.{fits, bad_list, full, add_refusal, call_refusal, count_refusal, open_add, open_pop, open_peek, answered, notify_by_event, can_pop, should_notify, set_dev_notify, available_desc}
use Rattle.laws.specs.Changes.{access_wide, access_lengths}
use Rattle.laws.specs.EveryKeeps.{can_pop_record, should_notify_record}
use Rattle.laws.specs.Regions.{still_fits}
use Rattle.mixing.specs.Device.{Device}
use Rattle.mixing.specs.Mix.{Call, add, pop_used_call, peek_used_call, can_pop_call, should_notify_call, available_desc_call, set_dev_notify_call, opening}
use Rattle.mixing.specs.Fields.{num, put, put_changed, num_kept, stores_swap, unlike}
use Rattle.mixing.specs.Facts.{Notes, DriverAt, Facts}
use Rattle.mixing.specs.Shows.{next_differs, slot_low}
use Rattle.mixing.specs.Seen.{access_stored}

-- what a call comes to, over another memory
abbrev pub onto : Outcome → Memory → Outcome
onto o y = record { answer = o.answer; value = o.value; steps = o.steps; queue = o.queue; memory = y }

-- A store of the device by an event that leaves its act open, or not: of an element that no pop reads; of a field that the driver may look at at any time; of idx.
pub data Given (q : Queue) (g : Notes) (open? : Bool) (p : Place) (v : ℕ) : Type 0 where
  element : Has q.n p → device_writes p ≡ true → (used_idx ≡ p → ⊥) → (used_flags ≡ p → ⊥) → (avail_event ≡ p → ⊥)
      → (g.pops < g.uses → used_id (q.counts.last % q.n) ≡ p → ⊥) → (g.pops < g.uses → used_len (q.counts.last % q.n) ≡ p → ⊥)
      → Given q g open? p v
  tells : open? ≡ false → Has q.n p → device_writes p ≡ true → (used_idx ≡ p → ⊥) → ((s : ℕ) → used_id s ≡ p → ⊥) → ((s : ℕ) → used_len s ≡ p → ⊥)
      → Given q g open? p v
  gives : open? ≡ false → p ≡ used_idx → ((x : Memory) → fits q x ≡ true → num q used_idx (put q p v x) ≡ (g.uses + 1) % 65536) → Given q g open? p v

module _ (base : ℕ) (q : Queue) (m : Memory) (d : Device) (g : Notes) (f : Facts base q m d g) (open? : Bool) (p : Place) (v : ℕ)
    (c : Given q g open? p v) where
  abbrev well : WellFormed q
  well = f.good.well

  abbrev m' : Memory
  m' = put q p v m

  given_has : Given q g open? p v → Has q.n p
  unfolding Has
  given_has (element h o a b e i l) = h
  given_has (tells n h o a i l) = h
  given_has (gives n r x) = subst (Has q.n) (sym r) tt

  given_own : Given q g open? p v → device_writes p ≡ true
  given_own (element h o a b e i l) = o
  given_own (tells n h o a i l) = o
  given_own (gives n r x) = ap device_writes r

  fit_same : fits q m' ≡ fits q m
  fit_same = still_fits q q m' m (record { n = refl; modes = refl }) (access_lengths q m (store p v))

  kept : (x : Place) → Has q.n x → (x ≡ p → ⊥) → num q x m' ≡ num q x m
  kept x h n = num_kept q x p m m' h (given_has c) n (put_changed q p v m)

  -- ---- what the driver loads

  -- used idx: the same, or a pop that found an element finds one still
  abbrev none? : Memory → Bool
  none? x = eqb (num q used_idx x) q.counts.last

  some_still : num q used_idx m' ≡ (g.uses + 1) % 65536 → none? m' ≡ false
  some_still e =
      ne_eqb (num q used_idx m') q.counts.last
      (λ z. let a : q.counts.last ≡ g.pops % 65536 = f.last in
      let b : g.pops ≤ g.uses = f.popped in
      let r : g.uses ≤ g.takes = f.given in
      let s : g.takes ≤ g.adds = f.offers in
      let t : g.adds ≤ g.pops + 64 = f.near in
      next_differs g.uses g.pops b (omega arith) (sym e ∙ z ∙ a))

  idx_kept : (Given q g open? p v) → (open? ≡ true) ⊎ (none? m ≡ false) → none? m' ≡ none? m
  unfolding Has
  idx_kept (element h o a b e i l) x = ap (λ n. eqb n q.counts.last) (kept used_idx tt a)
  idx_kept (tells n h o a i l) x = ap (λ n. eqb n q.counts.last) (kept used_idx tt a)
  idx_kept (gives n r y) (inl x) = absurd (true≢false (sym x ∙ n))
  idx_kept (gives n r y) (inr x) = some_still (y m f.fit) ∙ sym x

  id_kept : (Given q g open? p v) → g.pops < g.uses → num q (used_id (q.counts.last % q.n)) m' ≡ num q (used_id (q.counts.last % q.n)) m
  unfolding Has
  id_kept (element h o a b e i l) x = kept (used_id (q.counts.last % q.n)) (slot_low q well q.counts.last) (i x)
  id_kept (tells n h o a i l) x = kept (used_id (q.counts.last % q.n)) (slot_low q well q.counts.last) (i (q.counts.last % q.n))
  id_kept (gives n r y) x =
      kept (used_id (q.counts.last % q.n)) (slot_low q well q.counts.last)
      (λ z. unlike (omega arith) (z ∙ r))

  len_kept : (Given q g open? p v) → g.pops < g.uses → num q (used_len (q.counts.last % q.n)) m' ≡ num q (used_len (q.counts.last % q.n)) m
  unfolding Has
  len_kept (element h o a b e i l) x = kept (used_len (q.counts.last % q.n)) (slot_low q well q.counts.last) (l x)
  len_kept (tells n h o a i l) x = kept (used_len (q.counts.last % q.n)) (slot_low q well q.counts.last) (l (q.counts.last % q.n))
  len_kept (gives n r y) x =
      kept (used_len (q.counts.last % q.n)) (slot_low q well q.counts.last)
      (λ z. unlike (omega arith) (z ∙ r))

  -- ---- a step

  goes_on : (b : Bool) (r : ℕ) (o : Open) → is_open (cond b (ends q r 0) (will_go_on q o)).queue.call ≡ true → b ≡ false
  goes_on true r o e = absurd (false≢true e)
  goes_on false r o e = refl

  side : {A B C : Type 0} → A ⊎ B → (B → C) → A ⊎ C
  side (inl a) h = inl a
  side (inr b) h = inr (h b)

  reacts : (o : Open) → q.call ≡ o → (open? ≡ true) ⊎ (is_open (react q o (loaded q (access q o) m)).queue.call ≡ true)
      → react q o (loaded q (access q o) m') ≡ react q o (loaded q (access q o) m)
  reacts Idle e x = refl
  reacts (Add h i) e x = refl
  reacts (PopIdx t b) e x = ap (λ z. cond z (ends q 3 0) (will_go_on q (PopId t b))) (idx_kept c (side x (λ y. goes_on (none? m) 3 (PopId t b) y)))
  reacts (PopId t b) e x = ap (λ z. will_go_on q (PopLen t b z)) (id_kept c (subst (λ o. DriverAt base q m g o) e f.at_driver))
  reacts (PopLen t b y) e x = ap (λ z. react q (PopLen t b y) z) (len_kept c (subst (λ o. DriverAt base q m g o) e f.at_driver).0)
  reacts (PopStore k i l) e x = refl
  reacts PeekIdx e x = ap (λ z. cond z (ends q 3 0) (will_go_on q PeekId)) (idx_kept c (side x (λ y. goes_on (none? m) 3 PeekId y)))
  reacts PeekId e x = ap (λ z. react q PeekId z) (id_kept c (subst (λ o. DriverAt base q m g o) e f.at_driver))

  -- THE LAW of a step
  pub move_onto : (open? ≡ true) ⊎ (is_open (move q m).queue.call ≡ true) → move q m' ≡ onto (move q m) (put q p v (move q m).memory)
  unfolding move
  move_onto x =
      ap₂ (λ r y. record { answer = r.answer; value = r.value; steps = 1; queue = r.queue; memory = y })
      (reacts q.call refl x)
      (stores_swap q (access q q.call) p v m (access_stored base q m d g f q.call refl) (access_wide q q.call) (given_has c) (given_own c))

  -- ---- an opening

  add_same : (bs : List Buffer) → add_refusal q m' bs ≡ add_refusal q m bs
  add_same bs =
      ap (λ z. first (
      (BadRecord when not (well_formed q))
      ∷ (BadRegion when not z)
      ∷ (Busy when is_open q.call)
      ∷ (InvalidParam when bad_list bs)
      ∷ (QueueFull when full q (length bs))
      ∷ (EmptyBuffer when not (no_empty bs))
      ∷ []
      )) fit_same

  call_same : call_refusal q m' ≡ call_refusal q m
  call_same = ap (λ z. first ((BadRecord when not (well_formed q)) ∷ (BadRegion when not z) ∷ (Busy when is_open q.call) ∷ [])) fit_same

  unless_onto : (a b : ℕ) (o r : Outcome) → a ≡ b → o ≡ onto r (put q p v r.memory)
      → unless a q m' o ≡ onto (unless b q m r) (put q p v (unless b q m r).memory)
  unless_onto a b o r e s = ap (λ z. unless z q m' o) e ∙ go (eqb b 0)
    where
      go : (z : Bool) → cond z o (refused b q m') ≡ onto (cond z r (refused b q m)) (put q p v (cond z r (refused b q m)).memory)
      go true = s
      go false = refl

  -- the driver is at rest, so an opening that ends at once leaves it so
  module _ (rests : is_open q.call ≡ false) where
    ended : (o : Outcome) → o.queue ≡ q → (open? ≡ true) ⊎ (is_open o.queue.call ≡ true) → open? ≡ true
    ended o e (inl x) = x
    ended o e (inr x) = absurd (true≢false (sym x ∙ ap (λ r. is_open r.call) e ∙ rests))

    event_kept : Given q g open? p v → open? ≡ true → num q avail_event m' ≡ num q avail_event m
    unfolding Has
    event_kept (element h o a b e i l) x = kept avail_event tt e
    event_kept (tells n h o a i l) x = absurd (true≢false (sym x ∙ n))
    event_kept (gives n r y) x = absurd (true≢false (sym x ∙ n))

    flags_kept : Given q g open? p v → open? ≡ true → num q used_flags m' ≡ num q used_flags m
    unfolding Has
    flags_kept (element h o a b e i l) x = kept used_flags tt b
    flags_kept (tells n h o a i l) x = absurd (true≢false (sym x ∙ n))
    flags_kept (gives n r y) x = absurd (true≢false (sym x ∙ n))

    notified : (b e : Bool) → cond e (answered 0 0 q m') (answered 1 0 q (put q avail_flags (cond b 0 1) m'))
        ≡ onto (cond e (answered 0 0 q m) (answered 1 0 q (put q avail_flags (cond b 0 1) m)))
        (put q p v (cond e (answered 0 0 q m) (answered 1 0 q (put q avail_flags (cond b 0 1) m))).memory)
    unfolding Has
    notified b true = refl
    notified b false = ap (λ z. answered 1 0 q z) (stores_swap q (store avail_flags (cond b 0 1)) p v m (tt, refl) tt (given_has c) (given_own c))

    -- THE LAW of an opening
    pub opening_onto : (x : Call) → (open? ≡ true) ⊎ (is_open (opening x q m).queue.call ≡ true)
        → opening x q m' ≡ onto (opening x q m) (put q p v (opening x q m).memory)
    unfolding open_add open_pop open_peek can_pop should_notify set_dev_notify available_desc
    opening_onto (add bs) i = unless_onto (add_refusal q m' bs) (add_refusal q m bs) _ _ (add_same bs) refl
    opening_onto (pop_used_call t bs) i = unless_onto (call_refusal q m') (call_refusal q m) _ _ call_same refl
    opening_onto peek_used_call i = unless_onto (call_refusal q m') (call_refusal q m) _ _ call_same refl
    opening_onto can_pop_call i =
        unless_onto (call_refusal q m') (call_refusal q m) _ _ call_same
        (ap (λ z. answered 1 (one_if (not z)) q m') (idx_kept c (inl (ended (can_pop q m) (can_pop_record q m) i))))
    opening_onto should_notify_call i =
        let x : open? ≡ true = ended (should_notify q m) (should_notify_record q m) i in
        unless_onto (call_refusal q m') (call_refusal q m) _ _ call_same
        (ap₂ (λ y z. answered 1 (one_if (cond q.modes.event_idx (notify_by_event q.counts.avail y) (by_flags z))) q m') (event_kept c x)
        (flags_kept c x))
    opening_onto available_desc_call i = unless_onto (count_refusal q) (count_refusal q) _ _ refl refl
    opening_onto (set_dev_notify_call b) i = unless_onto (call_refusal q m') (call_refusal q m) _ _ call_same (notified b q.modes.event_idx)
