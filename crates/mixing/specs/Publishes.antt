-- The last step of an add, the store of idx, keeps the invariant: its chain is offered. So every step of an add does.
use Rattle.std.proofs.Math.Path.{◌≡◌, ap}
use Rattle.std.specs.Prelude.{refl, ℕ, ◌+◌, ◌*◌, ◌%◌, ◌≤◌, ◌<◌, ltb}
use Rattle.std.proofs.Common.{sym, subst, ◌∙◌, arith, le-ltb, ltb-true, ltb-false, ne_eqb}
use Rattle.lists.specs.Tests.{by_test, by_eq}
use Rattle.lists.specs.Index.{after, after_counts}
use Rattle.lists.specs.Pick.{one_if}
use Rattle.virtio.specs.Memory.{Memory, Place, desc, avail_idx, avail_ring, used_idx, used_id, entry}
use Rattle.virtio.specs.Sizes.{Has}
use Rattle.rules.specs.declared.Open.TheVariants.{Idle, Add}
use Rattle.rules.specs.Record.{Queue, noted_of, is_indirect, entries_of, size_of, is_add, with_call, with_avail}
use Rattle.rules.specs.Meaning.{WellFormed, Out}
use Rattle.rules.specs.Step.{store, move}
use Rattle.laws.specs.CallKeeps.{Good, move_keeps}
use Rattle.laws.specs.Runs.{move_at}
use Rattle.mixing.specs.Device.{Table, in_table, in_list, Doing, resting, take_idx, take_head, take_chain, complete_id, complete_len, complete_idx, Device}
use Rattle.mixing.specs.Fields.{num, put, Changed, put_changed, num_kept, dsc_kept, put_num, unlike, one_not_pool}
use Rattle.mixing.specs.Facts.{Stage, adding, taken, offered, returned, is_out, Notes, TableOk, ListOk, Led, Shown, Progress, Reading, DeviceAt, Facts}
use Rattle.mixing.specs.Stages.{kind, turned, turned_here, turned_keeps, turned_there, turned_out}
use Rattle.mixing.specs.Shows.{slot_low, small, chain_low, entry_low, staged_out, filled, avail_slot}
use Rattle.mixing.specs.Adding.{progress_led}
use Rattle.mixing.specs.AddSteps.{Ends, still_fit, named, standing, noted_most, entries_most, at_entry, at_desc, at_last, at_slot}

-- a chain is led as before, where a field is stored that is no descriptor and no entry
pub led_apart : (base : ℕ) (q : Queue) (m m' : Memory) (p : Place) → WellFormed q → Has q.n p → Changed q p m m' → ((i : ℕ) → desc i ≡ p → ⊥)
    → ((j : ℕ) → entry j ≡ p → ⊥)
    → (h : ℕ) → Out q h → Led base q m h → Led base q m' h
unfolding Has
led_apart base q m m' p w has c a b h o l = (
  (λ i x. subst (TableOk base q h) (sym (dsc_kept q (desc i) p m m' refl (chain_low q w h i o x) has (a i) c)) (l.0 i x)),
  (λ i j u. subst (ListOk q h) (sym (dsc_kept q (entry (q.n * h + j)) p m m' refl (entry_low q w h j o i u) has (b (q.n * h + j)) c)) (l.1 i j u)),
)

module _ (base : ℕ) (q : Queue) (m : Memory) (d : Device) (g : Notes) (f : Facts base q m d g) (h s : ℕ) (e : q.call ≡ Add h s) where
  abbrev well : WellFormed q
  well = f.good.well

  abbrev k : ℕ
  k = size_of q h

  out : Out q h
  out = (named base q m d g f h s e).head

  stands : (g.stage h ≡ adding) × Progress base q m h s
  stands = standing base q m d g f h s e

  -- the record, the memory and the notes after it
  abbrev q' : Queue
  q' = with_call (with_avail q (after q.counts.avail)) Idle

  abbrev m' : Memory
  m' = put q avail_idx (after q.counts.avail) m

  abbrev g' : Notes
  g' = record { adds = g.adds + 1; takes = g.takes; uses = g.uses; pops = g.pops; stage = turned g.stage h (offered g.adds) }

  changed : Changed q avail_idx m m'
  changed = put_changed q avail_idx (after q.counts.avail) m

  -- the head was being added
  not_adding : (x : Stage) → (adding ≡ x → ⊥) → g.stage h ≡ x → ⊥
  not_adding x n z = n (sym stands.0 ∙ z)

  keeps : (y : ℕ) (x : Stage) → g.stage y ≡ x → (adding ≡ x → ⊥) → turned g.stage h (offered g.adds) y ≡ x
  keeps y x z n = turned_keeps g.stage h (offered g.adds) y x z (not_adding x n)

  -- ---- what the memory shows

  ring_same : (x : ℕ) → x < q.n → num q (avail_ring x) m' ≡ num q (avail_ring x) m
  unfolding Has
  ring_same x l = num_kept q (avail_ring x) avail_idx m m' l tt (unlike (omega arith)) changed

  id_same : (x : ℕ) → x < q.n → num q (used_id x) m' ≡ num q (used_id x) m
  unfolding Has
  id_same x l = num_kept q (used_id x) avail_idx m m' l tt (unlike (omega arith)) changed

  led_same : (y : ℕ) → Out q y → Led base q m y → Led base q m' y
  unfolding Has
  led_same y o l =
      led_apart base q m m' avail_idx well tt changed (λ i. unlike (omega arith))
      (λ j. unlike (omega arith)) y o l

  module _ (z : s ≡ k + 2) where
    slot_is : (x : ℕ) → g.takes ≤ x → x < g.adds + 1 → turned g.stage h (offered g.adds) (num q (avail_ring (x % q.n)) m') ≡ offered x
    slot_is x a b =
        by_eq x g.adds
        (λ y. turned_here g.stage h (offered g.adds) (num q (avail_ring (x % q.n)) m')
        (ring_same (x % q.n) (slot_low q well x) ∙ ap (λ v. num q (avail_ring v) m) (ap (λ v. v % q.n) y ∙ sym (avail_slot q m d g f))
        ∙ stands.1.slot (omega arith)) ∙ ap offered (sym y))
        (λ y. keeps (num q (avail_ring (x % q.n)) m') (offered x)
        (ap g.stage (ring_same (x % q.n) (slot_low q well x)) ∙ f.shown.slots x a (omega arith))
        (λ v. let c : ◌≡◌ {A = ℕ} 1 3 = ap kind v in omega arith))

    led_is : (y x : ℕ) → turned g.stage h (offered g.adds) y ≡ offered x → Led base q m' y
    led_is y x a =
        by_eq y h
        (λ v. subst (Led base q m') (sym v) (led_same h out
        (progress_led q well h out base m s (omega arith) (let u : noted_of q h ≤ k = noted_most base q m d g f h s e in omega arith)
        (λ i. let u : entries_of q h ≤ k = entries_most base q m d g f h s e i in omega arith) stands.1)))
        (λ v. let b : g.stage y ≡ offered x = sym (turned_there g.stage h (offered g.adds) y v) ∙ a in
        led_same y (staged_out q m d g f y (ap is_out b)) (f.shown.led y x b))

    shown_is : Shown base q m' g'
    unfolding Has
    shown_is = record {
      idx = put_num q avail_idx (after q.counts.avail) m f.fit tt (λ y. absurd (one_not_pool y)) (omega arith)
          ∙ ap after f.avail ∙ after_counts g.adds;
      used = num_kept q used_idx avail_idx m m' tt tt (unlike (omega arith)) changed ∙ f.shown.used;
      slots = slot_is;
      elements =
          λ x a b. keeps (num q (used_id (x % q.n)) m') (returned x)
          (ap g.stage (id_same (x % q.n) (slot_low q well x)) ∙ f.shown.elements x a b)
          (λ v. let c : ◌≡◌ {A = ℕ} 1 4 = ap kind v in omega arith);
      led = led_is;
    }

    -- ---- the open act

    reading_is : (y : ℕ) (t : Table) (i : ℕ) → Reading q g y t i → Reading q' g' y t i
    reading_is y in_table i x = x
    reading_is y (in_list v) i x = x

    device_is : (a : Doing) → DeviceAt q m d g a → DeviceAt q' m' d g' a
    device_is resting x = tt
    device_is take_idx x = tt
    device_is take_head x = omega arith
    device_is (take_chain y j t i bs) x =
        let l : g.takes < g.adds = x.0 in
        (omega arith, keeps y (offered g.takes) x.1 (λ v. let c : ◌≡◌ {A = ℕ} 1 3 = ap kind v in omega arith), reading_is y t i x.2, x.3)
    device_is (complete_id y l) x = x
    device_is (complete_len y l) x = (x.0, id_same (d.used % q.n) (slot_low q well d.used) ∙ x.1)
    device_is (complete_idx y l) x = (x.0, id_same (d.used % q.n) (slot_low q well d.used) ∙ x.1)

    -- ---- all of it

    queue_is : (move q m).queue ≡ q'
    queue_is = ap (λ r. r.queue) (move_at q m (Add h s) e) ∙ rw (le-ltb (s + 1) (k + 3) (omega arith))

    memory_is : (move q m).memory ≡ m'
    memory_is =
        ap (λ r. r.memory) (move_at q m (Add h s) e)
        ∙ rw (le-ltb s k (omega arith), ne_eqb s k (omega arith), ne_eqb s (k + 1) (omega arith))

    facts_are : Facts base q' m' d g'
    facts_are =
        let a : g.takes ≤ g.adds = f.offers in
        let b : g.adds + one_if (is_add q.call) ≤ g.pops + q.n = filled q m d g f in
        let c : one_if (is_add q.call) ≡ 1 = ap (λ x. one_if (is_add x)) e in
        let r : q.n ≤ 64 = small q well in
        record {
          good = subst Good queue_is (move_keeps q m f.good);
          fit = still_fit base q m d g f h s e (store avail_idx (after q.counts.avail));
          based = f.based;
          avail = ap after f.avail ∙ after_counts g.adds;
          last = f.last;
          took = f.took;
          gave = f.gave;
          popped = f.popped;
          given = f.given;
          offers = omega arith;
          near = omega arith;
          outs = λ x. f.outs x ∙ sym (turned_out g.stage h (offered g.adds) x (ap is_out (sym stands.0)));
          held = λ x y. keeps x taken (f.held x y) (λ v. let t : ◌≡◌ {A = ℕ} 1 2 = ap kind v in omega arith);
          once = f.once;
          many = f.many;
          shown = record { idx = shown_is.idx; used = shown_is.used; slots = shown_is.slots; elements = shown_is.elements; led = shown_is.led };
          at_driver = tt;
          at_device = device_is d.doing f.at_device;
        }

    at_idx : Ends base q m d g f h s e (move q m).queue (move q m).memory
    at_idx = (g', subst (λ r. Facts base r (move q m).memory d g') (sym queue_is) (subst (λ x. Facts base q' x d g') (sym memory_is) facts_are))

  -- THE LAW: every step of an add
  pub add_left : (g'' : Notes) × Facts base (move q m).queue (move q m).memory d g''
  add_left =
      let l : s < k + 3 = (named base q m d g f h s e).step in
      by_test (ltb s k)
      (λ a. by_test (is_indirect q h)
      (λ i. at_entry base q m d g f h s e i (ltb-true s k a))
      (λ i. at_desc base q m d g f h s e i (ltb-true s k a)))
      (λ a. let u : k ≤ s = ltb-false s k a in
      by_eq s k
      (λ b. at_last base q m d g f h s e b)
      (λ b. by_eq s (k + 1) (λ c. at_slot base q m d g f h s e c) (λ c. at_idx (omega arith))))
