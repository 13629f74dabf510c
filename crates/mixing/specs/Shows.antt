-- What a store to a field of which the invariant does not speak leaves: all that the memory shows, and where the open operations stand.
use Rattle.std.specs.Prelude.{◌≡◌, Bool, true, false, List, [], ◌∷◌, ℕ, zero, suc, ◌+◌, ◌-◌, ◌*◌, ◌/◌, ◌%◌, ◌^◌, ◌≤◌, ◌<◌}
use Rattle.std.proofs.Math.Path.{refl, subst}
use Rattle.std.proofs.Common.{sym, ap, ◌∙◌, true≢false, mod-lt, mul-le-mul_left, mul-le-mul_right, mul-suc, div-add-mod', arith}
use Rattle.std.proofs.Math.Decide.{dec_le}
use Rattle.lists.specs.Tests.{by_eq}
use Rattle.lists.specs.Index.{ahead, ahead_counts}
use Rattle.lists.specs.Pick.{one_if}
use Rattle.lists.specs.Once.{count, count_other, Below}
use Rattle.lists.specs.Walk.{hop, walk_below}
use Rattle.lists.specs.WalkLaws.{hop_counted}
use Rattle.virtio.specs.Memory.{Memory, in_pool, used_region, Place, desc, avail_idx, avail_ring, used_idx, used_id, entry}
use Rattle.virtio.specs.Device.{device_writes}
use Rattle.virtio.specs.Sizes.{Has}
use Rattle.rules.specs.declared.Open.{Open}
use Rattle.rules.specs.declared.Open.TheVariants.{Idle, Add, PopIdx, PopId, PopLen, PopStore, PeekIdx, PeekId}
use Rattle.rules.specs.Record.{Queue, next_of, noted_of, outstanding, chain_of, last_of, is_indirect, entries_of, is_add}
use Rattle.rules.specs.WellFormed.{out_count}
use Rattle.rules.specs.Meaning.{WellFormed, Out}
use Rattle.laws.specs.WellFormedIs.{out_means}
use Rattle.laws.specs.FreeLaws.{hop_low}
use Rattle.laws.specs.StepKeeps.{tally_most, power_most}
use Rattle.mixing.specs.Device.{Doing, resting, take_idx, take_head, take_chain, complete_id, complete_len, complete_idx, Device}
use Rattle.mixing.specs.Fields.{num, dsc, Changed, num_kept, dsc_kept}
use Rattle.mixing.specs.Facts.{adding, offered, is_out, Notes, InChain, TableOk, ListOk, Led, Shown, Blank, Progress, DriverAt, DeviceAt, Facts}

-- ---- numbers

-- an index mod 65,536 names the slot that the count names, for a size that is a power of two
pub slot_of : (n k x : ℕ) → k ≤ 6 → n ≡ 2 ^ k → x % 65536 % n ≡ x % n
slot_of n zero x l e = rw e (omega arith)
slot_of n (suc zero) x l e = rw e (omega arith)
slot_of n (suc (suc zero)) x l e = rw e (omega arith)
slot_of n (suc (suc (suc zero))) x l e = rw e (omega arith)
slot_of n (suc (suc (suc (suc zero)))) x l e = rw e (omega arith)
slot_of n (suc (suc (suc (suc (suc zero))))) x l e = rw e (omega arith)
slot_of n (suc (suc (suc (suc (suc (suc zero)))))) x l e = rw e (omega arith)
slot_of n (suc (suc (suc (suc (suc (suc (suc k))))))) x l e = absurd (omega arith)

-- two counts less than n apart name different slots
pub slots_differ : (i j n : ℕ) → i < j → j < i + n → i % n ≡ j % n → ⊥
slots_differ i j n h k e = go (dec_le (j / n) (i / n))
  where
    go : Dec (j / n ≤ i / n) → ⊥
    go (yes z) = omega (arith, div-add-mod' i n, div-add-mod' j n, e, mul-le-mul_right n z)
    go (no z) =
        let y : suc (i / n) ≤ j / n = omega (arith, z) in
        omega (arith, div-add-mod' i n, div-add-mod' j n, e, mul-le-mul_right n y)

-- the index behind a count is not that of another at most 64 below it
pub next_differs : (a t : ℕ) → t ≤ a → a ≤ t + 64 → (a + 1) % 65536 ≡ t % 65536 → ⊥
next_differs a t l u e = omega arith

-- the used ring is not in the pool
pub used_not_pool : (legacy : Bool) → used_region legacy ≡ in_pool → ⊥
used_not_pool true e = let z : ◌≡◌ {A = ℕ} 0 1 = cc in omega arith
used_not_pool false e = let z : ◌≡◌ {A = ℕ} 0 1 = cc in omega arith

-- ---- descriptors of chains

below_count : (n i : ℕ) (xs : List ℕ) → Below n xs → 0 < count i xs → i < n
unfolding count
below_count n i [] b c = absurd (omega arith)
below_count n i (x ∷ xs) b c =
    by_eq i x (λ e. let l = b.0 in omega arith) (λ e. below_count n i xs b.1 (let z = count_other i x xs e in omega arith))

module _ (q : Queue) (w : WellFormed q) where
  pub small : q.n ≤ 64
  small = power_most q.n w.size.0 w.size.1 w.size.2

  pub chain_low : (h i : ℕ) → Out q h → InChain q h i → i < q.n
  chain_low h i o c = below_count q.n i (chain_of q h) (walk_below (next_of q) q.n w.nexts (noted_of q h) h o.below) c

  pub hop_in : (h j : ℕ) → j < noted_of q h → InChain q h (hop (next_of q) j h)
  hop_in h j l = hop_counted (next_of q) (noted_of q h) h j (hop (next_of q) j h) l refl

  pub entry_low : (h j : ℕ) → Out q h → is_indirect q h ≡ true → j < entries_of q h → q.n * h + j < q.n * q.n
  entry_low h j o e l =
      let m : entries_of q h ≤ q.n = (w.listed h o e).most in
      let b : q.n * suc h ≤ q.n * q.n = mul-le-mul_left q.n o.below in
      let s : q.n * suc h ≡ q.n * h + q.n = mul-suc q.n h in
      omega arith

  pub slot_low : (x : ℕ) → x % q.n < q.n
  slot_low x = mod-lt x (let f = w.free in omega arith)

-- a head whose stage says so is outstanding
pub staged_out : {base : ℕ} (q : Queue) (m : Memory) (d : Device) (g : Notes) → Facts base q m d g → (h : ℕ) → is_out (g.stage h) ≡ true → Out q h
staged_out q m d g f h e = out_means q h (f.outs h ∙ e)

-- ---- a store to a blank field

module _ (base : ℕ) (q : Queue) (m m' : Memory) (g : Notes) (w : WellFormed q) (outs : (h : ℕ) → outstanding q h ≡ is_out (g.stage h)) (p : Place)
    (has : Has q.n p)
    (changed : Changed q p m m') where
  offered_out : (h k : ℕ) → g.stage h ≡ offered k → Out q h
  offered_out h k e = out_means q h (outs h ∙ ap is_out e)

  module _ (b : Blank q g p) where
    blank_not : (x : Place) → (Blank q g x → ⊥) → x ≡ p → ⊥
    blank_not x f e = f (subst (Blank q g) (sym e) b)

    pub table_same : (h k i : ℕ) → g.stage h ≡ offered k → InChain q h i → dsc q (desc i) m' ≡ dsc q (desc i) m
    unfolding Has
    table_same h k i e c =
        dsc_kept q (desc i) p m m' refl (chain_low q w h i (offered_out h k e) c) has
        (blank_not (desc i) (λ f. let z : count i (chain_of q h) ≡ 0 = f h k e in omega arith)) changed

    pub list_same : (h k j : ℕ) → g.stage h ≡ offered k → is_indirect q h ≡ true → j < entries_of q h
        → dsc q (entry (q.n * h + j)) m' ≡ dsc q (entry (q.n * h + j)) m
    unfolding Has
    list_same h k j e i l =
        dsc_kept q (entry (q.n * h + j)) p m m' refl (entry_low q w h j (offered_out h k e) i l) has
        (blank_not (entry (q.n * h + j)) (λ f. f h k e i j l refl)) changed

    pub slot_same : (k : ℕ) → g.takes ≤ k → k < g.adds → num q (avail_ring (k % q.n)) m' ≡ num q (avail_ring (k % q.n)) m
    unfolding Has
    slot_same k l u = num_kept q (avail_ring (k % q.n)) p m m' (slot_low q w k) has (blank_not (avail_ring (k % q.n)) (λ f. f k l u refl)) changed

    pub element_same : (k : ℕ) → g.pops ≤ k → k < g.uses → num q (used_id (k % q.n)) m' ≡ num q (used_id (k % q.n)) m
    unfolding Has
    element_same k l u = num_kept q (used_id (k % q.n)) p m m' (slot_low q w k) has (blank_not (used_id (k % q.n)) (λ f. f k l u refl)) changed

    pub idx_same : num q avail_idx m' ≡ num q avail_idx m
    unfolding Has
    idx_same = num_kept q avail_idx p m m' tt has (blank_not avail_idx (λ f. f)) changed

    pub used_same : num q used_idx m' ≡ num q used_idx m
    unfolding Has
    used_same = num_kept q used_idx p m m' tt has (blank_not used_idx (λ f. f)) changed

    -- THE LAW
    pub shown_kept : Shown base q m g → Shown base q m' g
    shown_kept s = record {
      idx = idx_same ∙ s.idx;
      used = used_same ∙ s.used;
      slots = λ k l u. ap g.stage (slot_same k l u) ∙ s.slots k l u;
      elements = λ k l u. ap g.stage (element_same k l u) ∙ s.elements k l u;
      led = λ h k e. (
        (λ i c. subst (TableOk base q h) (sym (table_same h k i e c)) ((s.led h k e).0 i c)),
        (λ i j l. subst (ListOk q h) (sym (list_same h k j e i l)) ((s.led h k e).1 i j l)),
      );
    }

  -- ---- the open call, where the device stores

  module _ (own : device_writes p ≡ true) where
    not_front : (x : Place) → device_writes x ≡ false → x ≡ p → ⊥
    not_front x e f = true≢false (sym own ∙ ap device_writes (sym f) ∙ e)

    desc_same : (i : ℕ) → i < q.n → dsc q (desc i) m' ≡ dsc q (desc i) m
    unfolding Has
    desc_same i l = dsc_kept q (desc i) p m m' refl l has (not_front (desc i) refl) changed

    progress_kept : (h s : ℕ) → Out q h → Progress base q m h s → Progress base q m' h s
    unfolding Has
    progress_kept h s o r = record {
      flags = r.flags;
      table = λ j l u. subst (TableOk base q h) (sym (desc_same (hop (next_of q) j h) (hop_low q w h j o.below))) (r.table j l u);
      last = λ l. subst (TableOk base q h) (sym (desc_same (last_of q h) (hop_low q w h (noted_of q h - 1) o.below))) (r.last l);
      list = λ i j l u. subst (ListOk q h)
          (sym (dsc_kept q (entry (q.n * h + j)) p m m' refl (entry_low q w h j o i l) has (not_front (entry (q.n * h + j)) refl) changed))
          (r.list i j l u);
      slot = λ l. num_kept q (avail_ring (q.counts.avail % q.n)) p m m' (slot_low q w q.counts.avail) has
          (not_front (avail_ring (q.counts.avail % q.n)) refl) changed ∙ r.slot l;
    }

    pub led_kept : (h : ℕ) → Out q h → Led base q m h → Led base q m' h
    unfolding Has
    led_kept h o l = (
      (λ i c. subst (TableOk base q h) (sym (desc_same i (chain_low q w h i o c))) (l.0 i c)),
      (λ i j u. subst (ListOk q h) (sym
          (dsc_kept q (entry (q.n * h + j)) p m m' refl (entry_low q w h j o i u) has (not_front (entry (q.n * h + j)) refl) changed)) (l.1 i j u)),
    )

    -- the element that a pop reads, where one was returned
    module _ (same : g.pops < g.uses → num q (used_id (q.counts.last % q.n)) m' ≡ num q (used_id (q.counts.last % q.n)) m) where
      -- THE LAW
      pub driver_kept : (c : Open) → DriverAt base q m g c → DriverAt base q m' g c
      driver_kept Idle a = tt
      driver_kept (Add h s) a = (a.0, progress_kept h s (out_means q h (outs h ∙ ap is_out a.0)) a.1)
      driver_kept (PopIdx t b) a = tt
      driver_kept (PopId t b) a = a
      driver_kept (PopLen t b x) a = (a.0, a.1 ∙ sym (same a.0))
      driver_kept (PopStore k i l) a = tt
      driver_kept PeekIdx a = tt
      driver_kept PeekId a = a

  -- ---- the open act, where the driver stores

  module _ (own : device_writes p ≡ false) (d : Device) where
    not_used : (x : Place) → device_writes x ≡ true → x ≡ p → ⊥
    not_used x e f = true≢false (sym e ∙ ap device_writes f ∙ own)

    id_same : num q (used_id (d.used % q.n)) m' ≡ num q (used_id (d.used % q.n)) m
    unfolding Has
    id_same = num_kept q (used_id (d.used % q.n)) p m m' (slot_low q w d.used) has (not_used (used_id (d.used % q.n)) refl) changed

    -- THE LAW
    pub device_kept : (a : Doing) → DeviceAt q m d g a → DeviceAt q m' d g a
    device_kept resting x = tt
    device_kept take_idx x = tt
    device_kept take_head x = x
    device_kept (take_chain h k t i bs) x = x
    device_kept (complete_id h l) x = x
    device_kept (complete_len h l) x = (x.0, id_same ∙ x.1)
    device_kept (complete_idx h l) x = (x.0, id_same ∙ x.1)

-- ---- how many chains are out

module _ {base : ℕ} (q : Queue) (m : Memory) (d : Device) (g : Notes) (f : Facts base q m d g) where
  -- no more than n are published or being added, and not popped
  pub filled : g.adds + one_if (is_add q.call) ≤ g.pops + q.n
  filled =
      let w : WellFormed q = f.good.well in
      let c : ahead q.counts.avail q.counts.last + one_if (is_add q.call) ≡ out_count q = w.count in
      let o : out_count q ≤ q.n = tally_most (outstanding q) q.n 0 in
      let a : g.pops ≤ g.uses = f.popped in
      let b : g.uses ≤ g.takes = f.given in
      let e : g.takes ≤ g.adds = f.offers in
      let h : g.adds ≤ g.pops + 64 = f.near in
      let x : ahead (g.adds % 65536) (g.pops % 65536) ≡ g.adds - g.pops = ahead_counts g.adds g.pops (omega arith) (omega arith) in
      let y : ahead q.counts.avail q.counts.last ≡ g.adds - g.pops =
      ap (λ z. ahead z q.counts.last) f.avail ∙ ap (ahead (g.adds % 65536)) f.last ∙ x in
      sum (ahead q.counts.avail q.counts.last) (one_if (is_add q.call)) (out_count q) c o y (omega arith)
    where
      sum : (x b o : ℕ) → x + b ≡ o → o ≤ q.n → x ≡ g.adds - g.pops → g.pops ≤ g.adds → g.adds + b ≤ g.pops + q.n
      sum x b o c l e z = omega arith

  -- the slots that the indices name are those that the notes name
  size_of : (x : ℕ) → x % 65536 % q.n ≡ x % q.n
  size_of x = slot_of q.n f.good.well.size.0 x f.good.well.size.1 f.good.well.size.2

  pub avail_slot : q.counts.avail % q.n ≡ g.adds % q.n
  avail_slot = ap (λ z. z % q.n) f.avail ∙ size_of g.adds

  pub last_slot : q.counts.last % q.n ≡ g.pops % q.n
  last_slot = ap (λ z. z % q.n) f.last ∙ size_of g.pops

  pub taken_slot : d.taken % q.n ≡ g.takes % q.n
  taken_slot = ap (λ z. z % q.n) f.took ∙ size_of g.takes

  pub used_slot : d.used % q.n ≡ g.uses % q.n
  used_slot = ap (λ z. z % q.n) f.gave ∙ size_of g.uses

-- the open call, where notes change that it does not lean on
pub driver_notes : (base : ℕ) (q : Queue) (m : Memory) (g g' : Notes) → ((h : ℕ) → g.stage h ≡ adding → g'.stage h ≡ adding)
    → (g.pops < g.uses → g'.pops < g'.uses)
    → (c : Open) → DriverAt base q m g c → DriverAt base q m g' c
driver_notes base q m g g' f l Idle a = tt
driver_notes base q m g g' f l (Add h s) a = (f h a.0, a.1)
driver_notes base q m g g' f l (PopIdx t b) a = tt
driver_notes base q m g g' f l (PopId t b) a = l a
driver_notes base q m g g' f l (PopLen t b x) a = (l a.0, a.1)
driver_notes base q m g g' f l (PopStore k i v) a = tt
driver_notes base q m g g' f l PeekIdx a = tt
driver_notes base q m g g' f l PeekId a = l a
