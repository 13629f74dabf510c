-- Fields beside each other: a byte belongs to one field, so a store to one field leaves what every other says; and stores of the two sides change places.
use Rattle.std.specs.Prelude.{◌≡◌, Bool, not, cond, ◌||◌, ◌⊎◌, List, ℕ, zero, suc, ◌+◌, ◌-◌, ◌*◌, ◌/◌, ◌%◌, ◌^◌, ◌≤◌, ◌<◌, ltb, leb, length, set}
use Rattle.std.proofs.Math.Path.{refl, ap, subst}
use Rattle.std.proofs.Common.{sym, ◌∙◌, inl, inr, arith}
use Rattle.std.proofs.Math.Bool.{true, false}
use borrow.Author.Tests.{lt-ltb, le-ltb, leb-true}
use Rattle.std.proofs.lemmas.List.{set_comm}
use Rattle.lists.specs.Bytes.{get_le, put_le, put_length, get_agree, get_put_same, get_put_other}
use Rattle.lists.specs.Tests.{and_left, and_right}
use Rattle.virtio.specs.declared.Desc.{Desc}
use Rattle.virtio.specs.Desc.{desc_at, put_desc, desc_agree}
use Rattle.virtio.specs.Layout.{avail_size, avail_at, used_at, need_one, need_two, need_pool}
use Rattle.virtio.specs.Memory.{Memory, Region, in_one, in_two, in_pool, Place, desc, avail_flags, avail_idx, used_event, avail_ring, used_flags, used_idx, avail_event, used_id, used_len, entry, Spot, used_region, spot, bytes_of, with_bytes, load_at, store_at, load_desc_at, store_desc_at}
use Rattle.virtio.specs.Device.{device_writes}
use Rattle.virtio.specs.Sizes.{Has, legacy_apart, need, inside}
use Rattle.virtio.proofs.Sizes.{one_writer}
use Rattle.rules.specs.Record.{Queue}
use Rattle.rules.specs.Calls.{fits}
use Rattle.rules.specs.Step.{Access, nothing, load, store, store_desc, accessed}
use Rattle.laws.specs.Changes.{Lies, SameByte, Wide, access_changes_one}

-- ---- fields of different kinds differ

abbrev pub kind_of : Place → ℕ
kind_of (desc i) = 0
kind_of avail_flags = 1
kind_of avail_idx = 2
kind_of (avail_ring i) = 3
kind_of used_event = 4
kind_of used_flags = 5
kind_of used_idx = 6
kind_of (used_id i) = 7
kind_of (used_len i) = 8
kind_of avail_event = 9
kind_of (entry j) = 10

pub unlike : {p x : Place} → (kind_of p ≡ kind_of x → ⊥) → p ≡ x → ⊥
unlike n e = n (ap kind_of e)

pub one_not_pool : in_one ≡ in_pool → ⊥
one_not_pool e = let z : ◌≡◌ {A = ℕ} 0 1 = cc in omega arith

-- ---- the field that a byte belongs to

module _ (legacy : Bool) (n : ℕ) where
  -- in the table and the available ring; in the used ring
  unfoldable front : ℕ → Place
  front i =
      cond (ltb i (16 * n)) (desc (i / 16))
      (cond (ltb i (16 * n + 2)) avail_flags
      (cond (ltb i (16 * n + 4)) avail_idx
      (cond (ltb i (16 * n + (4 + 2 * n))) (avail_ring ((i - (16 * n + 4)) / 2)) used_event)))

  unfoldable back : ℕ → Place
  back j =
      cond (ltb j 2) used_flags
      (cond (ltb j 4) used_idx
      (cond (ltb j (4 + 8 * n)) (cond (ltb ((j - 4) % 8) 4) (used_id ((j - 4) / 8)) (used_len ((j - 4) / 8))) avail_event))

  unfoldable owner : Region → ℕ → Place
  owner in_one i = cond (ltb i (avail_at n + avail_size n)) (front i) (back (i - used_at legacy n))
  owner in_two i = back (i - used_at legacy n)
  owner in_pool i = entry (i / 16)

  -- a byte before the end of the available ring, and one of the used ring
  in_front : (i : ℕ) → i < avail_at n + avail_size n → owner in_one i ≡ front i
  unfolding owner
  in_front i l = rw (lt-ltb i (avail_at n + avail_size n) l)

  in_back : (i : ℕ) → used_at legacy n ≤ i → owner (used_region legacy) i ≡ back (i - used_at legacy n)
  unfolding owner
  in_back i l = go legacy refl
    where
      go : (b : Bool) → legacy ≡ b → owner (used_region b) i ≡ back (i - used_at legacy n)
      go true e =
          let a : avail_at n + avail_size n ≤ used_at legacy n = subst (λ z. avail_at n + avail_size n ≤ used_at z n) (sym e) (legacy_apart n) in
          rw (le-ltb i (avail_at n + avail_size n) (omega arith))
      go false e = refl

  -- the two fields of an element
  back_id : (a j : ℕ) → a < n → 4 + 8 * a ≤ j → j < 4 + 8 * a + 4 → back j ≡ used_id a
  unfolding back
  back_id a j h l u =
      rw (le-ltb j 2 (omega arith), le-ltb j 4 (omega arith), lt-ltb j (4 + 8 * n) (omega arith), lt-ltb ((j - 4) % 8) 4 (omega arith))
      (ap used_id (omega arith))

  back_len : (a j : ℕ) → a < n → 8 + 8 * a ≤ j → j < 8 + 8 * a + 4 → back j ≡ used_len a
  unfolding back
  back_len a j h l u =
      rw (le-ltb j 2 (omega arith), le-ltb j 4 (omega arith), lt-ltb j (4 + 8 * n) (omega arith), le-ltb ((j - 4) % 8) 4 (omega arith))
      (ap used_len (omega arith))

  -- a byte that lies in a field belongs to it
  owns : (p : Place) (r : Region) (i : ℕ) → Has n p → Lies r i (spot legacy n p) → owner r i ≡ p
  unfolding Has front back owner
  owns (desc a) r i h l =
      ap (λ z. owner z i) l.region ∙ in_front i (let u = l.below in omega arith)
      ∙ rw (lt-ltb i (16 * n) (let u = l.below in omega arith)) (ap desc (let u = l.below in let f = l.from in omega arith))
  owns avail_flags r i h l =
      let u = l.below in let f = l.from in
      ap (λ z. owner z i) l.region ∙ in_front i (omega arith)
      ∙ rw (le-ltb i (16 * n) (omega arith), lt-ltb i (16 * n + 2) (omega arith))
  owns avail_idx r i h l =
      let u = l.below in let f = l.from in
      ap (λ z. owner z i) l.region ∙ in_front i (omega arith)
      ∙ rw (le-ltb i (16 * n) (omega arith), le-ltb i (16 * n + 2) (omega arith), lt-ltb i (16 * n + 4) (omega arith))
  owns (avail_ring a) r i h l =
      let u = l.below in let f = l.from in
      ap (λ z. owner z i) l.region ∙ in_front i (omega arith)
      ∙ rw (
        le-ltb i (16 * n) (omega arith),
        le-ltb i (16 * n + 2) (omega arith),
        le-ltb i (16 * n + 4) (omega arith),
        lt-ltb i (16 * n + (4 + 2 * n))
            (omega arith),
      )
      (ap avail_ring (omega arith))
  owns used_event r i h l =
      let u = l.below in let f = l.from in
      ap (λ z. owner z i) l.region ∙ in_front i (omega arith)
      ∙ rw (
        le-ltb i (16 * n) (omega arith),
        le-ltb i (16 * n + 2) (omega arith),
        le-ltb i (16 * n + 4) (omega arith),
        le-ltb i (16 * n + (4 + 2 * n))
            (omega arith),
      )
  owns used_flags r i h l =
      let u = l.below in let f = l.from in
      ap (λ z. owner z i) l.region ∙ in_back i (omega arith) ∙ rw (lt-ltb (i - used_at legacy n) 2 (omega arith))
  owns used_idx r i h l =
      let u = l.below in let f = l.from in
      ap (λ z. owner z i) l.region ∙ in_back i (omega arith)
      ∙ rw (le-ltb (i - used_at legacy n) 2 (omega arith), lt-ltb (i - used_at legacy n) 4 (omega arith))
  owns (used_id a) r i h l =
      let u = l.below in let f = l.from in
      ap (λ z. owner z i) l.region ∙ in_back i (omega arith) ∙ back_id a (i - used_at legacy n) h (omega arith) (omega arith)
  owns (used_len a) r i h l =
      let u = l.below in let f = l.from in
      ap (λ z. owner z i) l.region ∙ in_back i (omega arith) ∙ back_len a (i - used_at legacy n) h (omega arith) (omega arith)
  owns avail_event r i h l =
      let u = l.below in let f = l.from in
      ap (λ z. owner z i) l.region ∙ in_back i (omega arith)
      ∙ rw (
        le-ltb (i - used_at legacy n) 2 (omega arith),
        le-ltb (i - used_at legacy n) 4 (omega arith),
        le-ltb (i - used_at legacy n) (4 + 8 * n)
            (omega arith),
      )
  owns (entry a) r i h l =
      let u = l.below in let f = l.from in
      ap (λ z. owner z i) l.region ∙ ap entry (omega arith)

  -- THE LAW: two fields that differ share no byte
  pub fields_apart : (p x : Place) → Has n p → Has n x → (p ≡ x → ⊥) → (r : Region) (i : ℕ) → Lies r i (spot legacy n p) → Lies r i (spot legacy n x)
      → ⊥
  fields_apart p x h k d r i l u = d (sym (owns p r i h l) ∙ owns x r i k u)

-- ---- what fields say, and stores to them

module _ (q : Queue) where
  abbrev pub at : Place → Spot
  at p = spot q.modes.legacy q.n p

  abbrev pub num : Place → Memory → ℕ
  num p m = load_at (at p) m

  abbrev pub dsc : Place → Memory → Desc
  dsc p m = load_desc_at (at p) m

  abbrev pub put : Place → ℕ → Memory → Memory
  put p v m = store_at (at p) v m

  -- m and x differ in the bytes of field p at most
  abbrev pub Changed : Place → Memory → Memory → Type 0
  Changed p m x = (r : Region) (i : ℕ) → (Lies r i (at p) → ⊥) → SameByte r i x m

  pub put_changed : (p : Place) (v : ℕ) (m : Memory) → Changed p m (put p v m)
  put_changed p v m r i f = access_changes_one q r i m (store p v) tt f

  pub desc_changed : (p : Place) (d : Desc) (m : Memory) → (at p).width ≡ 16 → Changed p m (store_desc_at (at p) d m)
  desc_changed p d m e r i f = access_changes_one q r i m (store_desc p d) e f

  -- a field that differs from it says what it said
  pub num_kept : (p x : Place) (m m' : Memory) → Has q.n p → Has q.n x → (p ≡ x → ⊥) → Changed x m m' → num p m' ≡ num p m
  num_kept p x m m' h k d c =
      get_agree (at p).width (bytes_of (at p).region m') (bytes_of (at p).region m) (at p).offset
      (λ i l u. c (at p).region i (λ z. fields_apart q.modes.legacy q.n p x h k d (at p).region i
      (record { region = refl; from = l; below = u }) z))

  pub dsc_kept : (p x : Place) (m m' : Memory) → (at p).width ≡ 16 → Has q.n p → Has q.n x → (p ≡ x → ⊥) → Changed x m m' → dsc p m' ≡ dsc p m
  dsc_kept p x m m' w h k d c =
      desc_agree (bytes_of (at p).region m') (bytes_of (at p).region m) (at p).offset
      (λ i l u. c (at p).region i
      (λ z. fields_apart q.modes.legacy q.n p x h k d (at p).region i
      (record { region = refl; from = l; below = subst (λ b. i < (at p).offset + b) (sym w) u }) z))

  -- the lent regions have room for every field, and the pool in indirect mode
  lent : (m : Memory) → fits q m ≡ true → (r : Region) → (r ≡ in_pool → q.modes.indirect ≡ true)
      → need q.modes.legacy q.n r ≤ length (bytes_of r m)
  lent m f in_one k = leb-true _ _ (and_left _ _ f)
  lent m f in_two k = leb-true _ _ (and_left _ _ (and_right (leb (need_one q.modes.legacy q.n) (length m.one)) _ f))
  lent m f in_pool k =
      let b : (not q.modes.indirect || leb (need_pool q.n) (length m.pool)) ≡ true =
      and_right (leb (need_two q.modes.legacy q.n) (length m.two)) _
      (and_right (leb (need_one q.modes.legacy q.n) (length m.one)) _ f) in
      leb-true _ _ (rw (k refl) at b)

  pub room : (m : Memory) → fits q m ≡ true → (p : Place) → Has q.n p → ((at p).region ≡ in_pool → q.modes.indirect ≡ true)
      → (at p).offset + (at p).width ≤ length (bytes_of (at p).region m)
  room m f p h k =
      let a : (at p).offset + (at p).width ≤ need q.modes.legacy q.n (at p).region = inside q.modes.legacy q.n p h in
      let b : need q.modes.legacy q.n (at p).region ≤ length (bytes_of (at p).region m) = lent m f (at p).region k in
      omega arith

  -- what was stored to a field is what it says
  bytes_with : (r : Region) (m : Memory) (s : List ℕ) → bytes_of r (with_bytes r m s) ≡ s
  bytes_with in_one m s = refl
  bytes_with in_two m s = refl
  bytes_with in_pool m s = refl

  pub put_num : (p : Place) (v : ℕ) (m : Memory) → fits q m ≡ true → Has q.n p → ((at p).region ≡ in_pool → q.modes.indirect ≡ true)
      → v < 256 ^ (at p).width → num p (put p v m) ≡ v
  put_num p v m f h k b =
      ap (λ s. get_le (at p).width s (at p).offset) (bytes_with (at p).region m (put_le (at p).width (bytes_of (at p).region m) (at p).offset v))
      ∙ get_put_same (at p).width (bytes_of (at p).region m) (at p).offset v (room m f p h k) b

-- ---- a descriptor that was stored is read back, field by field, where the field fits

pub record Back (x d : Desc) : Type 0 where
  pub addr : d.addr < 2 ^ 64 → x.addr ≡ d.addr
  pub flags : d.flags < 65536 → x.flags ≡ d.flags
  pub next : d.next < 65536 → x.next ≡ d.next

desc_back : (s : List ℕ) (a : ℕ) (d : Desc) → a + 16 ≤ length s → Back (desc_at (put_desc s a d) a) d
unfolding desc_at put_desc
desc_back s a d h =
    let s₁ = put_le 8 s a d.addr in
    let s₂ = put_le 4 s₁ (a + 8) d.len in
    let s₃ = put_le 2 s₂ (a + 12) d.flags in
    let n₁ = put_length 8 s a d.addr in
    let n₂ = put_length 4 s₁ (a + 8) d.len in
    let n₃ = put_length 2 s₂ (a + 12) d.flags in
    record {
      addr = λ f. get_put_other 8 2 s₃ a (a + 14) d.next (inl (omega arith))
          ∙ get_put_other 8 2 s₂ a (a + 12) d.flags (inl (omega arith))
          ∙ get_put_other 8 4 s₁ a (a + 8) d.len (inl (omega arith))
          ∙ get_put_same 8 s a d.addr (omega arith) f;
      flags = λ f. get_put_other 2 2 s₃ (a + 12) (a + 14) d.next (inl (omega arith)) ∙ get_put_same 2 s₂ (a + 12) d.flags (omega arith) f;
      next = λ f. get_put_same 2 s₃ (a + 14) d.next (omega arith) f;
    }

pub put_back : (q : Queue) (p : Place) (d : Desc) (m : Memory) → fits q m ≡ true → Has q.n p
    → ((at q p).region ≡ in_pool → q.modes.indirect ≡ true) → (at q p).width ≡ 16
    → Back (dsc q p (store_desc_at (at q p) d m)) d
put_back q p d m f h k w =
    subst (λ s. Back (desc_at s (at q p).offset) d) (sym (bytes_with q (at q p).region m (put_desc (bytes_of (at q p).region m) (at q p).offset d)))
    (desc_back (bytes_of (at q p).region m) (at q p).offset d
    (subst (λ b. (at q p).offset + b ≤ length (bytes_of (at q p).region m)) w (room q m f p h k)))

-- ---- stores change places

-- bytes that lie apart
put_set : (k : ℕ) (s : List ℕ) (a v j y : ℕ) → j < a → put_le k (set s j y) a v ≡ set (put_le k s a v) j y
unfolding put_le
put_set zero s a v j y l = refl
put_set (suc k) s a v j y l =
    ap (λ z. put_le k z (suc a) (v / 256)) (set_comm s j a y (v % 256) (omega arith)) ∙ put_set k (set s a (v % 256)) (suc a) (v / 256) j y
    (omega arith)

put_put : (j k : ℕ) (s : List ℕ) (a v b u : ℕ) → a + j ≤ b → put_le j (put_le k s b u) a v ≡ put_le k (put_le j s a v) b u
unfolding put_le
put_put zero k s a v b u l = refl
put_put (suc j) k s a v b u l =
    ap (λ z. put_le j z (suc a) (v / 256)) (sym (put_set k s b u a (v % 256) (omega arith))) ∙ put_put j k (set s a (v % 256)) (suc a) (v / 256) b u
    (omega arith)

desc_put : (k : ℕ) (s : List ℕ) (a : ℕ) (d : Desc) (b u : ℕ) → a + 16 ≤ b → put_desc (put_le k s b u) a d ≡ put_le k (put_desc s a d) b u
unfolding put_desc
desc_put k s a d b u l =
    let s₁ = put_le 8 s a d.addr in
    let s₂ = put_le 4 s₁ (a + 8) d.len in
    let s₃ = put_le 2 s₂ (a + 12) d.flags in
    ap (λ z. put_le 2 (put_le 2 (put_le 4 z (a + 8) d.len) (a + 12) d.flags) (a + 14) d.next) (put_put 8 k s a d.addr b u (omega arith))
    ∙ ap (λ z. put_le 2 (put_le 2 z (a + 12) d.flags) (a + 14) d.next) (put_put 4 k s₁ (a + 8) d.len b u (omega arith))
    ∙ ap (λ z. put_le 2 z (a + 14) d.next) (put_put 2 k s₂ (a + 12) d.flags b u (omega arith))
    ∙ put_put 2 k s₃ (a + 14) d.next b u (omega arith)

-- a region's bytes changed by f
abbrev change : Region → (List ℕ → List ℕ) → Memory → Memory
change r f m = with_bytes r m (f (bytes_of r m))

change_swap : (r t : Region) (f g : List ℕ → List ℕ) (m : Memory) → (r ≡ t → (s : List ℕ) → f (g s) ≡ g (f s))
    → change r f (change t g m) ≡ change t g (change r f m)
change_swap in_one in_one f g m h = ap (λ s. record { one = s; two = m.two; pool = m.pool }) (h refl m.one)
change_swap in_one in_two f g m h = refl
change_swap in_one in_pool f g m h = refl
change_swap in_two in_one f g m h = refl
change_swap in_two in_two f g m h = ap (λ s. record { one = m.one; two = s; pool = m.pool }) (h refl m.two)
change_swap in_two in_pool f g m h = refl
change_swap in_pool in_one f g m h = refl
change_swap in_pool in_two f g m h = refl
change_swap in_pool in_pool f g m h = ap (λ s. record { one = m.one; two = m.two; pool = s }) (h refl m.pool)

-- an access that stores, if at all, to a field that the queue has and the driver writes
abbrev pub Stored : Queue → Access → Type 0
Stored q nothing = Unit {0}
Stored q (load p) = Unit {0}
Stored q (store p v) = Has q.n p × (device_writes p ≡ false)
Stored q (store_desc p d) = Has q.n p × (device_writes p ≡ false)

module _ (q : Queue) where
  behind : {A : Type 0} (a b : Spot) → (a.region ≡ b.region → ⊥) ⊎ (a.offset + a.width ≤ b.offset) → a.region ≡ b.region
      → (a.offset + a.width ≤ b.offset → A) → A
  behind a b (inl d) e f = absurd (d e)
  behind a b (inr l) e f = f l

  -- THE LAW: a store of the driver and one of the device change places
  pub stores_swap : (a : Access) (p : Place) (v : ℕ) (m : Memory) → Stored q a → Wide q a → Has q.n p → device_writes p ≡ true
      → accessed q a (put q p v m) ≡ put q p v (accessed q a m)
  stores_swap nothing p v m s w h e = refl
  stores_swap (load x) p v m s w h e = refl
  stores_swap (store x u) p v m s w h e =
      change_swap (at q x).region (at q p).region (λ z. put_le (at q x).width z (at q x).offset u)
      (λ z. put_le (at q p).width z (at q p).offset v) m
      (λ r z. behind (at q x) (at q p) (one_writer q.modes.legacy q.n x p s.0 h s.1 e) r
      (λ l. put_put (at q x).width (at q p).width z (at q x).offset u (at q p).offset v l))
  stores_swap (store_desc x d) p v m s w h e =
      change_swap (at q x).region (at q p).region (λ z. put_desc z (at q x).offset d) (λ z. put_le (at q p).width z (at q p).offset v) m
      (λ r z. behind (at q x) (at q p) (one_writer q.modes.legacy q.n x p s.0 h s.1 e) r
      (λ l. desc_put (at q p).width z (at q x).offset d (at q p).offset v (subst (λ k. (at q x).offset + k ≤ (at q p).offset) w l)))
