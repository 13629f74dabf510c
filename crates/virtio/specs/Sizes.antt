-- Facts of the parts' sizes and places, proved once for any queue size n and both layouts: the parts are aligned and do not overlap, each field
-- lies inside what its region needs; and what it is that no field that the device writes shares a byte with one that the driver writes, which proofs/ shows.
use Rattle.std.specs.Prelude.{◌≡◌, refl, Bool, true, false, cond, ◌⊎◌, ℕ, ◌+◌, ◌*◌, ◌%◌, ◌^◌, ◌≤◌, ◌<◌}
use Rattle.std.proofs.Common.{true≢false, inl, inr, arith}
use Rattle.std.proofs.lemmas.Bool.{false≢true}
use Rattle.virtio.specs.Layout.{table_size, avail_size, used_size, table_align, avail_align, used_align, page, page_up, avail_at, used_at, need_one, need_two, need_pool}
use Rattle.virtio.specs.Memory.{Region, in_one, in_two, in_pool, Place, desc, avail_flags, avail_idx, used_event, avail_ring, used_flags, used_idx, avail_event, used_id, used_len, entry, Spot, used_region, spot}
use Rattle.virtio.specs.Device.{device_writes}

pub page_up_lem : (x : ℕ) → (x ≤ page_up x) × (page_up x < x + page) × (page_up x % page ≡ 0)
page_up_lem x = (omega arith, omega arith, omega arith)

-- Each part is aligned, where region one and region two start at a page.
pub avail_aligned : (n : ℕ) → avail_at n % avail_align ≡ 0
avail_aligned n = omega arith

pub used_aligned : (legacy : Bool) (n : ℕ) → used_at legacy n % used_align ≡ 0
unfolding used_at
used_aligned true n = omega arith
used_aligned false n = refl

-- so the addresses of the three parts are, where the regions' bases are on a page
pub record Aligned (one two : ℕ) (legacy : Bool) (n : ℕ) : Type 0 where
  pub table : one % table_align ≡ 0
  pub avail : (one + avail_at n) % avail_align ≡ 0
  pub used : (cond legacy one two + used_at legacy n) % used_align ≡ 0

pub aligned : (one two : ℕ) (legacy : Bool) (n : ℕ) → one % page ≡ 0 → two % page ≡ 0 → Aligned one two legacy n
aligned one two true n a b = let u = used_aligned true n in omega arith
aligned one two false n a b = let u = used_aligned false n in omega arith

-- In the legacy layout the used ring is behind the available ring, and inside what region one needs, which is whole pages.
pub legacy_apart : (n : ℕ) → avail_at n + avail_size n ≤ used_at true n
unfolding used_at
legacy_apart n = omega arith

pub legacy_inside : (n : ℕ) → used_at true n + used_size n ≤ need_one true n
unfolding used_at need_one
legacy_inside n = omega arith

-- In either layout the used ring ends inside what the region that holds it needs, and in either the numbers are small.
pub used_in_one : (legacy : Bool) (n : ℕ) → legacy ≡ true → used_at legacy n + used_size n ≤ need_one legacy n
used_in_one legacy n e = rw e (legacy_inside n)

pub used_in_two : (legacy : Bool) (n : ℕ) → legacy ≡ false → used_at legacy n + used_size n ≤ need_two legacy n
unfolding used_at need_two
used_in_two legacy n e = rw e (omega arith)

pub used_small : (legacy : Bool) (n : ℕ) → n < 2 ^ 16 → used_at legacy n + used_size n < 2 ^ 32
unfolding used_at
used_small true n h = omega arith
used_small false n h = omega arith

pub legacy_pages : (n : ℕ) → need_one true n % page ≡ 0
unfolding need_one
legacy_pages n = omega arith

pub flexible_one : (n : ℕ) → need_one false n ≡ 18 * n + 6
unfolding need_one
flexible_one n = omega arith

pub front_inside : (legacy : Bool) (n : ℕ) → avail_at n + avail_size n ≤ need_one legacy n
unfolding need_one
front_inside true n = omega arith
front_inside false n = omega arith

-- A field that the queue has: its number, where it has one, is below the queue size, or in the pool below that squared.
unfoldable pub Has : ℕ → Place → Type 0
Has n (desc i) = i < n
Has n avail_flags = Unit {0}
Has n avail_idx = Unit {0}
Has n (avail_ring i) = i < n
Has n used_event = Unit {0}
Has n used_flags = Unit {0}
Has n used_idx = Unit {0}
Has n (used_id i) = i < n
Has n (used_len i) = i < n
Has n avail_event = Unit {0}
Has n (entry j) = j < n * n

-- how much of each region the queue needs
abbrev pub need : Bool → ℕ → Region → ℕ
need legacy n in_one = need_one legacy n
need legacy n in_two = need_two legacy n
need legacy n in_pool = need_pool n

-- a field of the table or of the available ring ends with the available ring
pub front_fields : (legacy : Bool) (n : ℕ) (p : Place) → Has n p → device_writes p ≡ false
    → ((spot legacy n p).region ≡ in_pool) ⊎ (((spot legacy n p).region ≡ in_one) × ((spot legacy n p).offset + (spot legacy n p).width ≤ avail_at n + avail_size n))
unfolding Has
front_fields legacy n (desc i) h e = inr (refl, omega arith)
front_fields legacy n avail_flags h e = inr (refl, omega arith)
front_fields legacy n avail_idx h e = inr (refl, omega arith)
front_fields legacy n (avail_ring i) h e = inr (refl, omega arith)
front_fields legacy n used_event h e = inr (refl, omega arith)
front_fields legacy n used_flags h e = absurd (true≢false e)
front_fields legacy n used_idx h e = absurd (true≢false e)
front_fields legacy n (used_id i) h e = absurd (true≢false e)
front_fields legacy n (used_len i) h e = absurd (true≢false e)
front_fields legacy n avail_event h e = absurd (true≢false e)
front_fields legacy n (entry j) h e = inl refl

-- a field that the device writes lies in the used ring
pub used_fields : (legacy : Bool) (n : ℕ) (p : Place) → Has n p → device_writes p ≡ true
    → ((spot legacy n p).region ≡ used_region legacy) × (used_at legacy n ≤ (spot legacy n p).offset) × ((spot legacy n p).offset + (spot legacy n p).width ≤ used_at legacy n + used_size n)
unfolding Has
used_fields legacy n (desc i) h e = absurd (false≢true e)
used_fields legacy n avail_flags h e = absurd (false≢true e)
used_fields legacy n avail_idx h e = absurd (false≢true e)
used_fields legacy n (avail_ring i) h e = absurd (false≢true e)
used_fields legacy n used_event h e = absurd (false≢true e)
used_fields legacy n used_flags h e = (refl, omega arith, omega arith)
used_fields legacy n used_idx h e = (refl, omega arith, omega arith)
used_fields legacy n (used_id i) h e = (refl, omega arith, omega arith)
used_fields legacy n (used_len i) h e = (refl, omega arith, omega arith)
used_fields legacy n avail_event h e = (refl, omega arith, omega arith)
used_fields legacy n (entry j) h e = absurd (false≢true e)

in_used : (legacy : Bool) (n a w : ℕ) → a + w ≤ used_size n → used_at legacy n + a + w ≤ need legacy n (used_region legacy)
in_used true n a w h = let f = used_in_one true n refl in omega arith
in_used false n a w h = let f = used_in_two false n refl in omega arith

-- Each field lies inside what its region needs.
pub inside : (legacy : Bool) (n : ℕ) (p : Place) → Has n p → (spot legacy n p).offset + (spot legacy n p).width ≤ need legacy n (spot legacy n p).region
unfolding Has
inside legacy n (desc i) h = let f = front_inside legacy n in omega arith
inside legacy n avail_flags h = let f = front_inside legacy n in omega arith
inside legacy n avail_idx h = let f = front_inside legacy n in omega arith
inside legacy n (avail_ring i) h = let f = front_inside legacy n in omega arith
inside legacy n used_event h = let f = front_inside legacy n in omega arith
inside legacy n used_flags h = in_used legacy n 0 2 (omega arith)
inside legacy n used_idx h = in_used legacy n 2 2 (omega arith)
inside legacy n (used_id i) h = in_used legacy n (4 + 8 * i) 4 (omega arith)
inside legacy n (used_len i) h = in_used legacy n (8 + 8 * i) 4 (omega arith)
inside legacy n avail_event h = in_used legacy n (4 + 8 * n) 2 (omega arith)
inside legacy n (entry j) h = omega arith

-- No byte has two writers: two fields of different writers lie in different regions, or the driver's ends where the device's starts or before.
abbrev pub Apart : Spot → Spot → Type 0
Apart a b = (a.region ≡ b.region → ⊥) ⊎ (a.offset + a.width ≤ b.offset)

-- ---- the fields fill their parts, in VIRTIO's order and with no byte between them

abbrev From : Spot → ℕ
From a = a.offset

abbrev To : Spot → ℕ
To a = a.offset + a.width

pub record Filled (legacy : Bool) (n : ℕ) : Type 0 where
  pub table : (To (spot legacy n (desc n)) ≡ table_size n + 16) × ((i : ℕ) → To (spot legacy n (desc i)) ≡ From (spot legacy n (desc (i + 1))))
  pub avail_start : From (spot legacy n avail_flags) ≡ avail_at n
  pub avail_then : To (spot legacy n avail_flags) ≡ From (spot legacy n avail_idx)
  pub avail_ring_start : To (spot legacy n avail_idx) ≡ From (spot legacy n (avail_ring 0))
  pub avail_ring_on : (i : ℕ) → To (spot legacy n (avail_ring i)) ≡ From (spot legacy n (avail_ring (i + 1)))
  pub avail_ring_end : From (spot legacy n (avail_ring n)) ≡ From (spot legacy n used_event)
  pub avail_end : To (spot legacy n used_event) ≡ avail_at n + avail_size n
  pub used_start : From (spot legacy n used_flags) ≡ used_at legacy n
  pub used_then : To (spot legacy n used_flags) ≡ From (spot legacy n used_idx)
  pub used_ring_start : To (spot legacy n used_idx) ≡ From (spot legacy n (used_id 0))
  pub used_ring_in : (i : ℕ) → To (spot legacy n (used_id i)) ≡ From (spot legacy n (used_len i))
  pub used_ring_on : (i : ℕ) → To (spot legacy n (used_len i)) ≡ From (spot legacy n (used_id (i + 1)))
  pub used_ring_end : From (spot legacy n (used_id n)) ≡ From (spot legacy n avail_event)
  pub used_end : To (spot legacy n avail_event) ≡ used_at legacy n + used_size n
  pub pool : (j : ℕ) → To (spot legacy n (entry j)) ≡ From (spot legacy n (entry (j + 1)))

pub filled : (legacy : Bool) (n : ℕ) → Filled legacy n
filled legacy n = omega arith

-- Document 01's example: n = 8.
eight : (table_size 8 ≡ 128) × (avail_size 8 ≡ 22) × (used_size 8 ≡ 70) × (used_at true 8 ≡ 4096) × (need_one true 8 ≡ 8192)
unfolding used_at need_one
eight = (refl, refl, refl, refl, refl)
