-- The fields of a queue as places in the lent memory, and a load and a store of one. The lent memory is document 01's: region one, region
-- two, and the pool of indirect lists; the fields are VIRTIO 1.1's (2.6.5, 2.6.6, 2.6.8).
use Rattle.std.specs.Prelude.{◌≡◌, Bool, true, false, List, ℕ, ◌+◌, ◌*◌, ◌≤◌, take, drop}
use Rattle.lists.specs.Bytes.{get_le, put_le, get_part}
use Rattle.virtio.specs.declared.Desc.{Desc}
use Rattle.virtio.specs.Desc.{desc_at, put_desc}
use Rattle.virtio.specs.Layout.{used_size, avail_at, used_at}

pub record Memory : Type 0 where
  pub one : List ℕ
  pub two : List ℕ
  pub pool : List ℕ

pub data Region : Type 0 where
  in_one in_two in_pool : Region

-- A field: of the descriptor table, of the available ring, of the used ring, or an entry of the pool.
pub data Place : Type 0 where
  desc : ℕ → Place
  avail_flags avail_idx used_event : Place
  avail_ring : ℕ → Place
  used_flags used_idx avail_event : Place
  used_id used_len : ℕ → Place
  entry : ℕ → Place

-- Where a field lies: its region, the offset of its first byte, and how many bytes it has.
pub record Spot : Type 0 where
  pub region : Region
  pub offset : ℕ
  pub width : ℕ

-- the region that holds the used ring, by the layout
abbrev pub used_region : Bool → Region
used_region true = in_one
used_region false = in_two

module _ (legacy : Bool) (n : ℕ) where
  abbrev in_avail : ℕ → Spot
  in_avail a = record { region = in_one; offset = avail_at n + a; width = 2 }

  abbrev in_used : ℕ → ℕ → Spot
  in_used a w = record { region = used_region legacy; offset = used_at legacy n + a; width = w }

  -- 2.6.5: 16 bytes a descriptor. 2.6.6: flags, idx, n heads, used_event, 2 bytes each.
  -- 2.6.8: flags, idx, 2 bytes each, n elements of an id and a length, 4 bytes each, avail_event, 2 bytes.
  abbrev pub spot : Place → Spot
  spot (desc i) = record { region = in_one; offset = 16 * i; width = 16 }
  spot avail_flags = in_avail 0
  spot avail_idx = in_avail 2
  spot (avail_ring i) = in_avail (4 + 2 * i)
  spot used_event = in_avail (4 + 2 * n)
  spot used_flags = in_used 0 2
  spot used_idx = in_used 2 2
  spot (used_id i) = in_used (4 + 8 * i) 4
  spot (used_len i) = in_used (8 + 8 * i) 4
  spot avail_event = in_used (4 + 8 * n) 2
  spot (entry j) = record { region = in_pool; offset = 16 * j; width = 16 }

-- the bytes of a region, and the memory with other bytes there
abbrev pub bytes_of : Region → Memory → List ℕ
bytes_of in_one m = m.one
bytes_of in_two m = m.two
bytes_of in_pool m = m.pool

abbrev pub with_bytes : Region → Memory → List ℕ → Memory
with_bytes in_one m s = record { one = s; two = m.two; pool = m.pool }
with_bytes in_two m s = record { one = m.one; two = s; pool = m.pool }
with_bytes in_pool m s = record { one = m.one; two = m.two; pool = s }

-- the number at a spot, and the memory with another number there; so for a descriptor's 16 bytes
abbrev pub load_at : Spot → Memory → ℕ
load_at a m = get_le a.width (bytes_of a.region m) a.offset

abbrev pub store_at : Spot → ℕ → Memory → Memory
store_at a v m = with_bytes a.region m (put_le a.width (bytes_of a.region m) a.offset v)

abbrev pub load_desc_at : Spot → Memory → Desc
load_desc_at a m = desc_at (bytes_of a.region m) a.offset

abbrev pub store_desc_at : Spot → Desc → Memory → Memory
store_desc_at a d m = with_bytes a.region m (put_desc (bytes_of a.region m) a.offset d)

-- the used ring: a part of whichever region holds it
abbrev pub used_ring : Bool → ℕ → Memory → List ℕ
used_ring legacy n m = take (used_size n) (drop (used_at legacy n) (bytes_of (used_region legacy) m))

-- a field of that part is the field of the region
pub ring_load : (legacy : Bool) (n : ℕ) (m : Memory) (w a : ℕ) → a + w ≤ used_size n
    → get_le w (used_ring legacy n m) a ≡ get_le w (bytes_of (used_region legacy) m) (used_at legacy n + a)
ring_load legacy n m w a h = get_part w (bytes_of (used_region legacy) m) (used_at legacy n) (used_size n) a h
