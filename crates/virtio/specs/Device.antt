-- What each side may write of a queue's fields, and when (VIRTIO 1.1, 2.6, 2.6.6, 2.6.8): the driver writes the table, the available ring and the
-- indirect lists, the device the used ring. The device gives a chain back that was made available to it and that it has not given back yet.
use Rattle.std.specs.Prelude.{Bool, true, false, not, List, [], ◌∷◌, ℕ, ◌%◌}
use Rattle.lists.specs.Index.{after}
use Rattle.lists.specs.Once.{mem}
use Rattle.virtio.specs.declared.Buffer.{Buffer}
use Rattle.virtio.specs.Memory.{Memory, Place, desc, avail_flags, avail_idx, used_event, avail_ring, used_flags, used_idx, avail_event, used_id, used_len, entry, spot, store_at}

-- the fields that the device writes
abbrev pub device_writes : Place → Bool
device_writes (desc i) = false
device_writes avail_flags = false
device_writes avail_idx = false
device_writes (avail_ring i) = false
device_writes used_event = false
device_writes used_flags = true
device_writes used_idx = true
device_writes (used_id i) = true
device_writes (used_len i) = true
device_writes avail_event = true
device_writes (entry j) = false

-- each field has one writer
abbrev pub driver_writes : Place → Bool
driver_writes p = not (device_writes p)

-- 2.6.5: of the buffers it writes those that were offered for writing
abbrev pub device_fills : Buffer → Bool
device_fills b = b.output

-- A store of a number to a field; a run of them.
pub record Write : Type 0 where
  pub place : Place
  pub number : ℕ

abbrev pub written : Bool → ℕ → List Write → Memory → Memory
written legacy n [] m = m
written legacy n (w ∷ ws) m = written legacy n ws (store_at (spot legacy n w.place) w.number m)

-- 2.6.8: the device that holds these chains' heads may give back the one at h
abbrev pub may_give_back : List ℕ → ℕ → Bool
may_give_back holds h = mem h holds

-- and does it by the element's two fields, in the slot that its count of used chains names, and idx after them
abbrev pub giving_back : ℕ → ℕ → ℕ → ℕ → List Write
giving_back n used h len =
    record { place = used_id (used % n); number = h }
    ∷ record { place = used_len (used % n); number = len }
    ∷ record { place = used_idx; number = after used }
    ∷ []
