-- The rules' access that each of the code's accesses is, and that its field is one that the queue has.
use Rattle.std.specs.Prelude.{◌≡◌, true, List, ℕ, ◌*◌, ◌<◌}
use Rattle.virtio.specs.Memory.{Memory, desc, avail_idx, used_event, avail_ring, used_idx, used_id, used_len, entry}
use Rattle.rules.specs.Step as rule
use Rattle.rules.specs.Step.{nothing, load, store, store_desc}
use Rattle.views.specs.declared.Core.{Core}
use Rattle.access.specs.declared.Access.{Access}
use Rattle.access.specs.declared.Access.TheVariants.{Nothing, LoadIdx, LoadId, LoadLen, StoreDesc, StoreEntry, StoreSlot, StoreIdx, StoreEvent}

-- the lent memory
abbrev pub memory : List ℕ → List ℕ → List ℕ → Memory
memory one two pool = record { one = one; two = two; pool = pool }

abbrev pub access_of : Access → rule.Access
access_of Nothing = nothing
access_of LoadIdx = load used_idx
access_of (LoadId i) = load (used_id i)
access_of (LoadLen i) = load (used_len i)
access_of (StoreDesc i d) = store_desc (desc i) d
access_of (StoreEntry j d) = store_desc (entry j) d
access_of (StoreSlot i h) = store (avail_ring i) h
access_of (StoreIdx x) = store avail_idx x
access_of (StoreEvent x) = store used_event x

-- the numbers in it are within the tables and rings; the pool is touched in indirect mode alone
abbrev pub Within : Core → Access → Type 0
Within c Nothing = Unit {0}
Within c LoadIdx = Unit {0}
Within c (LoadId i) = i < c.n
Within c (LoadLen i) = i < c.n
Within c (StoreDesc i d) = i < c.n
Within c (StoreEntry j d) = (j < c.n * c.n) × (c.modes.indirect ≡ true)
Within c (StoreSlot i h) = i < c.n
Within c (StoreIdx x) = Unit {0}
Within c (StoreEvent x) = Unit {0}
