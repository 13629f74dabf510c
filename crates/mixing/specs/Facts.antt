-- THE INVARIANT of demand 3, at every moment of a mixing: what the record, the memory and the device have to do with each other. Counters that do not wrap, and
-- a stage for each head, are notes: neither side sees them.
use Rattle.std.specs.Prelude.{◌≡◌, Bool, true, false, ℕ, ◌+◌, ◌-◌, ◌*◌, ◌/◌, ◌%◌, ◌≤◌, ◌<◌, length}
use Rattle.lists.specs.Once.{mem, no_dup, count}
use Rattle.lists.specs.Walk.{hop}
use Rattle.virtio.specs.declared.Desc.{Desc}
use Rattle.virtio.specs.Desc.{has_next, has_indirect}
use Rattle.virtio.specs.Memory.{Memory, Place, desc, avail_flags, avail_idx, used_event, avail_ring, used_flags, used_idx, avail_event, used_id, used_len, entry}
use Rattle.rules.specs.declared.Open.{Open}
use Rattle.rules.specs.declared.Open.TheVariants.{Idle, Add, PopIdx, PopId, PopLen, PopStore, PeekIdx, PeekId}
use Rattle.rules.specs.Record.{Queue, desc_of, next_of, noted_of, outstanding, chain_of, last_of, is_indirect, entries_of, size_of}
use Rattle.rules.specs.Calls.{fits}
use Rattle.laws.specs.CallKeeps.{Good}
use Rattle.mixing.specs.Device.{Wiring, Table, in_table, in_list, Doing, resting, take_idx, take_head, take_chain, complete_id, complete_len, complete_idx, Device}
use Rattle.mixing.specs.Mix.{Trace}
use Rattle.mixing.specs.Fields.{num, dsc}

-- ---- notes

-- What became of a head: it heads no chain; its chain is being added; offered to the device as number k of all chains; taken; returned as number k of all.
pub data Stage : Type 0 where
  none adding taken : Stage
  offered returned : ℕ → Stage

abbrev pub is_out : Stage → Bool
is_out none = false
is_out adding = true
is_out taken = true
is_out (offered k) = true
is_out (returned k) = true

-- How many chains were published, taken, completed and popped in all, and each head's stage.
pub record Notes : Type 0 where
  pub adds : ℕ
  pub takes : ℕ
  pub uses : ℕ
  pub pops : ℕ
  pub stage : ℕ → Stage

-- ---- a chain in memory

-- i is a descriptor of the chain at h
abbrev pub InChain : Queue → ℕ → ℕ → Type 0
InChain q h i = 0 < count i (chain_of q h)

-- a descriptor of the chain at h leads on in the chain, or to the head's own list; an entry of that list leads on in the list
abbrev pub TableOk : ℕ → Queue → ℕ → Desc → Type 0
TableOk base q h x =
    (has_indirect x ≡ true → (is_indirect q h ≡ true) × ((x.addr - base) / 16 ≡ q.n * h))
    × (has_indirect x ≡ false → has_next x ≡ true → InChain q h x.next)

abbrev pub ListOk : Queue → ℕ → Desc → Type 0
ListOk q h x = has_next x ≡ true → x.next < entries_of q h

-- what a device reads from head h on stays in the chain
abbrev pub Led : ℕ → Queue → Memory → ℕ → Type 0
Led base q m h =
    ((i : ℕ) → InChain q h i → TableOk base q h (dsc q (desc i) m))
    × (is_indirect q h ≡ true → (j : ℕ) → j < entries_of q h → ListOk q h (dsc q (entry (q.n * h + j)) m))

-- ---- what the memory shows

pub record Shown (base : ℕ) (q : Queue) (m : Memory) (g : Notes) : Type 0 where
  pub idx : num q avail_idx m ≡ g.adds % 65536
  pub used : num q used_idx m ≡ g.uses % 65536
  -- the slots of the chains offered, and the elements of those returned, name their heads
  pub slots : (k : ℕ) → g.takes ≤ k → k < g.adds → g.stage (num q (avail_ring (k % q.n)) m) ≡ offered k
  pub elements : (k : ℕ) → g.pops ≤ k → k < g.uses → g.stage (num q (used_id (k % q.n)) m) ≡ returned k
  pub led : (h k : ℕ) → g.stage h ≡ offered k → Led base q m h

-- a field that none of this speaks of
abbrev pub Blank : Queue → Notes → Place → Type 0
Blank q g (desc i) = (h k : ℕ) → g.stage h ≡ offered k → count i (chain_of q h) ≡ 0
Blank q g avail_flags = Unit {0}
Blank q g avail_idx = ⊥
Blank q g (avail_ring s) = (k : ℕ) → g.takes ≤ k → k < g.adds → k % q.n ≡ s → ⊥
Blank q g used_event = Unit {0}
Blank q g used_flags = Unit {0}
Blank q g used_idx = ⊥
Blank q g (used_id s) = (k : ℕ) → g.pops ≤ k → k < g.uses → k % q.n ≡ s → ⊥
Blank q g (used_len s) = Unit {0}
Blank q g avail_event = Unit {0}
Blank q g (entry j) = (h k : ℕ) → g.stage h ≡ offered k → is_indirect q h ≡ true → (x : ℕ) → x < entries_of q h → q.n * h + x ≡ j → ⊥

-- ---- where the open call and the open act stand

-- an add that has made s steps: its head's flags, and what is already stored of its chain
pub record Progress (base : ℕ) (q : Queue) (m : Memory) (h s : ℕ) : Type 0 where
  pub flags : is_indirect q h ≡ false → (j : ℕ) → j < noted_of q h → (desc_of q (hop (next_of q) j h)).flags < 4
  pub table : (j : ℕ) → j + 1 < noted_of q h → j < s → TableOk base q h (dsc q (desc (hop (next_of q) j h)) m)
  pub last : size_of q h < s → TableOk base q h (dsc q (desc (last_of q h)) m)
  pub list : is_indirect q h ≡ true → (j : ℕ) → j < entries_of q h → j < s → ListOk q h (dsc q (entry (q.n * h + j)) m)
  pub slot : size_of q h + 1 < s → num q (avail_ring (q.counts.avail % q.n)) m ≡ h

abbrev pub DriverAt : ℕ → Queue → Memory → Notes → Open → Type 0
DriverAt base q m g Idle = Unit {0}
DriverAt base q m g (Add h s) = (g.stage h ≡ adding) × Progress base q m h s
DriverAt base q m g (PopIdx t b) = Unit {0}
DriverAt base q m g (PopId t b) = g.pops < g.uses
DriverAt base q m g (PopLen t b x) = (g.pops < g.uses) × (x ≡ num q (used_id (q.counts.last % q.n)) m)
DriverAt base q m g (PopStore k i l) = Unit {0}
DriverAt base q m g PeekIdx = Unit {0}
DriverAt base q m g PeekId = g.pops < g.uses

-- a take reads descriptor i of the chain at h that was offered next
abbrev pub Reading : Queue → Notes → ℕ → Table → ℕ → Type 0
Reading q g h in_table i = InChain q h i
Reading q g h (in_list s) i = (is_indirect q h ≡ true) × (s ≡ q.n * h) × (i < entries_of q h)

abbrev pub DeviceAt : Queue → Memory → Device → Notes → Doing → Type 0
DeviceAt q m d g resting = Unit {0}
DeviceAt q m d g take_idx = Unit {0}
DeviceAt q m d g take_head = g.takes < g.adds
DeviceAt q m d g (take_chain h k t i bs) = (g.takes < g.adds) × (g.stage h ≡ offered g.takes) × Reading q g h t i × (k ≤ q.n + 1)
DeviceAt q m d g (complete_id h l) = mem h d.holds ≡ true
DeviceAt q m d g (complete_len h l) = (mem h d.holds ≡ true) × (num q (used_id (d.used % q.n)) m ≡ h)
DeviceAt q m d g (complete_idx h l) = (mem h d.holds ≡ true) × (num q (used_id (d.used % q.n)) m ≡ h)

-- ---- all of it

pub record Facts (base : ℕ) (q : Queue) (m : Memory) (d : Device) (g : Notes) : Type 0 where
  pub good : Good q
  pub fit : fits q m ≡ true
  pub based : q.modes.indirect ≡ true → base ≡ q.base
  -- the indices count what the notes count
  pub avail : q.counts.avail ≡ g.adds % 65536
  pub last : q.counts.last ≡ g.pops % 65536
  pub took : d.taken ≡ g.takes % 65536
  pub gave : d.used ≡ g.uses % 65536
  pub popped : g.pops ≤ g.uses
  pub given : g.uses ≤ g.takes
  pub offers : g.takes ≤ g.adds
  pub near : g.adds ≤ g.pops + 64
  -- the heads
  pub outs : (h : ℕ) → outstanding q h ≡ is_out (g.stage h)
  pub held : (h : ℕ) → mem h d.holds ≡ true → g.stage h ≡ taken
  pub once : no_dup d.holds ≡ true
  pub many : length d.holds + g.uses ≡ g.takes
  -- the memory, and the open operations
  pub shown : Shown base q m g
  pub at_driver : DriverAt base q m g q.call
  pub at_device : DeviceAt q m d g d.doing

-- THE INVARIANT of a trace
pub record Inv (w : Wiring) (t : Trace) : Type 0 where
  pub notes : Notes
  pub size : t.queue.n ≡ w.n
  pub layout : t.queue.modes.legacy ≡ w.legacy
  pub facts : Facts w.base t.queue t.memory t.device notes
