-- The queue's private record (document 01, "The record"), what its parts say, and one short setter for each store to it.
use Rattle.std.specs.Prelude.{Bool, true, false, not, cond, ◌&&◌, List, map, ℕ, ◌+◌, ◌-◌, ◌*◌, ◌/◌, ltb, eqb, get_or}
use Rattle.lists.specs.Pick.{run_of}
use Rattle.lists.specs.Walk.{hop, walk}
use Rattle.virtio.specs.declared.Desc.{Desc}
use Rattle.virtio.specs.declared.Buffer.{Buffer}
use Rattle.virtio.specs.Desc.{no_desc, no_buffer, has_indirect, buffer_of}
use Rattle.rules.specs.declared.Modes.{Modes}
use Rattle.rules.specs.declared.Open.{Open}
use Rattle.rules.specs.declared.Open.TheVariants.{Idle, Add, PopIdx, PopId, PopLen, PopStore, PeekIdx, PeekId}

-- The counters: num_used, free_head, avail_idx, last_used_idx.
pub record Counts : Type 0 where
  pub used : ℕ
  pub free : ℕ
  pub avail : ℕ
  pub last : ℕ

-- The private tables: the shadow of the descriptor table; each head's chain length, 0 for none; and a copy of each indirect list,
-- that of head h from entry n * h on, as its pool slot has it.
pub record Tables : Type 0 where
  pub shadow : List Desc
  pub noted : List ℕ
  pub kept : List Buffer

-- The record. It holds the whole of the private memory, so that an equation of records says everything of it.
pub record Queue : Type 0 where
  pub n : ℕ
  pub modes : Modes
  pub base : ℕ
  pub counts : Counts
  pub tables : Tables
  pub call : Open

-- ---- what it says

-- descriptor i of the shadow table; the one that it links to
abbrev pub desc_of : Queue → ℕ → Desc
desc_of q i = get_or q.tables.shadow i no_desc

abbrev pub next_of : Queue → ℕ → ℕ
next_of q i = (desc_of q i).next

-- the noted length of the chain at head h, and whether h heads an outstanding chain
abbrev pub noted_of : Queue → ℕ → ℕ
noted_of q h = get_or q.tables.noted h 0

abbrev pub outstanding : Queue → ℕ → Bool
outstanding q h = ltb h q.n && not (eqb (noted_of q h) 0)

-- how many descriptors are free; the free list: so many from free_head on along next
abbrev pub free_count : Queue → ℕ
free_count q = q.n - q.counts.used

abbrev pub free_list : Queue → List ℕ
free_list q = walk (next_of q) (free_count q) q.counts.free

-- the descriptors of the chain at head h: as many as noted, along next; and the last of them
abbrev pub chain_of : Queue → ℕ → List ℕ
chain_of q h = walk (next_of q) (noted_of q h) h

abbrev pub last_of : Queue → ℕ → ℕ
last_of q h = hop (next_of q) (noted_of q h - 1) h

-- head h refers to an indirect list; its address in the pool; how many entries its descriptor tells of
abbrev pub is_indirect : Queue → ℕ → Bool
is_indirect q h = has_indirect (desc_of q h)

abbrev pub slot_address : Queue → ℕ → ℕ
slot_address q h = q.base + 16 * (q.n * h)

abbrev pub entries_of : Queue → ℕ → ℕ
entries_of q h = (desc_of q h).len / 16

-- how many buffers were added at head h, and which
abbrev pub size_of : Queue → ℕ → ℕ
size_of q h = cond (is_indirect q h) (entries_of q h) (noted_of q h)

abbrev pub buffers_of : Queue → ℕ → List Buffer
buffers_of q h =
    cond (is_indirect q h) (run_of no_buffer q.tables.kept (q.n * h) (entries_of q h)) (map (λ i. buffer_of (desc_of q i)) (chain_of q h))

-- a call is open; an add is
abbrev pub is_open : Open → Bool
is_open Idle = false
is_open (Add h i) = true
is_open (PopIdx t b) = true
is_open (PopId t b) = true
is_open (PopLen t b d) = true
is_open (PopStore k i l) = true
is_open PeekIdx = true
is_open PeekId = true

abbrev pub is_add : Open → Bool
is_add Idle = false
is_add (Add h i) = true
is_add (PopIdx t b) = false
is_add (PopId t b) = false
is_add (PopLen t b d) = false
is_add (PopStore k i l) = false
is_add PeekIdx = false
is_add PeekId = false

-- ---- stores to it

abbrev pub with_call : Queue → Open → Queue
with_call q c = record { n = q.n; modes = q.modes; base = q.base; counts = q.counts; tables = q.tables; call = c }

abbrev pub with_counts : Queue → Counts → Queue
with_counts q c = record { n = q.n; modes = q.modes; base = q.base; counts = c; tables = q.tables; call = q.call }

abbrev pub with_tables : Queue → Tables → Queue
with_tables q t = record { n = q.n; modes = q.modes; base = q.base; counts = q.counts; tables = t; call = q.call }

abbrev pub with_avail : Queue → ℕ → Queue
with_avail q a =
    with_counts q (record { used = q.counts.used; free = q.counts.free; avail = a; last = q.counts.last })
