-- A well-formed record in plain words, clause by clause (document 01, "The record"). It says what the tests of WellFormed compute.
use Rattle.std.specs.Prelude.{◌≡◌, true, false, List, ℕ, ◌+◌, ◌*◌, ◌%◌, ◌^◌, ◌≤◌, ◌<◌, length, get_or}
use Rattle.lists.specs.Index.{ahead}
use Rattle.lists.specs.Pick.{one_if}
use Rattle.lists.specs.Walk.{hop}
use Rattle.lists.specs.Once.{Once}
use Rattle.virtio.specs.declared.Buffer.{Buffer}
use Rattle.virtio.specs.Desc.{no_buffer, has_next}
use Rattle.virtio.specs.Layout.{need_pool}
use Rattle.rules.specs.declared.Open.{Open}
use Rattle.rules.specs.declared.Open.TheVariants.{Idle, Add, PopIdx, PopId, PopLen, PopStore, PeekIdx, PeekId}
use Rattle.rules.specs.Record.{Queue, desc_of, next_of, noted_of, free_count, last_of, is_indirect, slot_address, entries_of, buffers_of, is_add}
use Rattle.rules.specs.WellFormed.{named, out_count, add_steps, store_steps}

-- h heads an outstanding chain
pub record Out (q : Queue) (h : ℕ) : Type 0 where
  pub below : h < q.n
  pub noted : noted_of q h ≡ 0 → ⊥

-- a base that new takes
pub record Based (base size : ℕ) : Type 0 where
  pub on_page : base % 4096 ≡ 0
  pub within : base + size ≤ 2 ^ 64

-- an indirect head
pub record Listed (q : Queue) (h : ℕ) : Type 0 where
  pub mode : q.modes.indirect ≡ true
  pub flags : (desc_of q h).flags ≡ 4
  pub addr : (desc_of q h).addr ≡ slot_address q h
  pub two : 2 ≤ entries_of q h
  pub most : entries_of q h ≤ q.n
  pub len : (desc_of q h).len ≡ 16 * entries_of q h

-- a list of buffers none of which is empty, and in which every one after an output is an output
pub record Sound (bs : List Buffer) : Type 0 where
  pub filled : (i : ℕ) → i < length bs → (get_or bs i no_buffer).len ≡ 0 → ⊥
  pub sides : (i j : ℕ) → i < j → j < length bs → (get_or bs i no_buffer).output ≡ true → (get_or bs j no_buffer).output ≡ true

-- the open call names a step that it has
pub record Adding (q : Queue) (h i : ℕ) : Type 0 where
  pub head : Out q h
  pub step : i < add_steps q h

pub record Storing (q : Queue) (count i : ℕ) : Type 0 where
  pub step : i < store_steps q count
  pub free : count ≤ free_count q

abbrev pub Named : Queue → Open → Type 0
Named q Idle = Unit {0}
Named q (Add h i) = Adding q h i
Named q (PopIdx t b) = Unit {0}
Named q (PopId t b) = Unit {0}
Named q (PopLen t b d) = Unit {0}
Named q (PopStore k i l) = Storing q k i
Named q PeekIdx = Unit {0}
Named q PeekId = Unit {0}

pub record WellFormed (q : Queue) : Type 0 where
  -- 1: the size
  pub size : (k : ℕ) × (k ≤ 6) × (q.n ≡ 2 ^ k)
  -- 2: the pool's base, in either mode
  pub pool : q.modes.indirect ≡ true → Based q.base (need_pool q.n)
  pub no_pool : q.modes.indirect ≡ false → q.base ≡ 0
  -- 3, 4: num_used, free_head, and where descriptors lead
  pub used : q.counts.used ≤ q.n
  pub free : q.counts.free < q.n
  pub nexts : (i : ℕ) → i < q.n → next_of q i < q.n
  -- 5: every descriptor is free, or part of a chain, and that in one place
  pub once : Once q.n (named q)
  -- 6: a chain is as long as noted
  pub goes_on : (h i : ℕ) → Out q h → i + 1 < noted_of q h → has_next (desc_of q (hop (next_of q) i h)) ≡ true
  pub stops : (h : ℕ) → Out q h → has_next (desc_of q (last_of q h)) ≡ false
  -- 7, 8: its head, where it has INDIRECT; its buffers
  pub listed : (h : ℕ) → Out q h → is_indirect q h ≡ true → Listed q h
  pub buffers : (h : ℕ) → Out q h → Sound (buffers_of q h)
  -- 9: as many chains are outstanding as the indices tell, and one more while an add is open
  pub count : ahead q.counts.avail q.counts.last + one_if (is_add q.call) ≡ out_count q
  -- 10: the open call
  pub call : Named q q.call
