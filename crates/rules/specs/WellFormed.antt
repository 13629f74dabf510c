-- When a record is well formed (document 01, "The record"): ten clauses in 01's order, each a test that computes, and the number of the first
-- that is broken.
use Rattle.std.specs.Prelude.{Bool, true, not, cond, ◌&&◌, ◌||◌, List, [], ◌∷◌, ◌++◌, ℕ, ◌+◌, ◌*◌, ◌/◌, ◌%◌, ◌^◌, ltb, leb, eqb}
use Rattle.lists.specs.Index.{ahead}
use Rattle.lists.specs.Pick.{◌when◌, first, every, tally, one_if}
use Rattle.lists.specs.Walk.{walks, ending}
use Rattle.lists.specs.Once.{mem, once_each}
use Rattle.virtio.specs.declared.Desc.{Desc}
use Rattle.virtio.specs.declared.Buffer.{Buffer}
use Rattle.virtio.specs.Desc.{has_next}
use Rattle.virtio.specs.Layout.{page, need_pool}
use Rattle.virtio.specs.Chain.{in_order}
use Rattle.rules.specs.declared.Open.{Open}
use Rattle.rules.specs.declared.Open.TheVariants.{Idle, Add, PopIdx, PopId, PopLen, PopStore, PeekIdx, PeekId}
use Rattle.rules.specs.Record.{Queue, desc_of, next_of, noted_of, outstanding, free_count, free_list, is_indirect, slot_address, size_of, buffers_of, is_add}

-- a size that is allowed: a power of two, 1 to 64 (01, part 1)
unfoldable pub size_ok : ℕ → Bool
size_ok n = mem n (1 ∷ 2 ∷ 4 ∷ 8 ∷ 16 ∷ 32 ∷ 64 ∷ [])

-- a base that new takes for a region with this need: on a page, and base and need within 2^64 (01, number 13)
abbrev pub base_ok : ℕ → ℕ → Bool
base_ok base size = eqb (base % page) 0 && leb (base + size) (2 ^ 64)

-- no buffer of the list is empty
unfoldable pub no_empty : List Buffer → Bool
no_empty [] = true
no_empty (b ∷ bs) = not (eqb b.len 0) && no_empty bs

-- both of what a well-formed chain's list is
abbrev pub sound_list : List Buffer → Bool
sound_list bs = no_empty bs && in_order bs

-- a descriptor that refers to an indirect list at its slot's address
abbrev pub listed : Bool → ℕ → ℕ → Desc → Bool
listed indirect n slot d =
    indirect
    && (eqb d.flags 4
    && (eqb d.addr slot
    && (leb 2 (d.len / 16) && (leb (d.len / 16) n && eqb d.len (16 * (d.len / 16))))))

-- how many steps an add of k buffers has: a store for each, the last descriptor or the indirect one, ring slot, idx;
-- and a pop behind its loads: a store for each of the count descriptors, and used_event if it is in use
abbrev pub steps_of_add : ℕ → ℕ
steps_of_add k = k + 3

abbrev pub steps_of_stores : Bool → ℕ → ℕ
steps_of_stores event count = count + one_if event

-- an open call over a record in which `out` says what heads a chain, `size` of how many buffers, with so many descriptors free
abbrev pub call_fits : (ℕ → Bool) → (ℕ → ℕ) → ℕ → Bool → Open → Bool
call_fits out size free event Idle = true
call_fits out size free event (Add h i) = out h && ltb i (steps_of_add (size h))
call_fits out size free event (PopIdx t b) = true
call_fits out size free event (PopId t b) = true
call_fits out size free event (PopLen t b d) = true
call_fits out size free event (PopStore k i l) = ltb i (steps_of_stores event k) && leb k free
call_fits out size free event PeekIdx = true
call_fits out size free event PeekId = true

module _ (q : Queue) where
  -- all descriptors that are named: the free ones, and those of each head's chain (a number that heads none has an empty one)
  abbrev pub named : List ℕ
  named = free_list q ++ walks (next_of q) (noted_of q) q.n 0

  -- an indirect head: flags 4, its slot's address, a list of 2 to n buffers, and 16 times that as length
  abbrev pub indirect_head : ℕ → Bool
  indirect_head h = listed q.modes.indirect q.n (slot_address q h) (desc_of q h)

  -- how many chains are outstanding
  abbrev pub out_count : ℕ
  out_count = tally (outstanding q) q.n 0

  abbrev pub add_steps : ℕ → ℕ
  add_steps h = steps_of_add (size_of q h)

  abbrev pub store_steps : ℕ → ℕ
  store_steps count = steps_of_stores q.modes.event_idx count

  -- the open call names a step that it has; an add has an outstanding head; a storing pop's descriptors are free
  abbrev pub call_ok : Open → Bool
  call_ok c = call_fits (outstanding q) (size_of q) (free_count q) q.modes.event_idx c

  -- a test at each outstanding head
  unfoldable pub every_head : (ℕ → Bool) → Bool
  every_head p = every (λ h. not (outstanding q h) || p h) q.n 0

  -- ---- THE CLAUSES

  abbrev pub size_clause : Bool
  size_clause = size_ok q.n

  abbrev pub base_clause : Bool
  base_clause = cond q.modes.indirect (base_ok q.base (need_pool q.n)) (eqb q.base 0)

  abbrev pub used_clause : Bool
  used_clause = leb q.counts.used q.n

  abbrev pub next_clause : Bool
  next_clause = ltb q.counts.free q.n && every (λ i. ltb (next_of q i) q.n) q.n 0

  abbrev pub once_clause : Bool
  once_clause = once_each q.n named

  abbrev pub end_clause : Bool
  end_clause = every_head (λ h. ending (λ i. has_next (desc_of q i)) (next_of q) (noted_of q h) h)

  abbrev pub indirect_clause : Bool
  indirect_clause = every_head (λ h. not (is_indirect q h) || indirect_head h)

  abbrev pub buffer_clause : Bool
  buffer_clause = every_head (λ h. sound_list (buffers_of q h))

  abbrev pub count_clause : Bool
  count_clause = eqb (ahead q.counts.avail q.counts.last + one_if (is_add q.call)) out_count

  abbrev pub call_clause : Bool
  call_clause = call_ok q.call

  -- the number of the first broken clause, 0 where none is
  unfoldable pub broken : ℕ
  broken = first (
      (1 when not size_clause)
      ∷ (2 when not base_clause)
      ∷ (3 when not used_clause)
      ∷ (4 when not next_clause)
      ∷ (5 when not once_clause)
      ∷ (6 when not end_clause)
      ∷ (7 when not indirect_clause)
      ∷ (8 when not buffer_clause)
      ∷ (9 when not count_clause)
      ∷ (10 when not call_clause)
      ∷ []
      )

  unfoldable pub well_formed : Bool
  well_formed = eqb broken 0
