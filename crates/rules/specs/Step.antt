-- A step of the open call (document 01, "Step by step"): one access, and the record's reaction to what was loaded. What a step depends on is
-- read off here: of shared memory only the number that its access loads.
use Rattle.std.specs.Prelude.{Bool, false, not, cond, List, [], ◌∷◌, ℕ, ◌+◌, ◌-◌, ◌*◌, ◌/◌, ◌%◌, ltb, eqb, get_or, set, replicate}
use Rattle.std.proofs.lemmas.List.Edits.{sets}
use Rattle.lists.specs.Index.{after}
use Rattle.lists.specs.Pick.{◌when◌, first}
use Rattle.lists.specs.Walk.{hop}
use Rattle.virtio.specs.declared.Desc.{Desc}
use Rattle.virtio.specs.declared.Buffer.{Buffer}
use Rattle.virtio.specs.Desc.{no_desc, no_buffer, flags_of}
use Rattle.virtio.specs.Memory.{Memory, Place, desc, avail_idx, used_event, avail_ring, used_idx, used_id, used_len, entry, spot, load_at, store_at, store_desc_at}
use Rattle.rules.specs.declared.Open.{Open}
use Rattle.rules.specs.declared.Open.TheVariants.{Idle, Add, PopIdx, PopId, PopLen, PopStore, PeekIdx, PeekId}
use Rattle.rules.specs.Record.{Queue, Counts, Tables, desc_of, next_of, noted_of, outstanding, chain_of, last_of, is_indirect, entries_of, size_of, with_call, with_avail}
use Rattle.rules.specs.WellFormed.{add_steps, store_steps}
use Rattle.rules.specs.Answer.{Outcome, NotReady, WrongToken, NotOutstanding, Mismatch}

-- ---- an access

-- One load or one store of a field, or none where nothing is open.
pub data Access : Type 0 where
  nothing : Access
  load : Place → Access
  store : Place → ℕ → Access
  store_desc : Place → Desc → Access

module _ (q : Queue) where
  -- the number that it loads, 0 for a store
  abbrev pub loaded : Access → Memory → ℕ
  loaded nothing m = 0
  loaded (load p) m = load_at (spot q.modes.legacy q.n p) m
  loaded (store p v) m = 0
  loaded (store_desc p d) m = 0

  -- the memory after it
  abbrev pub accessed : Access → Memory → Memory
  accessed nothing m = m
  accessed (load p) m = m
  accessed (store p v) m = store_at (spot q.modes.legacy q.n p) v m
  accessed (store_desc p d) m = store_desc_at (spot q.modes.legacy q.n p) d m

-- ---- what the open call does now

-- the descriptor with NEXT
abbrev pub with_next : Desc → Desc
with_next d = record { addr = d.addr; len = d.len; flags = d.flags / 2 * 2 + 1; next = d.next }

module _ (q : Queue) where
  -- entry i of the indirect list of head h, in its final form: next i + 1, and NEXT but for the last
  abbrev pub list_entry : ℕ → ℕ → Desc
  list_entry h i =
      let b : Buffer = get_or q.tables.kept (q.n * h + i) no_buffer in
      record { addr = b.addr; len = b.len; flags = flags_of (ltb (i + 1) (entries_of q h)) b.output false; next = i + 1 }

  -- an add's store for buffer i: the list entry, or the chain's descriptor i with NEXT
  abbrev pub buffer_store : ℕ → ℕ → Access
  buffer_store h i =
      cond (is_indirect q h) (store_desc (entry (q.n * h + i)) (list_entry h i))
      (store_desc (desc (hop (next_of q) i h)) (with_next (desc_of q (hop (next_of q) i h))))

  -- An add: its buffers' stores; then the last descriptor without NEXT, or the indirect one; the ring slot; idx.
  abbrev pub add_access : ℕ → ℕ → Access
  add_access h i =
      cond (ltb i (size_of q h)) (buffer_store h i)
      (cond (eqb i (size_of q h)) (store_desc (desc (last_of q h)) (desc_of q (last_of q h)))
      (cond (eqb i (size_of q h + 1)) (store (avail_ring (q.counts.avail % q.n)) h)
      (store avail_idx (after q.counts.avail))))

  -- A pop's stores: the descriptors that it freed, which now stand first in the free list; then used_event.
  abbrev pub pop_access : ℕ → ℕ → Access
  pop_access count i =
      cond (ltb i count) (store_desc (desc (hop (next_of q) i q.counts.free)) (desc_of q (hop (next_of q) i q.counts.free)))
      (store used_event q.counts.last)

  abbrev pub access : Open → Access
  access Idle = nothing
  access (Add h i) = add_access h i
  access (PopIdx t b) = load used_idx
  access (PopId t b) = load (used_id (q.counts.last % q.n))
  access (PopLen t b d) = load (used_len (q.counts.last % q.n))
  access (PopStore k i l) = pop_access k i
  access PeekIdx = load used_idx
  access PeekId = load (used_id (q.counts.last % q.n))

-- ---- what becomes of the record

-- A step's reaction: the call goes on, or it ends with an answer and a value.
pub record Reaction : Type 0 where
  pub answer : ℕ
  pub value : ℕ
  pub queue : Queue

abbrev pub will_go_on : Queue → Open → Reaction
will_go_on q c = record { answer = 0; value = 0; queue = with_call q c }

abbrev pub ends : Queue → ℕ → ℕ → Reaction
ends q number v = record { answer = number; value = v; queue = with_call q Idle }

-- the token that a used element's id names (a difference: the id is 32 bits wide)
abbrev pub token_of : ℕ → ℕ
token_of id = id % 65536

-- each descriptor named gets address and length 0, and keeps its flags and next
abbrev pub emptied : Desc → Desc
emptied d = record { addr = 0; len = 0; flags = d.flags; next = d.next }

unfoldable pub empty_all : List Desc → List ℕ → List Desc
empty_all s [] = s
empty_all s (i ∷ is) = empty_all (set s i (emptied (get_or s i no_desc))) is

-- descriptor i links to x
abbrev pub relink : List Desc → ℕ → ℕ → List Desc
relink s i x =
    let d : Desc = get_or s i no_desc in
    set s i (record { addr = d.addr; len = d.len; flags = d.flags; next = x })

module _ (q : Queue) where
  -- the record after the chain at token t was freed: its descriptors emptied, the last linked to the old free_head, free_head the token;
  -- noted length and private list 0; last_used_idx counted on
  abbrev pub freed_tables : ℕ → Tables
  freed_tables t = record {
    shadow = relink (empty_all q.tables.shadow (chain_of q t)) (last_of q t) q.counts.free;
    noted = set q.tables.noted t 0;
    kept = cond (is_indirect q t) (sets q.tables.kept (q.n * t) (replicate (entries_of q t) no_buffer)) q.tables.kept;
  }

  abbrev pub freed_counts : ℕ → Counts
  freed_counts t =
      record { used = q.counts.used - noted_of q t; free = t; avail = q.counts.avail; last = after q.counts.last }

  abbrev pub freed : ℕ → Queue
  freed t =
      record { n = q.n; modes = q.modes; base = q.base; counts = freed_counts t; tables = freed_tables t; call = q.call }

  -- how many descriptors a pop stores: none if the chain was indirect
  abbrev pub stored_count : ℕ → ℕ
  stored_count t = cond (is_indirect q t) 0 (noted_of q t)

  -- all checks and the private update, at the third load
  abbrev pub verdict : ℕ → Bool → ℕ → ℕ
  verdict t matched id = first (
      (WrongToken when not (eqb (token_of id) t))
      ∷ (NotOutstanding when not (outstanding q t))
      ∷ (Mismatch when not matched)
      ∷ []
      )

  abbrev pub popped : ℕ → ℕ → Reaction
  popped t len =
      cond (eqb (store_steps q (stored_count t)) 0) (ends (freed t) 0 len) (will_go_on (freed t) (PopStore (stored_count t) 0 len))

  abbrev pub at_length : ℕ → Bool → ℕ → ℕ → Reaction
  at_length t matched id len =
      cond (eqb (verdict t matched id) 0) (popped t len) (ends q (verdict t matched id) 0)

  abbrev pub react : Open → ℕ → Reaction
  react Idle v = record { answer = 0; value = 0; queue = q }
  react (Add h i) v =
      cond (ltb (i + 1) (add_steps q h)) (will_go_on q (Add h (i + 1))) (ends (with_avail q (after q.counts.avail)) 0 h)
  react (PopIdx t b) v = cond (eqb v q.counts.last) (ends q NotReady 0) (will_go_on q (PopId t b))
  react (PopId t b) v = will_go_on q (PopLen t b v)
  react (PopLen t b d) v = at_length t b d v
  react (PopStore k i l) v = cond (ltb (i + 1) (store_steps q k)) (will_go_on q (PopStore k (i + 1) l)) (ends q 0 l)
  react PeekIdx v = cond (eqb v q.counts.last) (ends q NotReady 0) (will_go_on q PeekId)
  react PeekId v = ends q 0 (token_of v)

-- ---- a step on memory: the access, and the reaction to what it loaded

unfoldable pub move : Queue → Memory → Outcome
move q m =
    let a : Access = access q q.call in
    let r : Reaction = react q q.call (loaded q a m) in
    record { answer = r.answer; value = r.value; steps = 1; queue = r.queue; memory = accessed q a m }
