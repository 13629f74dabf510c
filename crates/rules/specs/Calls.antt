-- The queue's calls (document 01, "Rules of the calls", "Step by step", "When the queue says no"): refusals in 01's order, openings, runs with a
-- budget, whole calls, and the calls of a single step.
use Rattle.std.specs.Prelude.{Bool, true, false, not, cond, ◌&&◌, ◌||◌, List, [], ◌∷◌, ℕ, zero, suc, ◌+◌, ◌*◌, ltb, leb, eqb, length, get_or, set}
use Rattle.std.specs.Bool.{beq}
use Rattle.std.proofs.lemmas.List.Edits.{sets}
use Rattle.lists.specs.Index.{after}
use Rattle.lists.specs.Pick.{Test, ◌when◌, first, one_if}
use Rattle.lists.specs.Walk.{hop}
use Rattle.virtio.specs.declared.Desc.{Desc}
use Rattle.virtio.specs.declared.Buffer.{Buffer}
use Rattle.virtio.specs.Desc.{no_desc, flags_of}
use Rattle.virtio.specs.Layout.{need_one, need_two, need_pool}
use Rattle.virtio.specs.Chain.{in_order}
use Rattle.virtio.specs.Memory.{Memory, avail_flags, used_flags, used_idx, avail_event, spot, load_at, store_at}
use Rattle.virtio.specs.Notify.{by_flags}
use Rattle.rules.specs.declared.Open.TheVariants.{Add, PopIdx, PeekIdx}
use Rattle.rules.specs.Record.{Queue, next_of, outstanding, buffers_of, slot_address, free_count, is_open, with_call}
use Rattle.rules.specs.WellFormed.{well_formed, no_empty}
use Rattle.rules.specs.Answer.{Outcome, unless, InvalidParam, QueueFull, EmptyBuffer, Busy, BadRecord, BadRegion}
use Rattle.rules.specs.Step.{move}

-- ---- refusals

-- the lent memory holds what the layout asks for, and the pool in indirect mode
abbrev pub fits : Queue → Memory → Bool
fits q m =
    leb (need_one q.modes.legacy q.n) (length m.one)
    && (leb (need_two q.modes.legacy q.n) (length m.two)
    && (not q.modes.indirect || leb (need_pool q.n) (length m.pool)))

-- an add's list of k buffers: none, or an input after an output; and no room for it
abbrev pub bad_list : List Buffer → Bool
bad_list bs = eqb (length bs) 0 || not (in_order bs)

abbrev pub full : Queue → ℕ → Bool
full q k =
    eqb q.counts.used q.n
    || (ltb q.n k || (not q.modes.indirect && ltb q.n (q.counts.used + k)))

-- the tests in 01's order, where it is told whether the lent memory does: of a step; of a call that is opened or makes a single step; of an add
module _ (q : Queue) (fit : Bool) where
  abbrev pub step_tests : List Test
  step_tests = (BadRecord when not (well_formed q)) ∷ (BadRegion when not fit) ∷ []

  abbrev pub call_tests : List Test
  call_tests = (BadRecord when not (well_formed q)) ∷ (BadRegion when not fit) ∷ (Busy when is_open q.call) ∷ []

  abbrev pub add_tests : List Buffer → List Test
  add_tests bs =
      (BadRecord when not (well_formed q))
      ∷ (BadRegion when not fit)
      ∷ (Busy when is_open q.call)
      ∷ (InvalidParam when bad_list bs)
      ∷ (QueueFull when full q (length bs))
      ∷ (EmptyBuffer when not (no_empty bs))
      ∷ []

module _ (q : Queue) where
  abbrev pub add_refusal : Memory → List Buffer → ℕ
  add_refusal m bs = first (add_tests q (fits q m) bs)

  abbrev pub call_refusal : Memory → ℕ
  call_refusal m = first (call_tests q (fits q m))

  abbrev pub step_refusal : Memory → ℕ
  step_refusal m = first (step_tests q (fits q m))

  abbrev pub count_refusal : ℕ
  count_refusal = first ((BadRecord when not (well_formed q)) ∷ (Busy when is_open q.call) ∷ [])

-- ---- openings

-- the descriptor that buffer b fills; whether another follows; its next stays
abbrev pub filled : Buffer → Bool → ℕ → Desc
filled b more next = record { addr = b.addr; len = b.len; flags = flags_of more b.output false; next = next }

abbrev pub more? : List Buffer → Bool
more? [] = false
more? (b ∷ bs) = true

-- the buffers fill the descriptors from i on along next
unfoldable pub fill : List Desc → ℕ → List Buffer → List Desc
fill s i [] = s
fill s i (b ∷ bs) =
    let x : ℕ = (get_or s i no_desc).next in
    fill (set s i (filled b (more? bs) x)) x bs

module _ (q : Queue) where
  -- the record with an add of bs open, direct: k descriptors from free_head on
  abbrev pub add_direct : List Buffer → Queue
  add_direct bs = record {
    n = q.n;
    modes = q.modes;
    base = q.base;
    counts =
        record { used = q.counts.used + length bs; free = hop (next_of q) (length bs) q.counts.free; avail = q.counts.avail; last = q.counts.last };
    tables = record {
      shadow = fill q.tables.shadow q.counts.free bs;
      noted = set q.tables.noted q.counts.free (length bs);
      kept = q.tables.kept;
    };
    call = Add q.counts.free 0;
  }

  -- and indirect: one descriptor, that refers to the list in the head's pool slot
  abbrev pub head_desc : ℕ → ℕ → Desc
  head_desc h k = record { addr = slot_address q h; len = 16 * k; flags = flags_of false false true; next = next_of q h }

  abbrev pub add_indirect : List Buffer → Queue
  add_indirect bs = record {
    n = q.n;
    modes = q.modes;
    base = q.base;
    counts =
        record { used = q.counts.used + 1; free = next_of q q.counts.free; avail = q.counts.avail; last = q.counts.last };
    tables = record {
      shadow = set q.tables.shadow q.counts.free (head_desc q.counts.free (length bs));
      noted = set q.tables.noted q.counts.free 1;
      kept = sets q.tables.kept (q.n * q.counts.free) bs;
    };
    call = Add q.counts.free 0;
  }

  abbrev pub add_opened : List Buffer → Queue
  add_opened bs = cond (q.modes.indirect && ltb 1 (length bs)) (add_indirect bs) (add_direct bs)

-- an opening makes no load and no store
abbrev pub opened : Queue → Memory → Outcome
opened q m = record { answer = 0; value = 0; steps = 0; queue = q; memory = m }

unfoldable pub open_add : Queue → Memory → List Buffer → Outcome
open_add q m bs = unless (add_refusal q m bs) q m (opened (add_opened q bs) m)

-- two lists of buffers are one: count, address, length, side
unfoldable pub same_list : List Buffer → List Buffer → Bool
same_list [] [] = true
same_list [] (c ∷ cs) = false
same_list (b ∷ bs) [] = false
same_list (b ∷ bs) (c ∷ cs) =
    eqb b.addr c.addr && (eqb b.len c.len && (beq b.output c.output && same_list bs cs))

-- the list is the one that was added under token t: by the private record, never by the pool
abbrev pub matches : Queue → ℕ → List Buffer → Bool
matches q t bs = outstanding q t && same_list (buffers_of q t) bs

unfoldable pub open_pop : Queue → Memory → ℕ → List Buffer → Outcome
open_pop q m t bs = unless (call_refusal q m) q m (opened (with_call q (PopIdx t (matches q t bs))) m)

unfoldable pub open_peek : Queue → Memory → Outcome
open_peek q m = unless (call_refusal q m) q m (opened (with_call q PeekIdx) m)

-- ---- runs and whole calls

-- what was done, and then p
abbrev pub and_then : Outcome → Outcome → Outcome
and_then o p =
    record { answer = p.answer; value = p.value; steps = o.steps + p.steps; queue = p.queue; memory = p.memory }

-- at most b steps, while a call is open
unfoldable pub moves : ℕ → Outcome → Outcome
moves zero o = o
moves (suc b) o =
    let r : Outcome = moves b (and_then o (move o.queue o.memory)) in
    cond (is_open o.queue.call) r o

-- a run with budget b, and a step: with none open it does nothing and reports 0
unfoldable pub run : ℕ → Queue → Memory → Outcome
run b q m = unless (step_refusal q m) q m (moves b (opened q m))

abbrev pub step : Queue → Memory → Outcome
step q m = run 1 q m

-- a whole call: opened, and run until it closes, which takes at most n + 4 steps
abbrev pub whole : ℕ → Outcome → Outcome
whole n o = cond (eqb o.answer 0) (moves (n + 4) o) o

abbrev pub add : Queue → Memory → List Buffer → Outcome
add q m bs = whole q.n (open_add q m bs)

abbrev pub pop_used : Queue → Memory → ℕ → List Buffer → Outcome
pop_used q m t bs = whole q.n (open_pop q m t bs)

abbrev pub peek_used : Queue → Memory → Outcome
peek_used q m = whole q.n (open_peek q m)

-- ---- calls of a single step

abbrev pub answered : ℕ → ℕ → Queue → Memory → Outcome
answered steps v q m = record { answer = 0; value = v; steps = steps; queue = q; memory = m }

unfoldable pub can_pop : Queue → Memory → Outcome
can_pop q m =
    let idx : ℕ = load_at (spot q.modes.legacy q.n used_idx) m in
    unless (call_refusal q m) q m (answered 1 (one_if (not (eqb idx q.counts.last))) q m)

-- the crate's rule, which is not VIRTIO's at the wrap
abbrev pub notify_by_event : ℕ → ℕ → Bool
notify_by_event avail event = leb (after event) avail

unfoldable pub should_notify : Queue → Memory → Outcome
should_notify q m =
    let event : ℕ = load_at (spot q.modes.legacy q.n avail_event) m in
    let flags : ℕ = load_at (spot q.modes.legacy q.n used_flags) m in
    unless (call_refusal q m) q m
    (answered 1 (one_if (cond q.modes.event_idx (notify_by_event q.counts.avail event) (by_flags flags))) q m)

unfoldable pub set_dev_notify : Queue → Memory → Bool → Outcome
set_dev_notify q m wanted =
    unless (call_refusal q m) q m
    (cond q.modes.event_idx (answered 0 0 q m)
    (answered 1 0 q (store_at (spot q.modes.legacy q.n avail_flags) (cond wanted 0 1) m)))

-- available_desc needs no memory
abbrev pub available_now : Queue → ℕ
available_now q =
    cond q.modes.indirect (cond (eqb q.counts.used q.n) 0 q.n) (free_count q)

unfoldable pub available_desc : Queue → Memory → Outcome
available_desc q m = unless (count_refusal q) q m (answered 0 (available_now q) q m)
