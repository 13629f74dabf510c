-- The owning queue (document 01, part 4, and "Owning" in "When the queue says no"): a queue all of whose buffers lie in one lent store, buffer i
-- under token i. Its record, when that is well formed, and its calls.
use Rattle.std.specs.Prelude.{Option, None, Some, Bool, true, false, not, cond, ◌&&◌, ◌||◌, List, [], ◌∷◌, ℕ, zero, suc, ◌+◌, ◌*◌, ◌%◌, ltb, leb, eqb, length, replicate, take, drop}
use Rattle.std.proofs.lemmas.List.Edits.{sets}
use Rattle.lists.specs.Pick.{Test, ◌when◌, first, every, rising, same}
use Rattle.virtio.specs.declared.Buffer.{Buffer}
use Rattle.virtio.specs.Memory.{Memory, used_idx, used_id, spot, load_at}
use Rattle.rules.specs.declared.Held.{Held}
use Rattle.rules.specs.Record.{Queue, outstanding, free_list, buffers_of, is_open}
use Rattle.rules.specs.WellFormed.{well_formed, base_ok, broken}
use Rattle.rules.specs.Answer.{Outcome, InvalidParam, WrongToken, NotOutstanding, OverLength, Busy, BadRecord, BadRegion}
use Rattle.rules.specs.Step.{token_of}
use Rattle.rules.specs.Calls.{fits, same_list, add, pop_used, should_notify, set_dev_notify}
use Rattle.rules.specs.New.{lends}

-- a buffer that is held: its token, and so many bytes
abbrev pub holds : ℕ → ℕ → Option Held
holds t l = Some (record { token = t; len = l })

-- The record: the queue, the store's address, the size of a buffer, and what the caller holds.
pub record Owning : Type 0 where
  pub queue : Queue
  pub base : ℕ
  pub size : ℕ
  pub held : Option Held

-- The part of the store that a call hands back: none, or so many bytes from an offset on; and its bytes.
pub data View : Type 0 where
  no_view : View
  part : ℕ → ℕ → View

abbrev pub shown : View → List ℕ → List ℕ
shown no_view s = []
shown (part from count) s = take count (drop from s)

-- the part that the held bytes are, where a buffer has this size: the first of their token's buffer
abbrev pub held_part : Option Held → ℕ → View
held_part None size = no_view
held_part (Some h) size = part (h.token * size) h.len

pub record Owned : Type 0 where
  pub answer : ℕ
  pub value : ℕ
  pub view : View
  pub owning : Owning
  pub memory : Memory
  pub store : List ℕ

-- ---- well formed

-- the buffer of token i, which the device writes
abbrev pub own_buffer : ℕ → ℕ → ℕ → Buffer
own_buffer base size i = record { addr = base + i * size; len = size; output = true }

abbrev pub size_allowed : ℕ → Bool
size_allowed size = leb 1 size && leb size 1024

abbrev pub holds_none : Option Held → Bool
holds_none None = true
holds_none (Some h) = false

module _ (o : Owning) where
  abbrev pub own_list : ℕ → List Buffer
  own_list i = own_buffer o.base o.size i ∷ []

  -- a chain that is out consists of the buffer that belongs to its token
  abbrev pub own_clause : Bool
  own_clause =
      every (λ h. not (outstanding o.queue h) || same_list (buffers_of o.queue h) (own_list h)) o.queue.n 0

  -- all are outstanding but the held one, whose length is within the size
  abbrev pub held_clause : Option Held → Bool
  held_clause None = every (outstanding o.queue) o.queue.n 0
  held_clause (Some b) =
      ltb b.token o.queue.n
      && (not (outstanding o.queue b.token)
      && (every (λ h. eqb h b.token || outstanding o.queue h) o.queue.n 0 && leb b.len o.size))

  -- base and size are allowed
  abbrev pub placed_clause : Bool
  placed_clause = base_ok o.base (o.queue.n * o.size) && size_allowed o.size

  abbrev pub own_tests : List Test
  own_tests =
      (11 when is_open o.queue.call)
      ∷ (12 when not placed_clause)
      ∷ (13 when not own_clause)
      ∷ (14 when not (held_clause o.held))
      ∷ []

  -- the number of the first broken clause: the queue's own are 1 to 10
  unfoldable pub own_broken : ℕ
  own_broken = cond (well_formed o.queue) (first own_tests) (broken o.queue)

  unfoldable pub own_well_formed : Bool
  own_well_formed = eqb own_broken 0

-- ---- new

-- the tests in 01's order, where it is told whether the lent memory and the store do
abbrev pub own_new_tests : Queue → ℕ → Bool → List Test
own_new_tests q size fit =
    (BadRecord when not (well_formed q))
    ∷ (BadRegion when not fit)
    ∷ (Busy when is_open q.call)
    ∷ (InvalidParam when not (size_allowed size && same (free_list q) (rising q.n 0)))
    ∷ []

abbrev pub own_new_refusal : Queue → ℕ → ℕ → Memory → List ℕ → ℕ
own_new_refusal q base size m s = first (own_new_tests q size (fits q m && lends base (q.n * size) (length s)))

-- the k buffers from i on are added, each by itself
unfoldable pub add_own : ℕ → ℕ → ℕ → ℕ → Queue → Memory → Outcome
add_own base size zero i q m = record { answer = 0; value = 0; steps = 0; queue = q; memory = m }
add_own base size (suc k) i q m =
    let o : Outcome = add q m (own_buffer base size i ∷ []) in
    add_own base size k (suc i) o.queue o.memory

abbrev pub own_made : Queue → ℕ → ℕ → Memory → List ℕ → Owned
own_made q base size m s =
    let o : Outcome = add_own base size q.n 0 q m in
    record {
      answer = 0;
      value = 0;
      view = no_view;
      owning = record { queue = o.queue; base = base; size = size; held = None };
      memory = o.memory;
      store = sets s 0 (replicate (q.n * size) 0);
    }

abbrev pub own_not_made : ℕ → Queue → Memory → List ℕ → Owned
own_not_made number q m s = record {
  answer = number;
  value = 0;
  view = no_view;
  owning = record { queue = q; base = 0; size = 0; held = None };
  memory = m;
  store = s;
}

unfoldable pub own_new : Queue → ℕ → ℕ → Memory → List ℕ → Owned
own_new q base size m s =
    let r : ℕ = own_new_refusal q base size m s in
    cond (eqb r 0) (own_made q base size m s) (own_not_made r q m s)

-- ---- poll and release

module _ (o : Owning) where
  -- the store has room for all buffers
  abbrev pub store_fits : List ℕ → Bool
  store_fits s = leb (o.queue.n * o.size) (length s)

  -- the regions, the pool if indirect, and the store
  abbrev pub own_fits : Memory → List ℕ → Bool
  own_fits m s = fits o.queue m && store_fits s

  abbrev pub poll_tests : Bool → List Test
  poll_tests fit =
      (BadRecord when not (own_well_formed o)) ∷ (BadRegion when not fit) ∷ (Busy when not (holds_none o.held)) ∷ []

  abbrev pub poll_refusal : Memory → List ℕ → ℕ
  poll_refusal m s = first (poll_tests (own_fits m s))

  abbrev pub release_tests : Bool → List Test
  release_tests fit =
      (BadRecord when not (own_well_formed o)) ∷ (BadRegion when not fit) ∷ (NotOutstanding when holds_none o.held) ∷ []

  abbrev pub release_refusal : Memory → List ℕ → ℕ
  release_refusal m s = first (release_tests (own_fits m s))

  -- an answer without a view
  abbrev pub plainly : ℕ → ℕ → Queue → Option Held → Memory → List ℕ → Owned
  plainly number v q h m s = record {
    answer = number;
    value = v;
    view = no_view;
    owning = record { queue = q; base = o.base; size = o.size; held = h };
    memory = m;
    store = s;
  }

  abbrev pub own_refused : ℕ → Memory → List ℕ → Owned
  own_refused number m s = plainly number 0 o.queue o.held m s

  -- the popped buffer of token t is held and shown, as many bytes as the device reported
  abbrev pub showing : Outcome → ℕ → List ℕ → Owned
  showing p t s = record {
    answer = 0;
    value = t;
    view = part (t * o.size) p.value;
    owning = record { queue = p.queue; base = o.base; size = o.size; held = holds t p.value };
    memory = p.memory;
    store = s;
  }

  -- an answer of the queue, as it is
  abbrev pub passed : Outcome → List ℕ → Owned
  passed p s = plainly p.answer p.value p.queue o.held p.memory s

  -- so, or, where the device reported more than the size, added again; a pop that is refused, since the device wrote after the look, is answered as it is
  abbrev pub poll_popped : Outcome → ℕ → List ℕ → Owned
  poll_popped p t s =
      let again : Outcome = add p.queue p.memory (own_list o t) in
      cond (eqb p.answer 0)
      (cond (leb p.value o.size) (showing p t s) (plainly OverLength 0 again.queue None again.memory s))
      (passed p s)

  -- the waiting element names token t
  abbrev pub poll_token : ℕ → Memory → List ℕ → Owned
  poll_token t m s =
      cond (ltb t o.queue.n) (poll_popped (pop_used o.queue m t (own_list o t)) t s) (own_refused WrongToken m s)

  abbrev pub poll_ready : Memory → List ℕ → Owned
  poll_ready m s =
      let q : Queue = o.queue in
      let idx : ℕ = load_at (spot q.modes.legacy q.n used_idx) m in
      let id : ℕ = load_at (spot q.modes.legacy q.n (used_id (q.counts.last % q.n))) m in
      cond (eqb idx q.counts.last) (own_refused 0 m s) (poll_token (token_of id) m s)

  unfoldable pub poll : Memory → List ℕ → Owned
  poll m s = cond (eqb (poll_refusal m s) 0) (poll_ready m s) (own_refused (poll_refusal m s) m s)

  -- release adds the held buffer again, under the same token
  abbrev pub released : Option Held → Memory → List ℕ → Owned
  released None m s = own_refused NotOutstanding m s
  released (Some h) m s =
      let p : Outcome = add o.queue m (own_list o h.token) in
      plainly p.answer p.value p.queue None p.memory s

  unfoldable pub release : Memory → List ℕ → Owned
  release m s = cond (eqb (release_refusal m s) 0) (released o.held m s) (own_refused (release_refusal m s) m s)

  -- ---- what passes through: a well-formed record's question or order goes to the queue as it is, with no store

  unfoldable pub own_should_notify : Memory → List ℕ → Owned
  own_should_notify m s = cond (own_well_formed o) (passed (should_notify o.queue m) s) (own_refused BadRecord m s)

  unfoldable pub own_set_dev_notify : Memory → List ℕ → Bool → Owned
  own_set_dev_notify m s wanted =
      cond (own_well_formed o) (passed (set_dev_notify o.queue m wanted) s) (own_refused BadRecord m s)

  -- ---- the view: the held bytes, none where the record is not well formed or the store is too short

  unfoldable pub own_view : List ℕ → List ℕ
  own_view s = cond (own_well_formed o && store_fits s) (shown (held_part o.held o.size) s) []
