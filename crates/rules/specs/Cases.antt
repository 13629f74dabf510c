-- The cases that document 01 marks P ("Replays", last paragraph), in one list with one theorem over it. A case is what the rules give, as numbers,
-- and what 01 says.
use Rattle.std.specs.Prelude.{◌≡◌, refl, Bool, true, false, ◌&&◌, List, [], ◌∷◌, ℕ, zero, suc, replicate}
use Rattle.lists.specs.Pick.{same}
use Rattle.virtio.specs.declared.Buffer.{Buffer}
use Rattle.virtio.specs.Memory.{Memory, Place, used_idx, used_id, used_len, avail_idx, avail_event, spot, load_at, store_at}
use Rattle.rules.specs.declared.Modes.{Modes}
use Rattle.rules.specs.Record.{Queue, with_counts, free_count}
use Rattle.rules.specs.Answer.{Outcome}
use Rattle.rules.specs.Calls.{add, pop_used, should_notify}
use Rattle.rules.specs.New.{Made, new}
use Rattle.rules.specs.Computing.{computing}

-- ---- queues of size 4, flexible, over regions that hold just what they need

abbrev pub plain : Modes
plain = record { indirect = false; event_idx = false; legacy = false }

abbrev pub lists : Modes
lists = record { indirect = true; event_idx = false; legacy = false }

abbrev pub events : Modes
events = record { indirect = false; event_idx = true; legacy = false }

unfoldable pub four : Modes → Made
four o =
    new (record { n = 4; in_use = false; most = 4; modes = o; base_one = 0; base_two = 4096; base_pool = 8192 })
    (record { one = replicate 78 0; two = replicate 38 0; pool = replicate 256 0 })

-- a call is made on what another left
abbrev pub State : Type 0
State = record { queue : Queue; memory : Memory }

abbrev pub made : Made → State
made r = record { queue = r.queue; memory = r.memory }

abbrev pub left : Outcome → State
left o = record { queue = o.queue; memory = o.memory }

-- a buffer of 16 bytes at an address that tells it apart, as an output; k of them
abbrev pub buffer : ℕ → Buffer
buffer i = record { addr = i; len = 16; output = true }

abbrev pub buffers : ℕ → List Buffer
buffers zero = []
buffers (suc k) = buffer k ∷ buffers k

abbrev pub adding : List Buffer → State → Outcome
adding bs s = add s.queue s.memory bs

abbrev pub popping : ℕ → List Buffer → State → Outcome
popping t bs s = pop_used s.queue s.memory t bs

-- the indices set to a and b
abbrev pub at : ℕ → ℕ → State → State
at a b s =
    record { queue = with_counts s.queue (record { used = s.queue.counts.used; free = s.queue.counts.free; avail = a; last = b }); memory = s.memory }

-- the device stores a number
abbrev pub stores : Place → ℕ → State → State
stores p v s = record { queue = s.queue; memory = store_at (spot s.queue.modes.legacy s.queue.n p) v s.memory }

-- the device gives back the element (id, len), as the first of all
abbrev pub gives : ℕ → ℕ → State → State
gives id len s = stores used_idx 1 (stores (used_len 0) len (stores (used_id 0) id s))

-- ---- the cases

pub record Case : Type 0 where
  pub got : List ℕ
  pub want : List ℕ

-- one, two, .. single adds to a fresh queue of size 4
abbrev pub add1 : Outcome
add1 = adding (buffer 0 ∷ []) (made (four plain))

abbrev pub add2 : Outcome
add2 = adding (buffer 1 ∷ []) (left add1)

abbrev pub add3 : Outcome
add3 = adding (buffer 2 ∷ []) (left add2)

abbrev pub add4 : Outcome
add4 = adding (buffer 3 ∷ []) (left add3)

-- what an outcome says: answer, value
abbrev pub said : Outcome → List ℕ
said o = o.answer ∷ o.value ∷ []

-- the device's element for token 2 is popped
abbrev pub pop2 : Outcome
pop2 = popping 2 (buffer 2 ∷ []) (gives 2 16 (left add4))

-- an indirect add
abbrev pub list4 : Outcome
list4 = adding (buffers 4) (made (four lists))

-- the index 65,535 counts on
abbrev pub wrapped : Outcome
wrapped = adding (buffer 0 ∷ []) (at 65535 65535 (made (four plain)))

abbrev pub notify : ℕ → ℕ → Outcome
notify avail event =
    let s : State = stores avail_event event (at avail avail (made (four events))) in
    should_notify s.queue s.memory

abbrev pub cases : List Case
cases =
    -- no buffers: 1
    record { got = said (adding [] (made (four plain))); want = 1 ∷ 0 ∷ [] }
    -- four single adds: tokens 0, 1, 2, 3, free_head 0; a fifth: 2
    ∷ record { got = add1.value ∷ add2.value ∷ add3.value ∷ add4.value ∷ add4.answer ∷ add4.queue.counts.free ∷ []; want = 0 ∷ 1 ∷ 2 ∷ 3 ∷ 0 ∷ 0 ∷ [] }
    ∷ record { got = said (adding (buffer 4 ∷ []) (left add4)); want = 2 ∷ 0 ∷ [] }
    -- then token 2 popped: free_head 2, one free
    ∷ record { got = pop2.answer ∷ pop2.queue.counts.free ∷ free_count pop2.queue ∷ []; want = 0 ∷ 2 ∷ 1 ∷ [] }
    -- indirect: four buffers taken, one descriptor used; five: 2
    ∷ record { got = list4.answer ∷ list4.queue.counts.used ∷ []; want = 0 ∷ 1 ∷ [] }
    ∷ record { got = said (adding (buffers 5) (made (four lists))); want = 2 ∷ 0 ∷ [] }
    -- id 65,539 with token 3 outstanding: popped
    ∷ record { got = said (popping 3 (buffer 3 ∷ []) (gives 65539 16 (left add4))); want = 0 ∷ 16 ∷ [] }
    -- avail_idx 65,535 and one: 0, in the record and in memory
    ∷ record { got = wrapped.answer ∷ wrapped.queue.counts.avail ∷ load_at (spot false 4 avail_idx) wrapped.memory ∷ []; want = 0 ∷ 0 ∷ 0 ∷ [] }
    -- event_idx: avail_idx 2, avail_event 65,534: no; 0 and 65,535: yes
    ∷ record { got = said (notify 2 65534); want = 0 ∷ 0 ∷ [] }
    ∷ record { got = said (notify 0 65535); want = 0 ∷ 1 ∷ [] }
    -- idx moved with nothing outstanding, id 0, token 0: 8
    ∷ record { got = said (popping 0 (buffer 0 ∷ []) (gives 0 16 (made (four plain)))); want = 8 ∷ 0 ∷ [] }
    ∷ []

unfoldable pub agree : List Case → Bool
agree [] = true
agree (c ∷ cs) = same c.got c.want && agree cs

-- THE STATEMENT: in every case the rules give what 01 says
pub cases_hold : agree cases ≡ true
unfolding computing four agree
cases_hold = refl
