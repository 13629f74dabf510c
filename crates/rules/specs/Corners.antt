-- Corners of the queue's calls, tried: refusals by each of their grounds, links and slots other than the first, modes that change what a call stores,
-- and what a pop clears. One statement for each list.
use Rattle.std.specs.Prelude.{◌≡◌, refl, Bool, true, false, List, [], ◌∷◌, ◌++◌, ℕ, ◌+◌, get_or, take, drop, replicate}
use Rattle.virtio.specs.declared.Buffer.{Buffer}
use Rattle.virtio.specs.Desc.{no_buffer}
use Rattle.virtio.specs.Memory.{Memory, used_flags, used_idx, avail_event, used_id, used_len}
use Rattle.rules.specs.declared.Modes.{Modes}
use Rattle.rules.specs.Record.{Queue, desc_of, next_of, noted_of}
use Rattle.rules.specs.WellFormed.{broken}
use Rattle.rules.specs.Answer.{Outcome}
use Rattle.rules.specs.Calls.{peek_used, can_pop, should_notify, set_dev_notify, available_desc}
use Rattle.rules.specs.Computing.{computing}
use Rattle.rules.specs.Cases.{Case, agree, State, plain, lists, events, four, made, left, at, stores, gives, buffer, buffers, adding, popping, add1, add2, add3, add4, said}
use Rattle.rules.specs.NewCorners.{nines, zeros, listed}

-- ---- add, pop and peek

-- a call that takes a record and a memory, made on a state
abbrev pub on : (Queue → Memory → Outcome) → State → Outcome
on call s = call s.queue s.memory

-- lent other regions
abbrev lent : ℕ → ℕ → ℕ → State → State
lent one two pool s = record { queue = s.queue; memory = nines one two pool }

abbrev pub input : ℕ → Buffer
input i = record { addr = i; len = 16; output = false }

abbrev pub sized : ℕ → ℕ → Buffer
sized i len = record { addr = i; len = len; output = true }

-- buffers 7 and 8 were added, an input and an output, direct and as a list; the device gave them back
abbrev mixed : List Buffer
mixed = input 7 ∷ buffer 8 ∷ []

abbrev returned : Modes → State
returned o = gives 0 16 (left (adding mixed (made (four o))))

abbrev answers : Modes → List Buffer → Case
answers o bs =
    record { got = (popping 0 bs (returned o)).answer ∷ (popping 0 bs (returned o)).steps ∷ []; want = 9 ∷ 3 ∷ [] }

-- an add where the indices stand at 5, over 9s
abbrev later : Outcome
later = adding (buffer 0 ∷ []) (lent 78 38 0 (at 5 5 (made (four plain))))

-- three single adds, the second of them popped; a chain of two popped while another is out
abbrev middle : Outcome
middle = popping 1 (buffer 1 ∷ []) (gives 1 16 (left add3))

abbrev longer : Outcome
longer = popping 0 mixed (gives 0 16 (left (adding (buffer 9 ∷ []) (left (adding mixed (made (four plain)))))))

-- two lists in a queue of size 4; the second popped; two in a queue of size 2, which fill it
abbrev second : Outcome
second = adding mixed (left (adding (buffers 3) (made (four lists))))

abbrev unlisted : Outcome
unlisted = popping 1 mixed (gives 1 16 (left second))

abbrev crowded : State
crowded = left (adding mixed (left (adding mixed (made listed))))

-- addresses and lengths of two private list entries
abbrev kept_at : ℕ → State → List ℕ
kept_at i s =
    let a : Buffer = get_or s.queue.tables.kept i no_buffer in
    let b : Buffer = get_or s.queue.tables.kept (i + 1) no_buffer in
    a.addr ∷ a.len ∷ b.addr ∷ b.len ∷ []

abbrev eventful : State
eventful = gives 0 16 (left (adding (buffers 2) (made (four events))))

-- the device has overwritten the pool
abbrev scribbled : State → State
scribbled s = record { queue = s.queue; memory = record { one = s.memory.one; two = s.memory.two; pool = replicate 256 9 } }

abbrev pub add_corners : List Case
add_corners =
    -- 1: an input after an output, at once or later
    record { got = said (adding (buffer 0 ∷ input 1 ∷ []) (made (four plain))); want = 1 ∷ 0 ∷ [] }
    ∷ record { got = said (adding (input 0 ∷ buffer 1 ∷ buffer 2 ∷ input 3 ∷ []) (made (four lists))); want = 1 ∷ 0 ∷ [] }
    ∷ record { got = said (adding (input 0 ∷ input 1 ∷ buffer 2 ∷ buffer 3 ∷ []) (made (four plain))); want = 0 ∷ 0 ∷ [] }
    -- 2: all heads used, where one buffer is asked for, and a list; too few descriptors; with lists one free head is enough
    ∷ record { got = said (adding (buffer 0 ∷ []) crowded); want = 2 ∷ 0 ∷ [] }
    ∷ record { got = said (adding mixed crowded); want = 2 ∷ 0 ∷ [] }
    ∷ record { got = said (adding mixed (left add3)); want = 2 ∷ 0 ∷ [] }
    ∷ record { got = said (adding mixed (left add2)); want = 0 ∷ 2 ∷ [] }
    ∷ record { got = said second; want = 0 ∷ 1 ∷ [] }
    -- 7: an empty buffer behind others
    ∷ record { got = said (adding (buffer 0 ∷ sized 1 0 ∷ []) (made (four plain))); want = 7 ∷ 0 ∷ [] }
    -- 13 by each region, one byte short; the pool only with lists
    ∷ record { got = said (adding mixed (lent 78 38 0 (made (four plain)))); want = 0 ∷ 0 ∷ [] }
    ∷ record { got = said (adding mixed (lent 78 37 0 (made (four plain)))); want = 13 ∷ 0 ∷ [] }
    ∷ record { got = said (adding mixed (lent 77 38 0 (made (four plain)))); want = 13 ∷ 0 ∷ [] }
    ∷ record { got = said (adding mixed (lent 78 38 256 (made (four lists)))); want = 0 ∷ 0 ∷ [] }
    ∷ record { got = said (adding mixed (lent 78 38 255 (made (four lists)))); want = 13 ∷ 0 ∷ [] }
    -- the second list: descriptor 1 refers to slot 1, 64 bytes behind the pool's base; its entries lie there, and the first list stays
    ∷ record { got = take 16 (drop 16 second.memory.one); want = 64 ∷ 32 ∷ 0 ∷ 0 ∷ 0 ∷ 0 ∷ 0 ∷ 0 ∷ 32 ∷ 0 ∷ 0 ∷ 0 ∷ 4 ∷ 0 ∷ 2 ∷ 0 ∷ [] }
    ∷ record { got = take 16 (drop 64 second.memory.pool); want = 7 ∷ 0 ∷ 0 ∷ 0 ∷ 0 ∷ 0 ∷ 0 ∷ 0 ∷ 16 ∷ 0 ∷ 0 ∷ 0 ∷ 1 ∷ 0 ∷ 1 ∷ 0 ∷ [] }
    ∷ record { got = take 16 (drop 80 second.memory.pool); want = 8 ∷ 0 ∷ 0 ∷ 0 ∷ 0 ∷ 0 ∷ 0 ∷ 0 ∷ 16 ∷ 0 ∷ 0 ∷ 0 ∷ 2 ∷ 0 ∷ 2 ∷ 0 ∷ [] }
    ∷ record { got = take 16 second.memory.pool; want = 2 ∷ 0 ∷ 0 ∷ 0 ∷ 0 ∷ 0 ∷ 0 ∷ 0 ∷ 16 ∷ 0 ∷ 0 ∷ 0 ∷ 3 ∷ 0 ∷ 1 ∷ 0 ∷ [] }
    -- the ring's second slot, and idx
    ∷ record { got = take 6 (drop 66 second.memory.one); want = 2 ∷ 0 ∷ 0 ∷ 0 ∷ 1 ∷ 0 ∷ [] }
    ∷ record { got = take 6 (drop 66 later.memory.one); want = 6 ∷ 0 ∷ 9 ∷ 9 ∷ 0 ∷ 0 ∷ [] }
    ∷ record { got = broken second.queue ∷ broken crowded.queue ∷ []; want = 0 ∷ 0 ∷ [] }
    ∷ []

pub add_corners_hold : agree add_corners ≡ true
unfolding computing four agree
add_corners_hold = refl

abbrev pub pop_corners : List Case
pop_corners =
    -- 9 by count, address, length and side, of a chain and of a list
    answers plain (input 7 ∷ [])
    ∷ answers plain (input 7 ∷ buffer 8 ∷ buffer 9 ∷ [])
    ∷ answers plain (input 7 ∷ buffer 9 ∷ [])
    ∷ answers plain (input 7 ∷ sized 8 17 ∷ [])
    ∷ answers plain (buffer 7 ∷ buffer 8 ∷ [])
    ∷ answers lists (input 7 ∷ [])
    ∷ answers lists (input 7 ∷ buffer 8 ∷ buffer 9 ∷ [])
    ∷ answers lists (input 7 ∷ buffer 9 ∷ [])
    ∷ answers lists (input 7 ∷ sized 8 17 ∷ [])
    ∷ answers lists (buffer 7 ∷ buffer 8 ∷ [])
    ∷ record { got = said (popping 0 mixed (returned plain)) ++ said (popping 0 mixed (returned lists)); want = 0 ∷ 16 ∷ 0 ∷ 16 ∷ [] }
    -- the list is compared with the private copy: what the device writes to the pool changes nothing
    ∷ record { got = said (popping 0 mixed (scribbled (returned lists))); want = 0 ∷ 16 ∷ [] }
    -- 4: the id wraps, the token does not
    ∷ record { got = said (popping 65539 (buffer 3 ∷ []) (gives 3 16 (left add4))); want = 4 ∷ 0 ∷ [] }
    ∷ record { got = said (popping 65539 (buffer 3 ∷ []) (gives 65539 16 (left add4))); want = 4 ∷ 0 ∷ [] }
    -- the element at last_used_idx mod N
    ∷ record { got = said (on peek_used (stores used_idx 6 (stores (used_id 1) 3 (at 5 5 (made (four plain)))))); want = 0 ∷ 3 ∷ [] }
    ∷ record { got = said (popping 0 (buffer 0 ∷ []) (stores used_idx 6 (stores (used_len 1) 21 (stores (used_id 1) 0 (left later))))); want = 0 ∷ 21 ∷ [] }
    -- 8: a token inside a chain heads none
    ∷ record { got = said (popping 1 mixed (gives 1 16 (returned plain))); want = 8 ∷ 0 ∷ [] }
    -- peek answers the id mod 65,536
    ∷ record { got = said (on peek_used (gives 65539 16 (left add4))); want = 0 ∷ 3 ∷ [] }
    -- a pop's last descriptor links to the old free_head, in the record and in memory, with its flags kept
    ∷ record { got = middle.queue.counts.free ∷ next_of middle.queue 1 ∷ broken middle.queue ∷ []; want = 1 ∷ 3 ∷ 0 ∷ [] }
    ∷ record { got = take 16 (drop 16 middle.memory.one); want = zeros 12 ++ (2 ∷ 0 ∷ 3 ∷ 0 ∷ []) }
    ∷ record { got = next_of longer.queue 0 ∷ next_of longer.queue 1 ∷ broken longer.queue ∷ []; want = 1 ∷ 3 ∷ 0 ∷ [] }
    ∷ record { got = take 16 (drop 16 longer.memory.one); want = zeros 12 ++ (2 ∷ 0 ∷ 3 ∷ 0 ∷ []) }
    -- a list's pop: head and private list are cleared in the record, and nothing in the table
    ∷ record { got = kept_at 4 (left second) ++ kept_at 4 (left unlisted); want = 7 ∷ 16 ∷ 8 ∷ 16 ∷ 0 ∷ 0 ∷ 0 ∷ 0 ∷ [] }
    ∷ record { got = kept_at 0 (left unlisted); want = 2 ∷ 16 ∷ 1 ∷ 16 ∷ [] }
    ∷ record { got = (desc_of unlisted.queue 1).addr ∷ (desc_of unlisted.queue 1).len ∷ noted_of unlisted.queue 1 ∷ broken unlisted.queue ∷ []; want = 0 ∷ 0 ∷ 0 ∷ 0 ∷ [] }
    ∷ record { got = take 2 (drop 16 unlisted.memory.one); want = 64 ∷ 32 ∷ [] }
    -- a refusal at a load closes the pop, and the element waits
    ∷ record { got = said (on can_pop (left (popping 0 [] (returned plain)))) ++ said (on can_pop (left (popping 1 [] (returned plain)))); want = 0 ∷ 1 ∷ 0 ∷ 1 ∷ [] }
    -- used_event is the new last_used_idx, and not touched without event_idx
    ∷ record { got = take 2 (drop 76 (popping 0 (buffers 2) eventful).memory.one); want = 1 ∷ 0 ∷ [] }
    ∷ record { got = take 2 (drop 76 middle.memory.one); want = 0 ∷ 0 ∷ [] }
    ∷ record { got = (popping 0 (buffers 2) eventful).steps ∷ middle.steps ∷ []; want = 6 ∷ 4 ∷ [] }
    ∷ []

pub pop_corners_hold : agree pop_corners ≡ true
unfolding computing four agree
pop_corners_hold = refl

-- ---- calls of a single step

abbrev setting : Bool → Modes → Outcome
setting wanted o = set_dev_notify (four o).queue (nines 78 38 256) wanted

-- the bytes of the available ring's flags, and the steps
abbrev flagged : Outcome → List ℕ
flagged o = take 2 (drop 64 o.memory.one) ++ (o.steps ∷ [])

abbrev pub single_corners : List Case
single_corners =
    -- set_dev_notify stores 0 or 1, and nothing with event_idx
    record { got = flagged (setting true plain); want = 0 ∷ 0 ∷ 1 ∷ [] }
    ∷ record { got = flagged (setting false plain); want = 1 ∷ 0 ∷ 1 ∷ [] }
    ∷ record { got = flagged (setting true events); want = 9 ∷ 9 ∷ 0 ∷ [] }
    ∷ record { got = flagged (setting false events); want = 9 ∷ 9 ∷ 0 ∷ [] }
    -- available_desc: what is free; with lists all, as long as one is
    ∷ record { got = said (on available_desc (left add3)); want = 0 ∷ 1 ∷ [] }
    ∷ record { got = said (on available_desc (left second)); want = 0 ∷ 4 ∷ [] }
    ∷ record { got = said (on available_desc crowded); want = 0 ∷ 0 ∷ [] }
    -- can_pop
    ∷ record { got = said (on can_pop (left add1)) ++ said (on can_pop (gives 0 16 (left add1))); want = 0 ∷ 0 ∷ 0 ∷ 1 ∷ [] }
    -- should_notify: bit 0 of the used flags, or with event_idx not these
    ∷ record { got = said (on should_notify (stores used_flags 1 (made (four plain)))); want = 0 ∷ 0 ∷ [] }
    ∷ record { got = said (on should_notify (stores used_flags 2 (made (four plain)))); want = 0 ∷ 1 ∷ [] }
    ∷ record { got = said (on should_notify (stores used_flags 1 (stores avail_event 65535 (made (four events))))); want = 0 ∷ 1 ∷ [] }
    -- 13 by the pool, which none of them reads
    ∷ record { got = said (on can_pop (lent 78 38 255 (made (four lists)))); want = 13 ∷ 0 ∷ [] }
    ∷ record { got = said (on available_desc (lent 0 0 0 (made (four lists)))); want = 0 ∷ 4 ∷ [] }
    ∷ []

pub single_corners_hold : agree single_corners ≡ true
unfolding computing four agree
single_corners_hold = refl
