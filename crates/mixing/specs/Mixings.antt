-- Mixings of a queue of size 2: where each ends, and the order of whole calls and whole acts that explains it, that of last events. That this is so is
-- computed in proofs/Mixings. They try the statement, and show that it is not empty: calls and acts of each kind are open across steps of the other side.
use Rattle.std.specs.Prelude.{true, false, List, [], ◌∷◌, ◌++◌, ℕ, replicate}
use Rattle.virtio.specs.declared.Desc.{Desc}
use Rattle.virtio.specs.declared.Buffer.{Buffer}
use Rattle.virtio.specs.Desc.{no_desc, no_buffer}
use Rattle.virtio.specs.Memory.{Memory}
use Rattle.rules.specs.declared.Modes.{Modes}
use Rattle.rules.specs.declared.Open.TheVariants.{Idle}
use Rattle.rules.specs.Record.{Queue, Counts}
use Rattle.rules.specs.New.{Ask, new}
use Rattle.mixing.specs.Device.{take_next, complete, set_used_flags, set_avail_event, see_avail_flags, see_used_event}
use Rattle.mixing.specs.Device.{none_available, not_taken, completed, stored, took, saw, Device, resting}
use Rattle.mixing.specs.Mix.{add, pop_used_call, peek_used_call, can_pop_call, should_notify_call, available_desc_call, set_dev_notify_call}
use Rattle.mixing.specs.Mix.{Event, call, step, act, tick, Answer, Trace, trace}
use Rattle.mixing.specs.Demand.{Whole, whole_call, whole_act, in_turn, start, wiring}

-- ---- the queue, and how an end is written

abbrev pub direct : Modes
direct = record { indirect = false; event_idx = false; legacy = false }

abbrev pub lists_events : Modes
lists_events = record { indirect = true; event_idx = true; legacy = false }

abbrev pub ask : Modes → Ask
ask o = record { n = 2; in_use = false; most = 2; modes = o; base_one = 0; base_two = 4096; base_pool = 8192 }

abbrev pub lent : Memory
lent = record { one = replicate 42 0; two = replicate 22 0; pool = replicate 64 0 }

abbrev pub run : Modes → List Event → Trace
run o es = trace (wiring (ask o)) es (start (new (ask o) lent))

abbrev pub turns : Modes → List Whole → Trace
turns o ws = run o (in_turn 2 ws)

abbrev pub input : Buffer
input = record { addr = 4096; len = 10; output = false }

abbrev pub output : Buffer
output = record { addr = 8192; len = 20; output = true }

abbrev pub says : ℕ → ℕ → ℕ → Answer
says number v steps = record { number = number; value = v; steps = steps }

abbrev pub link : ℕ → ℕ → ℕ → ℕ → Desc
link a l f x = record { addr = a; len = l; flags = f; next = x }

abbrev pub counted : ℕ → ℕ → ℕ → ℕ → Counts
counted used free avail last = record { used = used; free = free; avail = avail; last = last }

-- the record with these two descriptors in its shadow table, these lengths noted, and these list entries kept, and no call open
abbrev pub rests : Modes → ℕ → Counts → Desc → Desc → ℕ → ℕ → List Buffer → Queue
rests o base c d₀ d₁ n₀ n₁ bs = record {
  n = 2;
  modes = o;
  base = base;
  counts = c;
  tables = record { shadow = d₀ ∷ d₁ ∷ replicate 62 no_desc; noted = n₀ ∷ n₁ ∷ replicate 62 0; kept = bs ++ replicate 4092 no_buffer };
  call = Idle;
}

abbrev pub idle : ℕ → ℕ → List ℕ → Device
idle taken used holds = record { taken = taken; used = used; holds = holds; doing = resting }

-- ---- between

-- A take that finds nothing while an add is open; a call refused as Busy, left aside; a take across which the driver asks should_notify; a pop that
-- looks between the stores of a complete; and another that is open when the used flags change.
abbrev pub between : List Event
between =
    call (add (input ∷ output ∷ [])) ∷ step ∷ act take_next ∷ tick ∷ step ∷ call can_pop_call ∷ step ∷ step ∷ step ∷ act take_next ∷ tick ∷ call should_notify_call
    ∷ tick ∷ tick ∷ tick ∷ act (complete 0 20) ∷ tick ∷ call (pop_used_call 0 (input ∷ output ∷ [])) ∷ step ∷ tick
    ∷ call (pop_used_call 0 (input ∷ output ∷ [])) ∷ tick ∷ step ∷ step ∷ act (set_used_flags 1) ∷ step ∷ step ∷ step ∷ []

abbrev pub between_order : List Whole
between_order =
    whole_act take_next ∷ whole_call (add (input ∷ output ∷ [])) ∷ whole_call should_notify_call ∷ whole_act take_next
    ∷ whole_call (pop_used_call 0 (input ∷ output ∷ [])) ∷ whole_act (complete 0 20) ∷ whole_act (set_used_flags 1)
    ∷ whole_call (pop_used_call 0 (input ∷ output ∷ [])) ∷ []

abbrev pub between_end : Trace
between_end = record {
  queue = rests direct 0 (counted 0 0 1 1) (link 0 0 1 1) (link 0 0 2 0) 0 0 (no_buffer ∷ no_buffer ∷ no_buffer ∷ no_buffer ∷ []);
  memory = record {
    one = 0 ∷ 0 ∷ 0 ∷ 0 ∷ 0 ∷ 0 ∷ 0 ∷ 0 ∷ 0 ∷ 0 ∷ 0 ∷ 0 ∷ 1 ∷ 0 ∷ 1 ∷ 0 ∷ 0 ∷ 0 ∷ 0 ∷ 0 ∷ 0 ∷ 0 ∷ 0 ∷ 0 ∷ 0 ∷ 0 ∷ 0 ∷ 0 ∷ 2 ∷ 0 ∷ 0 ∷ 0 ∷ 0 ∷ 0 ∷ 1 ∷ 0 ∷ 0 ∷ 0 ∷ 0 ∷ 0 ∷ 0 ∷ 0 ∷ [];
    two = 1 ∷ 0 ∷ 1 ∷ 0 ∷ 0 ∷ 0 ∷ 0 ∷ 0 ∷ 20 ∷ replicate 13 0;
    pool = replicate 64 0;
  };
  device = idle 1 1 [];
  made = 5;
  calls = add (input ∷ output ∷ []) ∷ should_notify_call ∷ pop_used_call 0 (input ∷ output ∷ []) ∷ pop_used_call 0 (input ∷ output ∷ []) ∷ [];
  answers = says 0 0 5 ∷ says 0 1 1 ∷ says 3 0 1 ∷ says 0 20 5 ∷ [];
  acts = take_next ∷ take_next ∷ complete 0 20 ∷ set_used_flags 1 ∷ [];
  results = none_available ∷ took 0 (input ∷ output ∷ []) ∷ completed ∷ stored ∷ [];
}

-- ---- reordered

-- Two chains, completed in the other order: the pop of token 0 finds token 1's element. A peek is open across a complete, and so is a pop.
abbrev pub reordered : List Event
reordered =
    call (add (input ∷ [])) ∷ step ∷ step ∷ step ∷ act take_next ∷ tick ∷ step ∷ call (add (output ∷ [])) ∷ step ∷ step ∷ act take_next ∷ tick ∷ tick ∷ step
    ∷ step ∷ tick ∷ act take_next ∷ tick ∷ tick ∷ tick ∷ act (complete 1 5) ∷ tick ∷ call peek_used_call ∷ tick ∷ step ∷ tick ∷ call peek_used_call ∷ step ∷ step
    ∷ act (complete 0 0) ∷ tick ∷ call (pop_used_call 0 (input ∷ [])) ∷ step ∷ tick ∷ step ∷ step ∷ tick ∷ call (pop_used_call 1 (output ∷ [])) ∷ step ∷ step
    ∷ step ∷ step ∷ call available_desc_call ∷ []

abbrev pub reordered_order : List Whole
reordered_order =
    whole_act take_next ∷ whole_call (add (input ∷ [])) ∷ whole_call (add (output ∷ [])) ∷ whole_act take_next ∷ whole_act take_next ∷ whole_call peek_used_call
    ∷ whole_act (complete 1 5) ∷ whole_call peek_used_call ∷ whole_call (pop_used_call 0 (input ∷ [])) ∷ whole_act (complete 0 0)
    ∷ whole_call (pop_used_call 1 (output ∷ [])) ∷ whole_call available_desc_call ∷ []

abbrev pub reordered_end : Trace
reordered_end = record {
  queue = rests direct 0 (counted 1 1 2 1) (link 4096 10 0 1) (link 0 0 2 0) 1 0 (no_buffer ∷ no_buffer ∷ no_buffer ∷ no_buffer ∷ []);
  memory = record {
    one = 0 ∷ 16 ∷ 0 ∷ 0 ∷ 0 ∷ 0 ∷ 0 ∷ 0 ∷ 10 ∷ 0 ∷ 0 ∷ 0 ∷ 0 ∷ 0 ∷ 1 ∷ 0 ∷ 0 ∷ 0 ∷ 0 ∷ 0 ∷ 0 ∷ 0 ∷ 0 ∷ 0 ∷ 0 ∷ 0 ∷ 0 ∷ 0 ∷ 2 ∷ 0 ∷ 0 ∷ 0 ∷ 0 ∷ 0 ∷ 2 ∷ 0 ∷ 0 ∷ 0 ∷ 1 ∷ 0 ∷ 0 ∷ 0 ∷ [];
    two = 0 ∷ 0 ∷ 2 ∷ 0 ∷ 1 ∷ 0 ∷ 0 ∷ 0 ∷ 5 ∷ replicate 13 0;
    pool = replicate 64 0;
  };
  device = idle 2 2 [];
  made = 0;
  calls = add (input ∷ []) ∷ add (output ∷ []) ∷ peek_used_call ∷ peek_used_call ∷ pop_used_call 0 (input ∷ []) ∷ pop_used_call 1 (output ∷ []) ∷ available_desc_call ∷ [];
  answers = says 0 0 4 ∷ says 0 1 4 ∷ says 3 0 1 ∷ says 0 1 2 ∷ says 4 0 3 ∷ says 0 5 4 ∷ says 0 1 0 ∷ [];
  acts = take_next ∷ take_next ∷ take_next ∷ complete 1 5 ∷ complete 0 0 ∷ [];
  results = none_available ∷ took 0 (input ∷ []) ∷ took 1 (output ∷ []) ∷ completed ∷ completed ∷ [];
}

-- ---- listed

-- An indirect list, with event indices: the device reads the list while the driver stores the next chain; it looks at used_event while a pop is open,
-- and stores avail_event.
abbrev pub listed : List Event
listed =
    call (add (input ∷ output ∷ [])) ∷ step ∷ step ∷ act take_next ∷ tick ∷ step ∷ step ∷ step ∷ act take_next ∷ tick ∷ tick ∷ tick ∷ call (add (input ∷ []))
    ∷ step ∷ tick ∷ step ∷ tick ∷ act (set_avail_event 1) ∷ step ∷ step ∷ call should_notify_call ∷ act (complete 0 7) ∷ tick ∷ tick
    ∷ call (pop_used_call 0 (input ∷ output ∷ [])) ∷ tick ∷ step ∷ step ∷ act see_used_event ∷ step ∷ act see_used_event ∷ step ∷ act see_used_event
    ∷ call can_pop_call ∷ []

abbrev pub listed_order : List Whole
listed_order =
    whole_act take_next ∷ whole_call (add (input ∷ output ∷ [])) ∷ whole_act take_next ∷ whole_act (set_avail_event 1) ∷ whole_call (add (input ∷ []))
    ∷ whole_call should_notify_call ∷ whole_act (complete 0 7) ∷ whole_act see_used_event ∷ whole_act see_used_event
    ∷ whole_call (pop_used_call 0 (input ∷ output ∷ [])) ∷ whole_act see_used_event ∷ whole_call can_pop_call ∷ []

abbrev pub listed_end : Trace
listed_end = record {
  queue = rests lists_events 8192 (counted 1 0 2 1) (link 0 0 4 0) (link 4096 10 0 0) 0 1 (no_buffer ∷ no_buffer ∷ no_buffer ∷ no_buffer ∷ []);
  memory = record {
    one = 0 ∷ 32 ∷ 0 ∷ 0 ∷ 0 ∷ 0 ∷ 0 ∷ 0 ∷ 32 ∷ 0 ∷ 0 ∷ 0 ∷ 4 ∷ 0 ∷ 1 ∷ 0 ∷ 0 ∷ 16 ∷ 0 ∷ 0 ∷ 0 ∷ 0 ∷ 0 ∷ 0 ∷ 10 ∷ 0 ∷ 0 ∷ 0 ∷ 0 ∷ 0 ∷ 0 ∷ 0 ∷ 0 ∷ 0 ∷ 2 ∷ 0 ∷ 0 ∷ 0 ∷ 1 ∷ 0 ∷ 1 ∷ 0 ∷ [];
    two = 0 ∷ 0 ∷ 1 ∷ 0 ∷ 0 ∷ 0 ∷ 0 ∷ 0 ∷ 7 ∷ 0 ∷ 0 ∷ 0 ∷ 0 ∷ 0 ∷ 0 ∷ 0 ∷ 0 ∷ 0 ∷ 0 ∷ 0 ∷ 1 ∷ 0 ∷ [];
    pool = 0 ∷ 16 ∷ 0 ∷ 0 ∷ 0 ∷ 0 ∷ 0 ∷ 0 ∷ 10 ∷ 0 ∷ 0 ∷ 0 ∷ 1 ∷ 0 ∷ 1 ∷ 0 ∷ 0 ∷ 32 ∷ 0 ∷ 0 ∷ 0 ∷ 0 ∷ 0 ∷ 0 ∷ 20 ∷ 0 ∷ 0 ∷ 0 ∷ 2 ∷ 0 ∷ 2 ∷ replicate 33 0;
  };
  device = idle 1 1 [];
  made = 1;
  calls = add (input ∷ output ∷ []) ∷ add (input ∷ []) ∷ should_notify_call ∷ pop_used_call 0 (input ∷ output ∷ []) ∷ can_pop_call ∷ [];
  answers = says 0 0 5 ∷ says 0 1 4 ∷ says 0 1 1 ∷ says 0 7 4 ∷ says 0 0 1 ∷ [];
  acts = take_next ∷ take_next ∷ set_avail_event 1 ∷ complete 0 7 ∷ see_used_event ∷ see_used_event ∷ see_used_event ∷ [];
  results = none_available ∷ took 0 (input ∷ output ∷ []) ∷ stored ∷ completed ∷ saw 0 ∷ saw 0 ∷ saw 1 ∷ [];
}

-- ---- flagged

-- The driver turns notifications off and on, between the device's looks at the flags; a complete of a chain that was not taken is no act; an act while
-- one is open is not begun.
abbrev pub flagged : List Event
flagged =
    act see_avail_flags ∷ call (set_dev_notify_call false) ∷ act see_avail_flags ∷ call (add (input ∷ [])) ∷ act (complete 0 1) ∷ step ∷ step ∷ act take_next
    ∷ act see_avail_flags ∷ step ∷ call (set_dev_notify_call true) ∷ step ∷ tick ∷ call (set_dev_notify_call true) ∷ tick ∷ tick ∷ act see_avail_flags ∷ []

abbrev pub flagged_order : List Whole
flagged_order =
    whole_act see_avail_flags ∷ whole_call (set_dev_notify_call false) ∷ whole_act see_avail_flags ∷ whole_act (complete 0 1)
    ∷ whole_call (add (input ∷ [])) ∷ whole_call (set_dev_notify_call true) ∷ whole_act take_next ∷ whole_act see_avail_flags ∷ []

abbrev pub flagged_end : Trace
flagged_end = record {
  queue = rests direct 0 (counted 1 1 1 0) (link 4096 10 0 1) (link 0 0 0 0) 1 0 (no_buffer ∷ no_buffer ∷ no_buffer ∷ no_buffer ∷ []);
  memory = record {
    one = 0 ∷ 16 ∷ 0 ∷ 0 ∷ 0 ∷ 0 ∷ 0 ∷ 0 ∷ 10 ∷ 0 ∷ 0 ∷ 0 ∷ 0 ∷ 0 ∷ 1 ∷ 0 ∷ 0 ∷ 0 ∷ 0 ∷ 0 ∷ 0 ∷ 0 ∷ 0 ∷ 0 ∷ 0 ∷ 0 ∷ 0 ∷ 0 ∷ 0 ∷ 0 ∷ 0 ∷ 0 ∷ 0 ∷ 0 ∷ 1 ∷ 0 ∷ 0 ∷ 0 ∷ 0 ∷ 0 ∷ 0 ∷ 0 ∷ [];
    two = replicate 22 0;
    pool = replicate 64 0;
  };
  device = idle 1 0 (0 ∷ []);
  made = 1;
  calls = set_dev_notify_call false ∷ add (input ∷ []) ∷ set_dev_notify_call true ∷ [];
  answers = says 0 0 1 ∷ says 0 0 4 ∷ says 0 0 1 ∷ [];
  acts = see_avail_flags ∷ see_avail_flags ∷ complete 0 1 ∷ take_next ∷ see_avail_flags ∷ [];
  results = saw 0 ∷ saw 1 ∷ not_taken ∷ took 0 (input ∷ []) ∷ saw 0 ∷ [];
}
