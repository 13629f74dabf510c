-- A mixing of a queue of size 1 in the legacy layout, with event indices, computed: the one descriptor is popped and added again while the device's
-- take is open, and a pop makes all the steps that a call can have.
use Rattle.std.specs.Prelude.{◌≡◌, refl, true, false, List, [], ◌∷◌, ◌++◌, replicate}
use Rattle.std.proofs.Common.{sym, ◌∙◌}
use Rattle.virtio.specs.declared.Buffer.{Buffer}
use Rattle.virtio.specs.Desc.{no_desc, no_buffer}
use Rattle.virtio.specs.Memory.{Memory}
use Rattle.rules.specs.declared.Open.TheVariants.{Idle}
use Rattle.rules.specs.New.{Ask, new}
use Rattle.rules.specs.Computing.{computing}
use Rattle.mixing.specs.Device.{take_next, complete, see_used_event, none_available, completed, took, saw, resting, without}
use Rattle.mixing.specs.Mix.{add, pop_used_call, Event, call, step, act, tick, Trace, event, trace}
use Rattle.mixing.specs.Demand.{Whole, whole_call, whole_act, in_turn, start, wiring, Explained}

abbrev pub ask : Ask
ask = record {
  n = 1;
  in_use = false;
  most = 1;
  modes = record { indirect = false; event_idx = true; legacy = true };
  base_one = 0;
  base_two = 0;
  base_pool = 0;
}

abbrev pub lent : Memory
lent = record { one = replicate 8192 0; two = []; pool = [] }

abbrev buffer : Buffer
buffer = record { addr = 4096; len = 10; output = true }

abbrev pub single : List Event
single =
    call (add (buffer ∷ [])) ∷ step ∷ step ∷ act take_next ∷ step ∷ tick ∷ step ∷ act take_next ∷ tick ∷ tick ∷ call (pop_used_call 0 (buffer ∷ [])) ∷ step ∷ tick
    ∷ act (complete 0 3) ∷ tick ∷ tick ∷ tick ∷ call (pop_used_call 0 (buffer ∷ [])) ∷ step ∷ step ∷ act see_used_event ∷ step ∷ act take_next ∷ step ∷ step
    ∷ call (add (buffer ∷ [])) ∷ step ∷ step ∷ tick ∷ act see_used_event ∷ step ∷ act take_next ∷ step ∷ tick ∷ tick ∷ tick ∷ []

abbrev pub single_order : List Whole
single_order =
    whole_act take_next ∷ whole_call (add (buffer ∷ [])) ∷ whole_call (pop_used_call 0 (buffer ∷ [])) ∷ whole_act take_next ∷ whole_act (complete 0 3) ∷ whole_act see_used_event
    ∷ whole_call (pop_used_call 0 (buffer ∷ [])) ∷ whole_act take_next ∷ whole_act see_used_event ∷ whole_call (add (buffer ∷ [])) ∷ whole_act take_next ∷ []

abbrev single_end : Trace
single_end = record {
  queue = record {
    n = 1;
    modes = ask.modes;
    base = 0;
    counts = record { used = 1; free = 0; avail = 2; last = 1 };
    tables = record {
      shadow = record { addr = 4096; len = 10; flags = 2; next = 0 } ∷ replicate 63 no_desc;
      noted = 1 ∷ replicate 63 0;
      kept = replicate 4096 no_buffer;
    };
    call = Idle;
  };
  memory = record {
    -- table and available ring; padding; used ring; padding
    one =
        (0 ∷ 16 ∷ 0 ∷ 0 ∷ 0 ∷ 0 ∷ 0 ∷ 0 ∷ 10 ∷ 0 ∷ 0 ∷ 0 ∷ 2 ∷ 0 ∷ 0 ∷ 0 ∷ 0 ∷ 0 ∷ 2 ∷ 0 ∷ 0 ∷ 0 ∷ 1 ∷ 0 ∷ [])
        ++ (replicate 4072 0 ++ ((0 ∷ 0 ∷ 1 ∷ 0 ∷ 0 ∷ 0 ∷ 0 ∷ 0 ∷ 3 ∷ []) ++ replicate 4087 0));
    two = [];
    pool = [];
  };
  device = record { taken = 2; used = 1; holds = 0 ∷ []; doing = resting };
  made = 4;
  calls = add (buffer ∷ []) ∷ pop_used_call 0 (buffer ∷ []) ∷ pop_used_call 0 (buffer ∷ []) ∷ add (buffer ∷ []) ∷ [];
  answers = record { number = 0; value = 0; steps = 4 } ∷ record { number = 3; value = 0; steps = 1 } ∷ record { number = 0; value = 3; steps = 5 }
      ∷ record { number = 0; value = 0; steps = 4 } ∷ [];
  acts = take_next ∷ take_next ∷ complete 0 3 ∷ see_used_event ∷ take_next ∷ see_used_event ∷ take_next ∷ [];
  results = none_available ∷ took 0 (buffer ∷ []) ∷ completed ∷ saw 0 ∷ none_available ∷ saw 1 ∷ took 0 (buffer ∷ []) ∷ [];
}

single_mixed : trace (wiring ask) single (start (new ask lent)) ≡ single_end
unfolding computing event trace without
single_mixed = refl

single_in_turn : trace (wiring ask) (in_turn 1 single_order) (start (new ask lent)) ≡ single_end
unfolding computing event trace without
single_in_turn = refl

pub single_explained : Explained ask lent single
single_explained = record { order = single_order; same_trace = single_in_turn ∙ sym single_mixed }
