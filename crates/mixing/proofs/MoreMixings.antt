-- Further mixings, computed, each with the order of last events that the proof of demand 3 gives it: that order, and what the mixing and the whole calls and
-- whole acts in that order come to, are found by computing; and that the orders of Mixings and Single are those of last events too.
use Rattle.std.specs.Prelude.{◌≡◌, refl, true, false, List, [], ◌∷◌, ◌++◌, ℕ, replicate}
use Rattle.std.proofs.Common.{sym, ap, ◌∙◌}
use Rattle.virtio.specs.declared.Buffer.{Buffer}
use Rattle.virtio.specs.Desc.{no_buffer}
use Rattle.virtio.specs.Memory.{Memory}
use Rattle.rules.specs.declared.Modes.{Modes}
use Rattle.rules.specs.Record.{Queue}
use Rattle.rules.specs.New.{Ask, new}
use Rattle.rules.specs.Computing.{computing}
use Rattle.mixing.specs.Device.{Wiring, take_next, complete, set_used_flags, set_avail_event, see_avail_flags, see_used_event}
use Rattle.mixing.specs.Device.{Result, none_available, completed, stored, took, saw, resting, without}
use Rattle.mixing.specs.Mix.{add, pop_used_call, peek_used_call, can_pop_call, should_notify_call, available_desc_call, set_dev_notify_call}
use Rattle.mixing.specs.Mix.{Event, call, step, act, tick, Answer, Trace, event, trace}
use Rattle.mixing.specs.Demand.{Whole, whole_call, whole_act, in_turn, start, wiring, WholeEnded, Explained}
use Rattle.mixing.specs.Turns.{turns}
use Rattle.mixing.proofs.Whole.{by_last}
use Rattle.mixing.proofs.Proved.{by_last_events, demand3}
use Rattle.mixing.specs.Mixings.{direct, lists_events, ask, lent, input, output, says, link, counted, rests, idle}
use Rattle.mixing.specs.Mixings.{between, between_order, reordered, reordered_order, listed, listed_order, flagged, flagged_order}
use Rattle.mixing.specs.Single as one

-- ---- the orders of Mixings and Single

abbrev last_order : Ask → Memory → List Event → List Whole
last_order a m es = by_last (wiring a) es (start (new a m))

pub between_order_is : last_order (ask direct) lent between ≡ between_order
unfolding computing event trace without turns
between_order_is = refl

pub reordered_order_is : last_order (ask direct) lent reordered ≡ reordered_order
unfolding computing event trace without turns
reordered_order_is = refl

pub listed_order_is : last_order (ask lists_events) lent listed ≡ listed_order
unfolding computing event trace without turns
listed_order_is = refl

pub flagged_order_is : last_order (ask direct) lent flagged ≡ flagged_order
unfolding computing event trace without turns
flagged_order_is = refl

pub single_order_is : last_order one.ask one.lent one.single ≡ one.single_order
unfolding computing event trace without turns
single_order_is = refl

-- ---- what is computed of a further one

-- answers and results that a trace tells
pub record Tells (t : Trace) (answers : List Answer) (results : List Result) : Type 0 where
  pub answered : t.answers ≡ answers
  pub came : t.results ≡ results

-- what is computed of events from t on
pub record Computed (w : Wiring) (t : Trace) (es : List Event) (order : List Whole) (answers : List Answer) (results : List Result) : Type 0 where
  pub ended : WholeEnded (trace w es t)
  pub order_is : by_last w es t ≡ order
  pub mixed : Tells (trace w es t) answers results
  pub in_turn_lem : Tells (trace w (in_turn w.n order) t) answers results

-- of a fresh queue the whole trace is the same then, every byte of it, and the order is that of the theorem
module _ (a : Ask) (m : Memory) (es : List Event) (order : List Whole) (answers : List Answer) (results : List Result) (e : (new a m).answer ≡ 0)
    (c : Computed (wiring a) (start (new a m)) es order answers results) where
  pub explained : Explained a m es
  explained = record {
    order = order;
    same_trace = ap (λ z. trace (wiring a) (in_turn a.n z) (start (new a m))) (sym c.order_is) ∙ by_last_events a m e es c.ended;
  }

  pub demanded : (demand3 a m e es c.ended).order ≡ order
  unfolding demand3
  demanded = c.order_is

-- ---- crossing: a queue of size 4

abbrev pub four : Ask
four = record { n = 4; in_use = false; most = 4; modes = direct; base_one = 0; base_two = 4096; base_pool = 0 }

abbrev pub four_lent : Memory
four_lent = record { one = replicate 78 0; two = replicate 38 0; pool = [] }

abbrev pub empty : Buffer
empty = record { addr = 4096; len = 0; output = false }

abbrev pub steps : ℕ → List Event
steps k = replicate k step

-- A complete is open across an add, can_pop and available_desc; a take across a peek, a pop that frees, and adds that are refused; the device makes a
-- step between the loads of that peek and of that pop; and it looks at the flags, and stores its own, within a pop that ends in 9 and within an add.
abbrev pub crossing : List Event
crossing =
    call (add (input ∷ [])) ∷ steps 4 ++ (act take_next ∷ tick ∷ tick ∷ tick ∷ act (complete 0 7) ∷ tick ∷ call (add (output ∷ output ∷ [])) ∷ step ∷ tick
    ∷ step ∷ act take_next ∷ step ∷ call available_desc_call ∷ step ∷ step ∷ call can_pop_call ∷ call available_desc_call ∷ tick ∷ act take_next ∷ tick ∷ call peek_used_call
    ∷ step ∷ tick ∷ step ∷ call (pop_used_call 0 (input ∷ [])) ∷ step ∷ tick ∷ step ∷ step ∷ step ∷ call (add []) ∷ call (add (output ∷ input ∷ []))
    ∷ call (add (input ∷ input ∷ input ∷ [])) ∷ call (add (empty ∷ [])) ∷ tick ∷ act (complete 1 9) ∷ tick ∷ tick ∷ call (pop_used_call 1 (output ∷ [])) ∷ tick
    ∷ step ∷ act see_avail_flags ∷ step ∷ step ∷ call (add (input ∷ [])) ∷ step ∷ act (set_used_flags 1) ∷ step ∷ act see_avail_flags ∷ step ∷ step
    ∷ call should_notify_call ∷ [])

abbrev pub crossing_order : List Whole
crossing_order =
    whole_call (add (input ∷ [])) ∷ whole_act take_next ∷ whole_call (add (output ∷ output ∷ [])) ∷ whole_call can_pop_call ∷ whole_call available_desc_call
    ∷ whole_act (complete 0 7) ∷ whole_call peek_used_call ∷ whole_call (pop_used_call 0 (input ∷ [])) ∷ whole_call (add []) ∷ whole_call (add (output ∷ input ∷ []))
    ∷ whole_call (add (input ∷ input ∷ input ∷ [])) ∷ whole_call (add (empty ∷ [])) ∷ whole_act take_next ∷ whole_act (complete 1 9)
    ∷ whole_act see_avail_flags ∷ whole_call (pop_used_call 1 (output ∷ [])) ∷ whole_act (set_used_flags 1) ∷ whole_act see_avail_flags
    ∷ whole_call (add (input ∷ [])) ∷ whole_call should_notify_call ∷ []

abbrev pub crossing_answers : List Answer
crossing_answers =
    says 0 0 4 ∷ says 0 1 5 ∷ says 0 0 1 ∷ says 0 1 0 ∷ says 0 0 2 ∷ says 0 7 4 ∷ says 1 0 0 ∷ says 1 0 0 ∷ says 2 0 0 ∷ says 7 0 0 ∷ says 9 0 3 ∷ says 0 0 4
    ∷ says 0 0 1 ∷ []

abbrev pub crossing_results : List Result
crossing_results =
    took 0 (input ∷ []) ∷ completed ∷ took 1 (output ∷ output ∷ []) ∷ completed ∷ saw 0 ∷ stored ∷ saw 0 ∷ []

pub crossing_computed : Computed (wiring four) (start (new four four_lent)) crossing crossing_order crossing_answers crossing_results
unfolding computing event trace without turns
crossing_computed = record {
  ended = record { no_call = refl; no_act = refl };
  order_is = refl;
  mixed = record { answered = refl; came = refl };
  in_turn_lem = record { answered = refl; came = refl };
}

pub new_four : (new four four_lent).answer ≡ 0
unfolding computing
new_four = refl

pub crossing_explained : Explained four four_lent crossing
crossing_explained = explained four four_lent crossing crossing_order crossing_answers crossing_results new_four crossing_computed

-- THE ORDER OF THE THEOREM, evaluated
pub crossing_order_is : (demand3 four four_lent new_four crossing crossing_computed.ended).order ≡ crossing_order
crossing_order_is = demanded four four_lent crossing crossing_order crossing_answers crossing_results new_four crossing_computed

-- ---- wrapping: event indices, and all counts at 65,535

abbrev pub events : Modes
events = record { indirect = false; event_idx = true; legacy = false }

-- the queue of size 2 as it stands when 65,535 chains have come and gone
abbrev pub late : Trace
late =
    let fresh : Queue = (new (ask events) lent).queue in
    record {
      queue = record {
        n = 2;
        modes = events;
        base = fresh.base;
        counts = record { used = 0; free = 0; avail = 65535; last = 65535 };
        tables = fresh.tables;
        call = fresh.call;
      };
      memory = record {
        one = replicate 14 0 ++ (1 ∷ replicate 19 0 ++ (255 ∷ 255 ∷ 0 ∷ 0 ∷ 0 ∷ 0 ∷ 255 ∷ 255 ∷ []));
        two = 0 ∷ 0 ∷ 255 ∷ 255 ∷ replicate 18 0;
        pool = [];
      };
      device = record { taken = 65535; used = 65535; holds = []; doing = resting };
      made = 0;
      calls = [];
      answers = [];
      acts = [];
      results = [];
    }

-- A take looks while the add is open that wraps available idx; should_notify on both sides of avail_event; set_dev_notify, which stores nothing with event
-- indices, while a take is open; a pop that looks before used idx wraps, and one that looks after it and stores used_event 0.
abbrev pub wrapping : List Event
wrapping =
    call (add (input ∷ output ∷ [])) ∷ step ∷ step ∷ act take_next ∷ step ∷ tick ∷ step ∷ step ∷ call should_notify_call ∷ act (set_avail_event 65535)
    ∷ call should_notify_call ∷ act take_next ∷ tick ∷ tick ∷ call (set_dev_notify_call false) ∷ tick ∷ tick ∷ act see_avail_flags ∷ act (complete 0 3) ∷ tick ∷ tick
    ∷ call (pop_used_call 0 (input ∷ output ∷ [])) ∷ step ∷ call (pop_used_call 0 (input ∷ output ∷ [])) ∷ tick ∷ step ∷ step ∷ step ∷ act see_used_event
    ∷ steps 3 ++ (act see_used_event ∷ [])

abbrev pub wrapping_order : List Whole
wrapping_order =
    whole_act take_next ∷ whole_call (add (input ∷ output ∷ [])) ∷ whole_call should_notify_call ∷ whole_act (set_avail_event 65535) ∷ whole_call should_notify_call
    ∷ whole_call (set_dev_notify_call false) ∷ whole_act take_next ∷ whole_act see_avail_flags ∷ whole_call (pop_used_call 0 (input ∷ output ∷ []))
    ∷ whole_act (complete 0 3) ∷ whole_act see_used_event ∷ whole_call (pop_used_call 0 (input ∷ output ∷ [])) ∷ whole_act see_used_event ∷ []

abbrev pub wrapping_end : Trace
wrapping_end = record {
  queue = rests events 0 (counted 0 0 0 0) (link 0 0 1 1) (link 0 0 2 0) 0 0 (no_buffer ∷ no_buffer ∷ no_buffer ∷ no_buffer ∷ []);
  memory = record {
    one = replicate 12 0 ++ (1 ∷ 0 ∷ 1 ∷ replicate 13 0 ++ (2 ∷ replicate 13 0));
    two = replicate 16 0 ++ (3 ∷ 0 ∷ 0 ∷ 0 ∷ 255 ∷ 255 ∷ []);
    pool = [];
  };
  device = idle 0 0 [];
  made = 6;
  calls =
      add (input ∷ output ∷ []) ∷ should_notify_call ∷ should_notify_call ∷ set_dev_notify_call false ∷ pop_used_call 0 (input ∷ output ∷ [])
      ∷ pop_used_call 0 (input ∷ output ∷ []) ∷ [];
  answers = says 0 0 5 ∷ says 0 0 1 ∷ says 0 1 1 ∷ says 0 0 0 ∷ says 3 0 1 ∷ says 0 3 6 ∷ [];
  acts = take_next ∷ set_avail_event 65535 ∷ take_next ∷ see_avail_flags ∷ complete 0 3 ∷ see_used_event ∷ see_used_event ∷ [];
  results = none_available ∷ stored ∷ took 0 (input ∷ output ∷ []) ∷ saw 0 ∷ completed ∷ saw 65535 ∷ saw 0 ∷ [];
}

abbrev from_late : List Event → Trace
from_late es = trace (wiring (ask events)) es late

wrapping_mixed : from_late wrapping ≡ wrapping_end
unfolding computing event trace without
wrapping_mixed = refl

wrapping_in_turn : from_late (in_turn 2 wrapping_order) ≡ wrapping_end
unfolding computing event trace without
wrapping_in_turn = refl

-- the theorem speaks of fresh queues, so that here the whole trace is computed
pub wrapping_computed : from_late (in_turn 2 wrapping_order) ≡ from_late wrapping
wrapping_computed = wrapping_in_turn ∙ sym wrapping_mixed

pub wrapping_order_is : by_last (wiring (ask events)) wrapping late ≡ wrapping_order
unfolding computing event trace without turns
wrapping_order_is = refl
