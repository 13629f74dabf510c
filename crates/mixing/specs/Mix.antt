-- Mixings: events of the driver and of the device, one opening, load or store at a time, and the trace that they leave.
use Rattle.std.specs.Prelude.{Bool, cond, List, [], ◌∷◌, ◌++◌, ℕ, ◌+◌, eqb}
use Rattle.virtio.specs.declared.Buffer.{Buffer}
use Rattle.virtio.specs.Memory.{Memory}
use Rattle.rules.specs.Record.{Queue, is_open}
use Rattle.rules.specs.Answer.{Outcome, Busy}
use Rattle.rules.specs.Calls.{open_add, open_pop, open_peek, step as step_of, can_pop, should_notify, set_dev_notify, available_desc}
use Rattle.mixing.specs.Device.{Wiring, Act, Result, Device, Done, going, ended, Worked, acting, begin, work}

-- The calls of document 01's part 3, after new.
pub data Call : Type 0 where
  add : List Buffer → Call
  pop_used_call : ℕ → List Buffer → Call
  peek_used_call can_pop_call should_notify_call available_desc_call : Call
  set_dev_notify_call : Bool → Call

-- An event: the driver opens a call or makes a step of the open one; the device opens an act or makes a step of the open one.
pub data Event : Type 0 where
  call : Call → Event
  step : Event
  act : Act → Event
  tick : Event

-- What a call answered: its number and its value; and the steps that it took.
pub record Answer : Type 0 where
  pub number : ℕ
  pub value : ℕ
  pub steps : ℕ

-- The trace of a mixing: the record, the memory and the device as they stand; and so far, for each side in its own order, the operations that it
-- began and what those that have ended came to; and how many steps the call that was opened last has made. A call refused as Busy leaves no trace.
pub record Trace : Type 0 where
  pub queue : Queue
  pub memory : Memory
  pub device : Device
  pub made : ℕ
  pub calls : List Call
  pub answers : List Answer
  pub acts : List Act
  pub results : List Result

-- opening a call: add, pop and peek are opened; the others are a single step and end at once
abbrev pub opening : Call → Queue → Memory → Outcome
opening (add bs) q m = open_add q m bs
opening (pop_used_call t bs) q m = open_pop q m t bs
opening peek_used_call q m = open_peek q m
opening can_pop_call q m = can_pop q m
opening should_notify_call q m = should_notify q m
opening available_desc_call q m = available_desc q m
opening (set_dev_notify_call wanted) q m = set_dev_notify q m wanted

-- an outcome is an answer once no call is open
abbrev pub answers_of : Outcome → List Answer
answers_of o = cond (is_open o.queue.call) [] (record { number = o.answer; value = o.value; steps = o.steps } ∷ [])

abbrev pub results_of : Done → List Result
results_of going = []
results_of (ended r) = r ∷ []

-- the outcome of a step whose call had made k steps before
abbrev pub further : ℕ → Outcome → Outcome
further k o = record { answer = o.answer; value = o.value; steps = k + o.steps; queue = o.queue; memory = o.memory }

-- the driver's outcome, and the device's, go into the trace
abbrev pub drives : List Call → Outcome → Trace → Trace
drives cs o t = record {
  queue = o.queue;
  memory = o.memory;
  device = t.device;
  made = o.steps;
  calls = t.calls ++ cs;
  answers = t.answers ++ answers_of o;
  acts = t.acts;
  results = t.results;
}

abbrev pub works : List Act → Worked → Trace → Trace
works began w t = record {
  queue = t.queue;
  memory = w.memory;
  device = w.device;
  made = t.made;
  calls = t.calls;
  answers = t.answers;
  acts = t.acts ++ began;
  results = t.results ++ results_of w.done;
}

-- One event. A call while one is open is refused as Busy and left aside; an act while one is open is not begun; a step with none open is not counted.
abbrev pub called : Call → Outcome → Trace → Trace
called c o t = cond (eqb o.answer Busy) t (drives (c ∷ []) o t)

module _ (w : Wiring) where
  unfoldable pub event : Event → Trace → Trace
  event (call c) t = called c (opening c t.queue t.memory) t
  event step t = cond (is_open t.queue.call) (drives [] (further t.made (step_of t.queue t.memory)) t) t
  event (act a) t = cond (acting t.device.doing) t (works (a ∷ []) (begin w a t.device t.memory) t)
  event tick t = cond (acting t.device.doing) (works [] (work w t.device.doing t.device t.memory) t) t

  -- a mixing
  unfoldable pub trace : List Event → Trace → Trace
  trace [] t = t
  trace (e ∷ es) t = trace es (event e t)
