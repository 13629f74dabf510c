-- FROM RULES TO CODE, for demand 3. A run of the code (`Ran`) is events of the driver and of the device one after the other on the same bytes. That a run goes
-- on by what `driven::drive` does is that function's contract (`MakesEvent`). A run leaves the trace of the mixing of its events (proofs/Driven); so some order of
-- whole calls and whole acts leaves the same, and that is the contract of `driven::start`.
use Rattle.std.specs.Prelude.{◌≡◌, ℕ, ◌+◌}
use Rattle.std.proofs.Common.{sym, ap₂, ◌∙◌}
use Rattle.std.proofs.Math.Bool.{false, cond}
use mathlib.Core.List.{List, [], ◌∷◌, ◌++◌}
use Rattle.std.proofs.Math.Dec.{eqb}
use Rattle.virtio.specs.Memory.{Memory}
use Rattle.rules.specs.Record as model
use Rattle.rules.specs.Record.{is_open}
use Rattle.rules.specs.Answer.{Busy}
use Rattle.rules.specs.Refused.{result_number, result_value}
use Rattle.rules.specs.New as rule
use Rattle.record.specs.declared.Queue.{Queue}
use Rattle.record.specs.declared.Answer.{Answer}
use Rattle.record.specs.declared.Made.{Made}
use Rattle.record.specs.declared.Ask.{Ask}
use Rattle.record.specs.Abs.{abs}
use Rattle.record.specs.Asked.{ask_of, made_of, answer_of}
use Rattle.mixing.specs.Device.{Wiring, Device, Act, Result, Worked, acting, begin, work, fresh_device}
use Rattle.mixing.specs.Mix as mix
use Rattle.mixing.specs.Demand.{Whole, in_turn, wiring}
use Rattle.mixing.specs.Orders.{calls_in, acts_in, AllWhole}
use Rattle.driven.specs.Named.{Drive, called, stepped, event_of, ruled}

-- A run of the code: the struct, the bytes, the device; and what each side did and got so far, with the steps of the call opened last, as in a trace.
pub record State : Type 0 where
  pub queue : Queue
  pub memory : Memory
  pub device : Device
  pub made : ℕ
  pub calls : List mix.Call
  pub answers : List mix.Answer
  pub acts : List Act
  pub results : List Result

-- the trace of a run that stands at the record q over the bytes m
abbrev pub standing : model.Queue → Memory → State → mix.Trace
standing q m s = record {
  queue = q;
  memory = m;
  device = s.device;
  made = s.made;
  calls = s.calls;
  answers = s.answers;
  acts = s.acts;
  results = s.results;
}

abbrev pub trace_of : State → mix.Trace
trace_of s = standing (abs s.queue) s.memory s

-- an answer is noted once no call is open, with the steps that its call made
abbrev pub answers_of : ℕ → Answer → List mix.Answer
answers_of k r = cond (is_open r.queue.core.call) [] (record { number = result_number r.outcome; value = result_value r.outcome; steps = k } ∷ [])

-- after a driver's event that answered r over the bytes m, with k steps of its call made
abbrev pub drove : List mix.Call → ℕ → Answer → Memory → State → State
drove cs k r m s = record {
  queue = r.queue;
  memory = m;
  device = s.device;
  made = k;
  calls = s.calls ++ cs;
  answers = s.answers ++ answers_of k r;
  acts = s.acts;
  results = s.results;
}

-- after one that is not counted: the run goes on with the struct and the bytes that it left
abbrev pub uncounted : Answer → Memory → State → State
uncounted r m s = record {
  queue = r.queue;
  memory = m;
  device = s.device;
  made = s.made;
  calls = s.calls;
  answers = s.answers;
  acts = s.acts;
  results = s.results;
}

-- which of the two: a call refused as Busy is not counted, nor is a step with none open
abbrev pub after : Drive → Answer → Memory → State → State
after (called c) r m s = cond (eqb (result_number r.outcome) Busy) (uncounted r m s) (drove (c ∷ []) r.steps r m s)
after stepped r m s = cond (is_open s.queue.core.call) (drove [] (s.made + r.steps) r m s) (uncounted r m s)

abbrev pub worked : List Act → Worked → State → State
worked began w s = record {
  queue = s.queue;
  memory = w.memory;
  device = w.device;
  made = s.made;
  calls = s.calls;
  answers = s.answers;
  acts = s.acts ++ began;
  results = s.results ++ mix.results_of w.done;
}

-- the device begins an act, or makes a step of the open one
abbrev pub begins : Wiring → Act → State → State
begins w a s = cond (acting s.device.doing) s (worked (a ∷ []) (begin w a s.device s.memory) s)

abbrev pub works_on : Wiring → State → State
works_on w s = cond (acting s.device.doing) (worked [] (work w s.device.doing s.device s.memory) s) s

-- One event in code. The driver's are whatever answer and bytes the rules permit; the device's are its rules'.
pub data Makes (w : Wiring) (s : State) : mix.Event → State → Type 0 where
  drives : (d : Drive) (r : Answer) (m : Memory) → answer_of r m ≡ ruled d (abs s.queue) s.memory → Makes w s (event_of d) (after d r m s)
  acts : (a : Act) → Makes w s (mix.act a) (begins w a s)
  ticks : Makes w s mix.tick (works_on w s)

-- and events one after the other
pub data Ran (w : Wiring) : List mix.Event → State → State → Type 0 where
  none : (s : State) → Ran w [] s s
  next : (e : mix.Event) (es : List mix.Event) (s t u : State) → Makes w s e t → Ran w es t u → Ran w (e ∷ es) s u

-- a run goes on by one event
pub ran_on : (w : Wiring) (es : List mix.Event) (s t u : State) (e : mix.Event) → Ran w es s t → Makes w t e u → Ran w (es ++ (e ∷ [])) s u
ran_on w _ _ _ u e (none s) h = next e [] s u u h (none u)
ran_on w _ _ _ v e (next x es s t u m r) h = next x (es ++ (e ∷ [])) s t v m (ran_on w es t u v e r h)

-- ---- every run goes on by every event

-- the device's, whatever has been done
pub acts_on : (w : Wiring) (es : List mix.Event) (o s : State) → Ran w es o s → (a : Act) → Ran w (es ++ (mix.act a ∷ [])) o (begins w a s)
acts_on w es o s h a = ran_on w es o s (begins w a s) (mix.act a) h (acts a)

pub ticks_on : (w : Wiring) (es : List mix.Event) (o s : State) → Ran w es o s → Ran w (es ++ (mix.tick ∷ [])) o (works_on w s)
ticks_on w es o s h = ran_on w es o s (works_on w s) mix.tick h ticks

-- THE CONTRACT of `driven::drive`, for the event d of the struct q over the bytes m, that answered r and left the bytes m': the answer is the rules', and
-- every run that stands there goes on by it
pub record MakesEvent (d : Drive) (q : Queue) (m : Memory) (r : Answer) (m' : Memory) : Type 0 where
  pub as_ruled : answer_of r m' ≡ ruled d (abs q) m
  pub goes_on : (w : Wiring) (es : List mix.Event) (o s : State) → Ran w es o s → s.queue ≡ q → s.memory ≡ m
      → Ran w (es ++ (event_of d ∷ [])) o (after d r m' s)

module _ (d : Drive) (q : Queue) (m : Memory) (r : Answer) (m' : Memory) (e : answer_of r m' ≡ ruled d (abs q) m) where
  pub there : (w : Wiring) (s : State) → s.queue ≡ q → s.memory ≡ m → Makes w s (event_of d) (after d r m' s)
  there w s f g = drives d r m' (e ∙ ap₂ (λ x y. ruled d (abs x) y) (sym f) (sym g))

-- ---- demand 3, of the code

-- a struct as new made it, and nothing done yet
abbrev pub begun : Made → Memory → State
begun r m = record {
  queue = r.queue;
  memory = m;
  device = fresh_device;
  made = 0;
  calls = [];
  answers = [];
  acts = [];
  results = [];
}

-- an order of whole calls and whole acts that leaves the trace of a run: by the rules, and by any run of the code that makes them in this order; its calls
-- and its acts are those that were begun, each side's in its own order, and each is whole
pub record Explains (w : Wiring) (n : ℕ) (s u : State) : Type 0 where
  pub order : List Whole
  pub same_trace : mix.trace w (in_turn n order) (trace_of s) ≡ trace_of u
  pub in_code : (v : State) → Ran w (in_turn n order) s v → trace_of v ≡ trace_of u
  pub calls : calls_in order ≡ u.calls
  pub acts : acts_in order ≡ u.acts
  pub whole : AllWhole w order (trace_of s)

-- THE THEOREM: over a queue that new has made, whatever run of the methods and of a rule-keeping device, with no call and no act left half done
abbrev pub CodeDemand3 : Ask → Made → Memory → Type 0
CodeDemand3 a r m =
    result_number r.outcome ≡ 0 → (es : List mix.Event) (u : State) → Ran (wiring (ask_of a)) es (begun r m) u
    → is_open u.queue.core.call ≡ false → acting u.device.doing ≡ false
    → Explains (wiring (ask_of a)) a.n (begun r m) u

-- THE CONTRACT of `driven::start`: the queue is the one that new makes, a run begins there, and demand 3 holds of all that follows
pub record Starts (a : Ask) (m : Memory) (r : Made) (m' : Memory) : Type 0 where
  pub as_ruled : made_of r m' ≡ rule.new (ask_of a) m
  pub a_run : Ran (wiring (ask_of a)) [] (begun r m') (begun r m')
  pub demand : CodeDemand3 a r m'
