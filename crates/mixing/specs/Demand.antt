-- DEMAND 3, stated; proofs/Proved proves it. Take a fresh queue, of any allowed size, modes and layout, one device that keeps the rules, and any list of events of the two.
-- Where it leaves nothing half done, some order of unmixed operations leaves the very same trace: what each side did, in its own order, what it was
-- answered, took and saw, how many steps each call took, and the record and every byte of memory at the end.
use Rattle.std.specs.Prelude.{◌≡◌, false, List, [], ◌∷◌, ◌++◌, ℕ, ◌+◌, replicate}
use Rattle.virtio.specs.Memory.{Memory}
use Rattle.rules.specs.Record.{is_open}
use Rattle.rules.specs.New.{Ask, Made, new}
use Rattle.mixing.specs.Device.{Wiring, Act, fresh_device, acting}
use Rattle.mixing.specs.Mix.{Call, Event, call, step, act, tick, Trace, trace}

-- A whole call or a whole act: its opening, and then as many steps of its own side as it may need. (Steps with none open are not counted, so that
-- more than it needs does no harm.)
pub data Whole : Type 0 where
  whole_call : Call → Whole
  whole_act : Act → Whole

abbrev pub steps_of : ℕ → Whole → List Event
steps_of n (whole_call c) = call c ∷ replicate (n + 4) step
steps_of n (whole_act a) = act a ∷ replicate (n + 4) tick

-- an order of them, one after the other
abbrev pub in_turn : ℕ → List Whole → List Event
in_turn n [] = []
in_turn n (o ∷ os) = steps_of n o ++ in_turn n os

-- the trace after new, and before any call
abbrev pub start : Made → Trace
start r = record {
  queue = r.queue;
  memory = r.memory;
  device = fresh_device;
  made = 0;
  calls = [];
  answers = [];
  acts = [];
  results = [];
}

-- what the transport tells the device: size, layout, and where the pool is
abbrev pub wiring : Ask → Wiring
wiring a = record { n = a.n; legacy = a.modes.legacy; base = a.base_pool }

-- no call and no act is half done
pub record WholeEnded (t : Trace) : Type 0 where
  pub no_call : is_open t.queue.call ≡ false
  pub no_act : acting t.device.doing ≡ false

-- an order of whole calls and whole acts that explains a mixing
pub record Explained (a : Ask) (m : Memory) (es : List Event) : Type 0 where
  pub order : List Whole
  pub same_trace : trace (wiring a) (in_turn a.n order) (start (new a m)) ≡ trace (wiring a) es (start (new a m))

-- THE STATEMENT
abbrev pub Demand3 : Type 0
Demand3 =
    (a : Ask) (m : Memory) → (new a m).answer ≡ 0 → (es : List Event) → WholeEnded (trace (wiring a) es (start (new a m))) → Explained a m es
