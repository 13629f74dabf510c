-- What an order of whole calls and whole acts has: its calls, its acts, and that each is whole. That what explains a mixing is such an order: proofs/Orders.
use Rattle.std.specs.Prelude.{◌≡◌}
use mathlib.Core.List.{List, [], ◌∷◌}
use Rattle.mixing.specs.Device.{Wiring, Act}
use Rattle.mixing.specs.Mix.{Call, Trace, drives, trace}
use Rattle.mixing.specs.Demand.{Whole, whole_call, whole_act, steps_of, WholeEnded}
use Rattle.mixing.specs.WholeCalls.{wholly}

-- the calls of an order, and its acts
abbrev pub calls_in : List Whole → List Call
calls_in [] = []
calls_in (whole_call c ∷ os) = c ∷ calls_in os
calls_in (whole_act a ∷ os) = calls_in os

abbrev pub acts_in : List Whole → List Act
acts_in [] = []
acts_in (whole_call c ∷ os) = acts_in os
acts_in (whole_act a ∷ os) = a ∷ acts_in os

module _ (w : Wiring) where
  -- a whole call is the rules' own, with its answer, its steps, its record and its memory
  abbrev pub AsRuled : Whole → Trace → Type 0
  AsRuled (whole_call c) t = trace w (steps_of w.n (whole_call c)) t ≡ drives (c ∷ []) (wholly c t.queue t.memory) t
  AsRuled (whole_act a) t = Unit {0}

  -- from t on nothing is open after any of the operations, and the calls among them are the rules'
  abbrev pub AllWhole : List Whole → Trace → Type 0
  AllWhole [] t = Unit {0}
  AllWhole (o ∷ os) t = WholeEnded (trace w (steps_of w.n o) t) × AsRuled o t × AllWhole os (trace w (steps_of w.n o) t)
