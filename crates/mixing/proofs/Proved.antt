-- DEMAND 3, PROVED, over the rules' own openings and steps.
use Rattle.std.specs.Prelude.{◌≡◌, List}
use Rattle.virtio.specs.Memory.{Memory}
use Rattle.rules.specs.New.{Ask, new}
use Rattle.mixing.specs.Mix.{Event, trace}
use Rattle.mixing.specs.Demand.{in_turn, start, wiring, WholeEnded, Demand3}
use Rattle.mixing.specs.Turns.{Quiet}
use Rattle.mixing.proofs.Whole.{driver, device, sides, by_last, whole_order}
use Rattle.mixing.specs.Facts.{Inv}
use Rattle.mixing.proofs.Kept.{sane}
use Rattle.mixing.proofs.Swap.{queue_swaps}
use Rattle.mixing.proofs.Start.{start_inv, start_quiet}

-- THE THEOREM: the order of the operations' last events explains a mixing
pub by_last_events : (a : Ask) (m : Memory) → (new a m).answer ≡ 0 → (es : List Event) → WholeEnded (trace (wiring a) es (start (new a m)))
    → trace (wiring a) (in_turn a.n (by_last (wiring a) es (start (new a m)))) (start (new a m)) ≡ trace (wiring a) es (start (new a m))
by_last_events a m e es h =
    whole_order (wiring a) (Inv (wiring a)) (queue_swaps (wiring a)) (sane (wiring a)) es (start (new a m)) (start_inv a m e) (start_quiet a m e) quiet
  where
    quiet : Quiet (sides (wiring a)) (trace (wiring a) es (start (new a m)))
    quiet driver = h.no_call
    quiet device = h.no_act

-- so there is one
unfoldable pub demand3 : Demand3
demand3 a m e es h = record { order = by_last (wiring a) es (start (new a m)); same_trace = by_last_events a m e es h }
