-- Whatever was begun can be brought to its end: n + 4 steps and n + 4 ticks leave nothing open.
use Rattle.std.specs.Prelude.{◌≡◌, List, ◌++◌, replicate}
use Rattle.std.proofs.Math.Path.{refl}
use Rattle.std.proofs.Common.{sym, ap, subst, ◌∙◌}
use Prim.Native.Nat.{ℕ, zero, suc, ◌+◌}
use Rattle.virtio.specs.Memory.{Memory}
use Rattle.rules.specs.New.{Ask, new}
use Rattle.mixing.specs.Device.{Wiring}
use Rattle.mixing.specs.Mix.{Event, call, step, act, tick, Trace, event, trace}
use Rattle.mixing.specs.Demand.{Whole, whole_call, whole_act, steps_of, start, wiring, WholeEnded}
use Rattle.mixing.proofs.Whole.{driver, device, driver≢device, busy, sides, finished, ticks_close, events_trace, trace_append}
use Rattle.mixing.specs.Facts.{Inv}
use Rattle.mixing.proofs.Kept.{keeps, sane}
use Rattle.mixing.proofs.Swap.{queue_swaps}
use Rattle.mixing.specs.Turns.{events_keep}
use Rattle.mixing.proofs.Start.{start_inv}

module _ (w : Wiring) where
  pub trace_keep : (es : List Event) (t : Trace) → Inv w t → Inv w (trace w es t)
  trace_keep es t v = subst (Inv w) (events_trace w es t) (events_keep (sides w) (Inv w) (keeps w) es t v)

  ticks_apart : (b : ℕ) (t : Trace) → Inv w t → busy driver (trace w (replicate b tick) t) ≡ busy driver t
  unfolding trace
  ticks_apart zero t v = refl
  ticks_apart (suc b) t v = ticks_apart b (event w tick t) (keeps w tick t v) ∙ (queue_swaps w).apart tick driver t v (λ e. driver≢device (sym e))

  steps_apart : (b : ℕ) (t : Trace) → Inv w t → busy device (trace w (replicate b step) t) ≡ busy device t
  unfolding trace
  steps_apart zero t v = refl
  steps_apart (suc b) t v = steps_apart b (event w step t) (keeps w step t v) ∙ (queue_swaps w).apart step device t v driver≢device

  -- THE LAW of an order: each of its operations begins and ends with nothing open, so it is whole
  pub whole_ends : (o : Whole) (t : Trace) → Inv w t → WholeEnded t → WholeEnded (trace w (steps_of w.n o) t)
  unfolding trace
  whole_ends (whole_call c) t v e =
      let u : Trace = event w (call c) t in
      let x : Inv w u = keeps w (call c) t v in
      record {
        no_call = finished w (Inv w) (keeps w) (sane w) u x;
        no_act = steps_apart (w.n + 4) u x ∙ (queue_swaps w).apart (call c) device t v driver≢device ∙ e.no_act;
      }
  whole_ends (whole_act a) t v e =
      let u : Trace = event w (act a) t in
      let x : Inv w u = keeps w (act a) t v in
      record {
        no_call = ticks_apart (w.n + 4) u x ∙ (queue_swaps w).apart (act a) driver t v (λ z. driver≢device (sym z)) ∙ e.no_call;
        no_act = ticks_close w (Inv w) (keeps w) (sane w) (w.n + 4) u x (sane w u x).ticks;
      }

-- THE LAW of mixings
pub can_end : (a : Ask) (m : Memory) → (new a m).answer ≡ 0 → (es : List Event)
    → WholeEnded (trace (wiring a) (es ++ (replicate (a.n + 4) step ++ replicate (a.n + 4) tick)) (start (new a m)))
can_end a m e es =
    let w : Wiring = wiring a in
    let t : Trace = trace w es (start (new a m)) in
    let v : Inv w t = trace_keep w es (start (new a m)) (start_inv a m e) in
    let u : Trace = trace w (replicate (a.n + 4) step) t in
    let x : Inv w u = trace_keep w (replicate (a.n + 4) step) t v in
    let s : trace w (es ++ (replicate (a.n + 4) step ++ replicate (a.n + 4) tick)) (start (new a m)) ≡ trace w (replicate (a.n + 4) tick) u =
    trace_append w es (replicate (a.n + 4) step ++ replicate (a.n + 4) tick) (start (new a m))
    ∙ trace_append w (replicate (a.n + 4) step) (replicate (a.n + 4) tick) t in
    record {
      no_call = ap (busy driver) s ∙ ticks_apart w (a.n + 4) u x ∙ finished w (Inv w) (keeps w) (sane w) t v;
      no_act = ap (busy device) s ∙ ticks_close w (Inv w) (keeps w) (sane w) (a.n + 4) u x (sane w u x).ticks;
    }
