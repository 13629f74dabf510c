-- What explains a mixing: its operations are whole, and each side's are those that it began, in its own order.
use Rattle.std.specs.Prelude.{◌≡◌, Bool, cond, replicate}
use Rattle.std.proofs.Math.Path.{refl, sym, ap}
use Rattle.std.proofs.Common.{◌∙◌}
use Rattle.std.proofs.Math.Bool.{true, false}
use mathlib.Core.List.{List, [], ◌∷◌, ◌++◌, append-nil, append_assoc}
use Prim.Native.Nat.{ℕ, zero, suc, ◌+◌}
use Rattle.virtio.specs.Memory.{Memory}
use Rattle.rules.specs.New.{Ask, new}
use Rattle.mixing.specs.Device.{Wiring, Act, begin, work}
use Rattle.mixing.specs.Mix.{Call, Event, act, tick, Trace, works, event, trace}
use Rattle.mixing.specs.Demand.{Whole, whole_call, whole_act, steps_of, in_turn, start, wiring, WholeEnded, Explained}
use Rattle.mixing.proofs.Whole.{driver, device, busy, trace_append}
use Rattle.mixing.specs.Facts.{Inv}
use Rattle.mixing.proofs.Kept.{sane}
use Rattle.mixing.proofs.Swap.{act_is}
use Rattle.mixing.proofs.Start.{start_inv, start_quiet}
use Rattle.mixing.proofs.WholeCalls.{whole_call_is}
use Rattle.mixing.proofs.Ends.{trace_keep, whole_ends}
use Rattle.mixing.specs.Orders.{calls_in, acts_in, AsRuled, AllWhole}

module _ (w : Wiring) where
  -- ---- one operation

  abbrev alone : Whole → Trace → Trace
  alone o t = trace w (steps_of w.n o) t

  ruled : (o : Whole) (t : Trace) → Inv w t → WholeEnded t → AsRuled w o t
  ruled (whole_call c) t v e = whole_call_is w c t (sane w t v) e.no_call
  ruled (whole_act a) t v e = tt

  -- what a trace has of calls and of acts that were begun
  record Began (t : Trace) (cs : List Call) (xs : List Act) : Type 0 where
    calls : t.calls ≡ cs
    acts : t.acts ≡ xs

  tick_began : (t : Trace) → Began (event w tick t) t.calls t.acts
  unfolding event
  tick_began t = go (busy device t)
    where
      go : (b : Bool) → Began (cond b (works [] (work w t.device.doing t.device t.memory) t) t) t.calls t.acts
      go true = record { calls = refl; acts = append-nil t.acts }
      go false = record { calls = refl; acts = refl }

  ticks_began : (b : ℕ) (t : Trace) → Began (trace w (replicate b tick) t) t.calls t.acts
  unfolding trace
  ticks_began zero t = record { calls = refl; acts = refl }
  ticks_began (suc b) t =
      let s : Began (event w tick t) t.calls t.acts = tick_began t in
      let r : Began (trace w (replicate b tick) (event w tick t)) (event w tick t).calls (event w tick t).acts = ticks_began b (event w tick t) in
      record { calls = r.calls ∙ s.calls; acts = r.acts ∙ s.acts }

  alone_began : (o : Whole) (t : Trace) → Inv w t → WholeEnded t → Began (alone o t) (t.calls ++ calls_in (o ∷ [])) (t.acts ++ acts_in (o ∷ []))
  unfolding trace
  alone_began (whole_call c) t v e =
      let s : AsRuled w (whole_call c) t = ruled (whole_call c) t v e in
      record { calls = ap (λ (u : Trace). u.calls) s; acts = ap (λ (u : Trace). u.acts) s ∙ sym (append-nil t.acts) }
  alone_began (whole_act a) t v e =
      let s : event w (act a) t ≡ works (a ∷ []) (begin w a t.device t.memory) t = act_is w a t e.no_act in
      let r : Began (alone (whole_act a) t) (event w (act a) t).calls (event w (act a) t).acts = ticks_began (w.n + 4) (event w (act a) t) in
      record { calls = r.calls ∙ ap (λ (u : Trace). u.calls) s ∙ sym (append-nil t.calls); acts = r.acts ∙ ap (λ (u : Trace). u.acts) s }

  -- ---- and an order of them

  all_whole : (os : List Whole) (t : Trace) → Inv w t → WholeEnded t → AllWhole w os t
  all_whole [] t v e = tt
  all_whole (o ∷ os) t v e =
      let z : WholeEnded (alone o t) = whole_ends w o t v e in
      (z, ruled o t v e, all_whole os (alone o t) (trace_keep w (steps_of w.n o) t v) z)

  first_call : (o : Whole) (os : List Whole) → calls_in (o ∷ []) ++ calls_in os ≡ calls_in (o ∷ os)
  first_call (whole_call c) os = refl
  first_call (whole_act a) os = refl

  first_act : (o : Whole) (os : List Whole) → acts_in (o ∷ []) ++ acts_in os ≡ acts_in (o ∷ os)
  first_act (whole_call c) os = refl
  first_act (whole_act a) os = refl

  -- a list, one more, and the rest
  joined : {A : Type 0} (x y z xs ys : List A) → x ≡ y ++ z → z ++ xs ≡ ys → x ++ xs ≡ y ++ ys
  joined x y z xs ys e f = ap (λ k. k ++ xs) e ∙ append_assoc y z xs ∙ ap (λ k. y ++ k) f

  all_began : (os : List Whole) (t : Trace) → Inv w t → WholeEnded t
      → Began (trace w (in_turn w.n os) t) (t.calls ++ calls_in os) (t.acts ++ acts_in os)
  unfolding trace
  all_began [] t v e = record { calls = sym (append-nil t.calls); acts = sym (append-nil t.acts) }
  all_began (o ∷ os) t v e =
      let u : Trace = alone o t in
      let s : trace w (in_turn w.n (o ∷ os)) t ≡ trace w (in_turn w.n os) u = trace_append w (steps_of w.n o) (in_turn w.n os) t in
      let b : Began u (t.calls ++ calls_in (o ∷ [])) (t.acts ++ acts_in (o ∷ [])) = alone_began o t v e in
      let r : Began (trace w (in_turn w.n os) u) (u.calls ++ calls_in os) (u.acts ++ acts_in os) =
      all_began os u (trace_keep w (steps_of w.n o) t v) (whole_ends w o t v e) in
      record {
        calls = ap (λ (z : Trace). z.calls) s ∙ r.calls ∙ joined _ t.calls (calls_in (o ∷ [])) _ _ b.calls (first_call o os);
        acts = ap (λ (z : Trace). z.acts) s ∙ r.acts ∙ joined _ t.acts (acts_in (o ∷ [])) _ _ b.acts (first_act o os);
      }

-- ---- of what explains a mixing

module _ (a : Ask) (m : Memory) (e : (new a m).answer ≡ 0) (es : List Event) (x : Explained a m es) where
  fresh_ended : WholeEnded (start (new a m))
  fresh_ended = record { no_call = start_quiet a m e driver; no_act = start_quiet a m e device }

  -- THE LAW: each operation of the order is whole
  pub explained_whole : AllWhole (wiring a) x.order (start (new a m))
  explained_whole = all_whole (wiring a) x.order (start (new a m)) (start_inv a m e) fresh_ended

  -- THE LAW: its calls are those of the mixing in the driver's own order, and its acts those in the device's
  pub own_calls : calls_in x.order ≡ (trace (wiring a) es (start (new a m))).calls
  own_calls =
      sym (all_began (wiring a) x.order (start (new a m)) (start_inv a m e) fresh_ended).calls ∙ ap (λ (t : Trace). t.calls) x.same_trace

  pub own_acts : acts_in x.order ≡ (trace (wiring a) es (start (new a m))).acts
  own_acts =
      sym (all_began (wiring a) x.order (start (new a m)) (start_inv a m e) fresh_ended).acts ∙ ap (λ (t : Trace). t.acts) x.same_trace
