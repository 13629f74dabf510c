-- A run of the code leaves the trace of the mixing of its events, and DEMAND 3 holds of it.
use Rattle.std.specs.Prelude.{◌≡◌, Bool, ◌+◌}
use Rattle.std.proofs.Math.Path.{refl, ap}
use Rattle.std.proofs.Common.{sym, ap₂, subst, ◌∙◌}
use Rattle.std.proofs.Math.Bool.{true, false, cond}
use mathlib.Core.List.{List, [], ◌∷◌}
use borrow.Author.Tests.{eqb-true}
use Rattle.std.proofs.Math.Dec.{eqb}
use Rattle.virtio.specs.Memory.{Memory}
use Rattle.rules.specs.Record.{is_open}
use Rattle.rules.specs.Answer.{Outcome, Busy}
use Rattle.rules.specs.Refused.{result_number}
use Rattle.rules.specs.New as rule
use Rattle.record.specs.declared.Answer.{Answer}
use Rattle.record.specs.declared.Made.{Made}
use Rattle.record.specs.declared.Ask.{Ask}
use Rattle.record.specs.Abs.{abs}
use Rattle.record.specs.Asked.{ask_of, made_of, answer_of}
use Rattle.mixing.specs.Device.{Wiring, acting, begin, work}
use Rattle.mixing.specs.Mix as mix
use Rattle.mixing.specs.Demand.{in_turn, start, wiring}
use Rattle.mixing.proofs.Proved.{demand3}
use Rattle.mixing.specs.Orders.{AllWhole}
use Rattle.mixing.proofs.Orders.{own_calls, own_acts, explained_whole}
use Rattle.driven.specs.Named.{Drive, called, stepped, event_of, ruled}
use Rattle.driven.specs.Unaltered.{Unaltered, busy_unaltered, idle_unaltered}
use Rattle.driven.specs.Driven.{State, standing, trace_of, drove, uncounted, after, worked, Makes, drives, acts, ticks, Ran, none, next}
use Rattle.driven.specs.Driven.{begun, CodeDemand3, Starts}

-- ---- an event in code is the event of the rules

trace_either : (b : Bool) (x y : State) → trace_of (cond b x y) ≡ cond b (trace_of x) (trace_of y)
trace_either true x y = refl
trace_either false x y = refl

module _ (w : Wiring) (s : State) (r : Answer) (m : Memory) where
  uncounted_is : Unaltered (abs s.queue) s.memory (answer_of r m) → trace_of (uncounted r m s) ≡ trace_of s
  uncounted_is u = ap₂ (λ x y. standing x y s) u.same_queue u.same_memory

  drives_is : (d : Drive) → answer_of r m ≡ ruled d (abs s.queue) s.memory → trace_of (after d r m s) ≡ mix.event w (event_of d) (trace_of s)
  unfolding mix.event
  drives_is (called c) e = go (eqb (result_number r.outcome) Busy) refl ∙ ap (λ o. mix.called c o (trace_of s)) e
    where
      go : (b : Bool) → eqb (result_number r.outcome) Busy ≡ b
          → trace_of (cond b (uncounted r m s) (drove (c ∷ []) r.steps r m s)) ≡ cond b (trace_of s) (mix.drives (c ∷ []) (answer_of r m) (trace_of s))
      go true z =
          uncounted_is
          (subst (Unaltered (abs s.queue) s.memory) (sym e)
          (busy_unaltered (abs s.queue) s.memory c (sym (ap (λ (x : Outcome). x.answer) e) ∙ eqb-true (result_number r.outcome) Busy z)))
      go false z = refl
  drives_is stepped e =
      go (is_open s.queue.core.call) refl
      ∙ ap (λ o. cond (is_open s.queue.core.call) (mix.drives [] (mix.further s.made o) (trace_of s)) (trace_of s)) e
    where
      go : (b : Bool) → is_open s.queue.core.call ≡ b
          → trace_of (cond b (drove [] (s.made + r.steps) r m s) (uncounted r m s))
          ≡ cond b (mix.drives [] (mix.further s.made (answer_of r m)) (trace_of s)) (trace_of s)
      go true z = refl
      go false z =
          uncounted_is (subst (Unaltered (abs s.queue) s.memory) (sym e) (idle_unaltered (abs s.queue) s.memory z))

event_is : (w : Wiring) (s t : State) (e : mix.Event) → Makes w s e t → trace_of t ≡ mix.event w e (trace_of s)
unfolding mix.event
event_is w s _ _ (drives d r m e) = drives_is w s r m d e
event_is w s _ _ (acts a) = trace_either (acting s.device.doing) s (worked (a ∷ []) (begin w a s.device s.memory) s)
event_is w s _ _ ticks = trace_either (acting s.device.doing) (worked [] (work w s.device.doing s.device s.memory) s) s

-- THE STEP FROM RULES TO CODE
pub ran_is_mixing : (w : Wiring) (es : List mix.Event) (s u : State) → Ran w es s u → trace_of u ≡ mix.trace w es (trace_of s)
unfolding mix.trace
ran_is_mixing w _ _ _ (none s) = refl
ran_is_mixing w _ _ _ (next e es s t u h r) = ran_is_mixing w es t u r ∙ ap (mix.trace w es) (event_is w s t e h)

-- ---- demand 3, of the code

pub code_demand3 : (a : Ask) (r : Made) (m m' : Memory) → made_of r m' ≡ rule.new (ask_of a) m → CodeDemand3 a r m'
code_demand3 a r m m' e z es u h c d =
    let b : trace_of (begun r m') ≡ start (rule.new (ask_of a) m) = ap start e in
    let t : trace_of u ≡ mix.trace (wiring (ask_of a)) es (start (rule.new (ask_of a) m)) = ran_is_mixing (wiring (ask_of a)) es (begun r m') u h ∙ ap (mix.trace (wiring (ask_of a)) es) b in
    let f : (rule.new (ask_of a) m).answer ≡ 0 = sym (ap (λ (y : rule.Made). y.answer) e) ∙ z in
    let x = demand3 (ask_of a) m f es (record {
      no_call = sym (ap (λ (y : mix.Trace). is_open y.queue.call) t) ∙ c;
      no_act = sym (ap (λ (y : mix.Trace). acting y.device.doing) t) ∙ d;
    }) in
    let k : mix.trace (wiring (ask_of a)) (in_turn a.n x.order) (trace_of (begun r m')) ≡ trace_of u = ap (mix.trace (wiring (ask_of a)) (in_turn a.n x.order)) b ∙ x.same_trace ∙ sym t in
    record {
      order = x.order;
      same_trace = k;
      in_code = λ v g. ran_is_mixing (wiring (ask_of a)) (in_turn a.n x.order) (begun r m') v g ∙ k;
      calls = own_calls (ask_of a) m f es x ∙ sym (ap (λ (y : mix.Trace). y.calls) t);
      acts = own_acts (ask_of a) m f es x ∙ sym (ap (λ (y : mix.Trace). y.acts) t);
      whole = subst (AllWhole (wiring (ask_of a)) x.order) (sym b) (explained_whole (ask_of a) m f es x);
    }

-- the contract of `driven::start`
pub starts : (a : Ask) (m : Memory) (r : Made) (m' : Memory) → made_of r m' ≡ rule.new (ask_of a) m → Starts a m r m'
starts a m r m' e = record { as_ruled = e; a_run = none (begun r m'); demand = code_demand3 a r m m' e }
