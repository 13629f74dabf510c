-- A turn is a whole call or a whole act, that with which it begins: a call refused as Busy leaves no trace, and no more than n + 4 steps are needed. So the
-- order that explains a mixing is that of the operations' last events.
use Rattle.std.specs.Prelude.{◌≡◌, Bool, true, false, ◌⊎◌, eqb, replicate}
use Rattle.std.proofs.Math.Path.{refl, sym, ap}
use Rattle.std.proofs.Common.{subst, ◌∙◌, true≢false, inl, inr, arith, eq-eqb}
use Rattle.std.proofs.Math.Bool.{cond}
use mathlib.Core.List.{List, [], ◌∷◌, ◌++◌, append-nil, append_assoc}
use Prim.Native.Nat.{ℕ, zero, suc, ◌+◌, ◌≤◌, ◌<◌}
use Rattle.lists.specs.Tests.{by_test, either}
use Rattle.virtio.specs.declared.Desc.{Desc}
use Rattle.virtio.specs.declared.Buffer.{Buffer}
use Rattle.virtio.specs.Desc.{has_next, has_indirect}
use Rattle.virtio.specs.Memory.{Memory, avail_idx, spot, load_at}
use Rattle.rules.specs.Record.{Queue, is_open}
use Rattle.rules.specs.Answer.{Outcome, Busy, unless}
use Rattle.rules.specs.Step.{move}
use Rattle.rules.specs.Calls.{fits, add_refusal, call_refusal, count_refusal, open_add, open_pop, open_peek, can_pop, should_notify, set_dev_notify, available_desc, step as step_of}
use Rattle.laws.specs.WellFormedIs.{means_well_formed}
use Rattle.laws.specs.CallKeeps.{Good}
use Rattle.laws.specs.StepsLeft.{steps_most, left_bound, step_lowers}
use Rattle.laws.specs.StepsAlike.{step_moves}
use Rattle.mixing.specs.Device.{Wiring, Act, Table, in_table, in_list, Doing, resting, take_idx, take_head, take_chain, complete_id, complete_len, complete_idx, Device, Worked, acting, reads, work}
use Rattle.mixing.specs.Mix.{Call, add, pop_used_call, peek_used_call, can_pop_call, should_notify_call, available_desc_call, set_dev_notify_call, Event, call, step, act, tick, Trace, opening, further, drives, works, event, trace}
use Rattle.mixing.specs.Demand.{Whole, whole_call, whole_act, steps_of, in_turn}
use Rattle.mixing.specs.Turns.{Sides, Swaps, events, Own, Quiet, Inner, Turn, events_of, Whole-turn, Turned, turns, Ordered, events_append, events_keep, in_turns}

-- ---- the two sides

pub data Side : Type 0 where
  driver device : Side

pub driver≢device : driver ≡ device → ⊥
driver≢device e = let z : ◌≡◌ {A = ℕ} 0 1 = cc in omega arith

abbrev pub same : (i j : Side) → (i ≡ j) ⊎ (i ≡ j → ⊥)
same driver driver = inl refl
same driver device = inr driver≢device
same device driver = inr (λ e. driver≢device (sym e))
same device device = inl refl

abbrev pub whose : Event → Side
whose (call c) = driver
whose step = driver
whose (act a) = device
whose tick = device

abbrev pub busy : Side → Trace → Bool
busy driver t = is_open t.queue.call
busy device t = acting t.device.doing

abbrev pub sides : Wiring → Sides
sides w = record { Side = Side; Event = Event; State = Trace; same = same; whose = whose; event = event w; is_open = busy }

-- THE ORDER of last events: the turns of the events, each the call or the act that it begins with; a turn that begins with a step is that step, with
-- nothing open
abbrev pub begins : List Event → List Whole
begins [] = []
begins (call c ∷ es) = whole_call c ∷ []
begins (act a ∷ es) = whole_act a ∷ []
begins (step ∷ es) = []
begins (tick ∷ es) = []

abbrev pub operations : (w : Wiring) → List (Turn (sides w)) → List Whole
operations w [] = []
operations w (r ∷ rs) = begins (events_of (sides w) r) ++ operations w rs

abbrev pub by_last : Wiring → List Event → Trace → List Whole
by_last w es t = operations w (turns (sides w) [] es t)

-- how many steps an act may still take
abbrev pub ticks_most : ℕ → Doing → ℕ
ticks_most n resting = 0
ticks_most n take_idx = n + 4
ticks_most n take_head = n + 3
ticks_most n (take_chain h k t i bs) = k + 1
ticks_most n (complete_id h l) = 3
ticks_most n (complete_len h l) = 2
ticks_most n (complete_idx h l) = 1

-- what is known of the record, the memory and the open act at every moment
pub record Sane (w : Wiring) (t : Trace) : Type 0 where
  pub good : Good t.queue
  pub fit : fits t.queue t.memory ≡ true
  pub size : t.queue.n ≡ w.n
  pub ticks : ticks_most w.n t.device.doing ≤ w.n + 4

module _ (w : Wiring) where
  pub events_trace : (es : List Event) (t : Trace) → events (sides w) es t ≡ trace w es t
  unfolding trace
  events_trace [] t = refl
  events_trace (e ∷ es) t = events_trace es (event w e t)

  pub trace_append : (xs ys : List Event) (t : Trace) → trace w (xs ++ ys) t ≡ trace w ys (trace w xs t)
  unfolding trace
  trace_append [] ys t = refl
  trace_append (x ∷ xs) ys t = trace_append xs ys (event w x t)

  -- ---- the same event again and again, where it does nothing with nothing open

  module _ (x : Event) (i : Side) (idle : (t : Trace) → busy i t ≡ false → event w x t ≡ t) where
    abbrev many : ℕ → Trace → Trace
    many b t = trace w (replicate b x) t

    again : (b : ℕ) (t : Trace) → many b (event w x t) ≡ event w x (many b t)
    unfolding trace
    again zero t = refl
    again (suc b) t = again b (event w x t)

    rests : (b : ℕ) (t : Trace) → busy i t ≡ false → many b t ≡ t
    unfolding trace
    rests zero t e = refl
    rests (suc b) t e = ap (many b) (idle t e) ∙ rests b t e

    -- where b of them close what is open, one before them makes no difference
    one_more : (b : ℕ) (t : Trace) → busy i (many b t) ≡ false → many b (event w x t) ≡ many b t
    one_more b t e = again b t ∙ idle (many b t) e

    -- ---- so a turn is what it begins with, where b of them close what is open and an event of side i is one of them or does nothing while one is open

    module _ (Inv : Trace → Type 0) (keeps : (e : Event) (t : Trace) → Inv t → Inv (event w e t)) (b : ℕ)
        (closes : (t : Trace) → Inv t → busy i (many b t) ≡ false)
        (within : (e : Event) (t : Trace) → whose e ≡ i → Inv t → busy i t ≡ true → (e ≡ x) ⊎ (event w e t ≡ t)) where
      absorbed : (e : Event) (t : Trace) → Inv t → (e ≡ x) ⊎ (event w e t ≡ t) → many b t ≡ many b (event w e t)
      absorbed e t v (inl p) = sym (one_more b t (closes t v)) ∙ ap (λ z. many b (event w z t)) (sym p)
      absorbed e t v (inr p) = ap (many b) (sym p)

      -- events that find the operation open and of which the last closes it
      pub finishes : (es : List Event) (e : Event) (t : Trace) → Inv t → Own (sides w) i es → whose e ≡ i → busy i t ≡ true → Inner (sides w) es t
          → busy i (event w e (events (sides w) es t)) ≡ false
          → many b t ≡ events (sides w) (es ++ (e ∷ [])) t
      finishes [] e t v o p u n c = absorbed e t v (within e t p v u) ∙ rests b (event w e t) c
      finishes (y ∷ es) e t v o p u n c =
          absorbed y t v (within y t o.0 v u)
          ∙ finishes es e (event w y t) (keeps y t v) o.1 p (subst (λ s. busy s (event w y t) ≡ true) o.0 n.0) n.1 c

  -- ---- the driver's events

  pub step_idle : (t : Trace) → busy driver t ≡ false → event w step t ≡ t
  unfolding event
  step_idle t e = rw e

  -- with a call open every call is refused as Busy
  module _ (q : Queue) (m : Memory) (g : Good q) (f : fits q m ≡ true) (o : is_open q.call ≡ true) where
    refuses : (number : ℕ) (r : Outcome) → number ≡ Busy → (unless number q m r).answer ≡ Busy
    refuses number r e = ap (λ k. (unless k q m r).answer) e

    add_busy : (bs : List Buffer) → add_refusal q m bs ≡ Busy
    add_busy bs = rw (means_well_formed q g.well, f, o)

    call_busy : call_refusal q m ≡ Busy
    call_busy = rw (means_well_formed q g.well, f, o)

    count_busy : count_refusal q ≡ Busy
    count_busy = rw (means_well_formed q g.well, o)

    opening_busy : (c : Call) → (opening c q m).answer ≡ Busy
    unfolding open_add open_pop open_peek can_pop should_notify set_dev_notify available_desc
    opening_busy (add bs) = refuses (add_refusal q m bs) _ (add_busy bs)
    opening_busy (pop_used_call t bs) = refuses (call_refusal q m) _ call_busy
    opening_busy peek_used_call = refuses (call_refusal q m) _ call_busy
    opening_busy can_pop_call = refuses (call_refusal q m) _ call_busy
    opening_busy should_notify_call = refuses (call_refusal q m) _ call_busy
    opening_busy available_desc_call = refuses (count_refusal q) _ count_busy
    opening_busy (set_dev_notify_call b) = refuses (call_refusal q m) _ call_busy

  pub call_busy_none : (c : Call) (t : Trace) → Sane w t → busy driver t ≡ true → event w (call c) t ≡ t
  unfolding event
  call_busy_none c t s o =
      ap (λ b. cond b t (drives (c ∷ []) (opening c t.queue t.memory) t))
      (eq-eqb (opening c t.queue t.memory).answer Busy (opening_busy t.queue t.memory s.good s.fit o c))

  -- a step of the open call is the rules' move
  pub step_open : (t : Trace) → Sane w t → busy driver t ≡ true
      → event w step t ≡ drives [] (further t.made (move t.queue t.memory)) t
  unfolding event
  step_open t s o =
      ap (λ b. cond b (drives [] (further t.made (step_of t.queue t.memory)) t) t) o
      ∙ ap (λ r. drives [] (further t.made r) t) (step_moves t.queue t.memory s.good s.fit o)

  -- n + 4 steps close what is open
  module _ (Inv : Trace → Type 0) (keeps : (e : Event) (t : Trace) → Inv t → Inv (event w e t)) (sane : (t : Trace) → Inv t → Sane w t) where
    steps_close : (b : ℕ) (t : Trace) → Inv t → steps_most t.queue ≤ b → busy driver (trace w (replicate b step) t) ≡ false
    unfolding trace
    steps_close zero t v l =
        by_test (busy driver t) (λ o. absurd (omega (arith, step_lowers t.queue t.memory (sane t v).good o))) (λ o. o)
    steps_close (suc b) t v l =
        by_test (busy driver t)
        (λ o. steps_close b (event w step t) (keeps step t v)
        (let k : steps_most (event w step t).queue ≡ steps_most (move t.queue t.memory).queue = ap (λ r. steps_most r.queue)
        (step_open t (sane t v) o) in
        omega (arith, step_lowers t.queue t.memory (sane t v).good o)))
        (λ o. ap (λ r. busy driver (trace w (replicate b step) r)) (step_idle t o) ∙ ap (busy driver) (rests step driver step_idle b t o) ∙ o)

    abbrev pub finish : Trace → Trace
    finish t = trace w (replicate (w.n + 4) step) t

    pub finished : (t : Trace) → Inv t → busy driver (finish t) ≡ false
    finished t v =
        let e : t.queue.n ≡ w.n = (sane t v).size in
        steps_close (w.n + 4) t v (omega (arith, left_bound t.queue (sane t v).good))

    calls_within : (e : Event) (t : Trace) → whose e ≡ driver → Inv t → busy driver t ≡ true → (e ≡ step) ⊎ (event w e t ≡ t)
    calls_within step t o v b = inl refl
    calls_within (call c) t o v b = inr (call_busy_none c t (sane t v) b)
    calls_within (act a) t o v b = absurd (driver≢device (sym o))
    calls_within tick t o v b = absurd (driver≢device (sym o))

    -- an open call, stepped to its end, is finished
    pub call_finishes : (es : List Event) (e : Event) (t : Trace) → Inv t → Own (sides w) driver es → whose e ≡ driver → busy driver t ≡ true
        → Inner (sides w) es t → busy driver (event w e (events (sides w) es t)) ≡ false → finish t ≡ events (sides w) (es ++ (e ∷ [])) t
    call_finishes = finishes step driver step_idle Inv keeps (w.n + 4) finished calls_within

  -- ---- the device's events

  pub tick_idle : (t : Trace) → busy device t ≡ false → event w tick t ≡ t
  unfolding event
  tick_idle t e = rw e

  pub act_busy_none : (a : Act) (t : Trace) → busy device t ≡ true → event w (act a) t ≡ t
  unfolding event
  act_busy_none a t e = rw e

  abbrev Within : ℕ → Worked → Type 0
  Within k x = ticks_most w.n x.device.doing < k

  reads_lowers : (h k : ℕ) (s : Table) (bs : List Buffer) (x : Desc) (d : Device) (m : Memory)
      → ticks_most w.n (reads w h k s bs x d m).device.doing < suc k + 1
  reads_lowers h k in_table bs x d m =
      either (Within (suc k + 1)) (has_indirect x) _ _ (λ e. omega arith)
      (λ e. either (Within (suc k + 1)) (has_next x) _ _ (λ z. omega arith) (λ z. omega arith))
  reads_lowers h k (in_list s) bs x d m = either (Within (suc k + 1)) (has_next x) _ _ (λ e. omega arith) (λ e. omega arith)

  work_lowers : (a : Doing) (d : Device) (m : Memory) → acting a ≡ true → ticks_most w.n (work w a d m).device.doing < ticks_most w.n a
  work_lowers resting d m e = absurd (true≢false (sym e))
  work_lowers take_idx d m e =
      either (Within (w.n + 4)) (eqb (load_at (spot w.legacy w.n avail_idx) m) d.taken) _ _ (λ z. omega arith) (λ z. omega arith)
  work_lowers take_head d m e = omega arith
  work_lowers (take_chain h zero s i bs) d m e = omega arith
  work_lowers (take_chain h (suc k) s i bs) d m e = reads_lowers h k s bs _ d m
  work_lowers (complete_id h l) d m e = omega arith
  work_lowers (complete_len h l) d m e = omega arith
  work_lowers (complete_idx h l) d m e = omega arith

  abbrev working : Trace → Worked
  working t = work w t.device.doing t.device t.memory

  pub tick_open : (t : Trace) → busy device t ≡ true → event w tick t ≡ works [] (working t) t
  unfolding event
  tick_open t e = rw e

  module _ (Inv : Trace → Type 0) (keeps : (e : Event) (t : Trace) → Inv t → Inv (event w e t)) (sane : (t : Trace) → Inv t → Sane w t) where
    pub ticks_close : (b : ℕ) (t : Trace) → Inv t → ticks_most w.n t.device.doing ≤ b → busy device (trace w (replicate b tick) t) ≡ false
    unfolding trace
    ticks_close zero t v l =
        by_test (busy device t) (λ o. absurd (omega (arith, work_lowers t.device.doing t.device t.memory o))) (λ o. o)
    ticks_close (suc b) t v l =
        by_test (busy device t)
        (λ o. ticks_close b (event w tick t) (keeps tick t v)
        (let k : ticks_most w.n (event w tick t).device.doing ≡ ticks_most w.n (working t).device.doing = ap
        (λ r. ticks_most w.n r.device.doing) (tick_open t o) in
        omega (arith, work_lowers t.device.doing t.device t.memory o)))
        (λ o. ap (λ r. busy device (trace w (replicate b tick) r)) (tick_idle t o) ∙ ap (busy device) (rests tick device tick_idle b t o) ∙ o)

    abbrev finish_act : Trace → Trace
    finish_act t = trace w (replicate (w.n + 4) tick) t

    acts_within : (e : Event) (t : Trace) → whose e ≡ device → Inv t → busy device t ≡ true → (e ≡ tick) ⊎ (event w e t ≡ t)
    acts_within tick t o v b = inl refl
    acts_within (act a) t o v b = inr (act_busy_none a t b)
    acts_within (call c) t o v b = absurd (driver≢device o)
    acts_within step t o v b = absurd (driver≢device o)

    act_finished : (t : Trace) → Inv t → busy device (finish_act t) ≡ false
    act_finished t v = ticks_close (w.n + 4) t v (sane t v).ticks

    act_finishes : (es : List Event) (e : Event) (t : Trace) → Inv t → Own (sides w) device es → whose e ≡ device → busy device t ≡ true
        → Inner (sides w) es t → busy device (event w e (events (sides w) es t)) ≡ false → finish_act t ≡ events (sides w) (es ++ (e ∷ [])) t
    act_finishes = finishes tick device tick_idle Inv keeps (w.n + 4) act_finished acts_within

    -- ---- turns

    in_turn_append : (n : ℕ) (xs ys : List Whole) → in_turn n (xs ++ ys) ≡ in_turn n xs ++ in_turn n ys
    in_turn_append n [] ys = refl
    in_turn_append n (x ∷ xs) ys = ap (λ z. steps_of n x ++ z) (in_turn_append n xs ys) ∙ sym (append_assoc (steps_of n x) (in_turn n xs) (in_turn n ys))

    -- one operation alone
    alone : (o : Whole) (t : Trace) → trace w (in_turn w.n (o ∷ [])) t ≡ trace w (steps_of w.n o) t
    alone o t = ap (λ z. trace w z t) (append-nil (steps_of w.n o))

    -- a turn of one event: an opening that ends at once, or a step with nothing open
    short_turn : (e : Event) (t : Trace) → Quiet (sides w) t → Quiet (sides w) (event w e t) → trace w (in_turn w.n (begins (e ∷ []))) t ≡ event w e t
    unfolding trace
    short_turn (call c) t q r = alone (whole_call c) t ∙ rests step driver step_idle (w.n + 4) (event w (call c) t) (r driver)
    short_turn (act a) t q r = alone (whole_act a) t ∙ rests tick device tick_idle (w.n + 4) (event w (act a) t) (r device)
    short_turn step t q r = sym (step_idle t (q driver))
    short_turn tick t q r = sym (tick_idle t (q device))

    -- one of several: it begins with an opening, since a step with nothing open leaves nothing open
    long_turn : (x : Event) (es : List Event) (e : Event) (t : Trace) → Inv t → Quiet (sides w) t → Own (sides w) (whose e) (x ∷ es)
        → Inner (sides w) (x ∷ es) t → Quiet (sides w) (event w e (events (sides w) (x ∷ es) t))
        → trace w (in_turn w.n (begins (x ∷ es ++ (e ∷ [])))) t ≡ events (sides w) (x ∷ es ++ (e ∷ [])) t
    unfolding trace
    long_turn (call c) es e t v q o n r =
        alone (whole_call c) t
        ∙ call_finishes Inv keeps sane es e (event w (call c) t) (keeps (call c) t v) (subst (λ s. Own (sides w) s es) (sym o.0) o.1) (sym o.0) n.0 n.1 (r driver)
    long_turn (act a) es e t v q o n r =
        alone (whole_act a) t
        ∙ act_finishes es e (event w (act a) t) (keeps (act a) t v) (subst (λ s. Own (sides w) s es) (sym o.0) o.1) (sym o.0) n.0 n.1 (r device)
    long_turn step es e t v q o n r = absurd (true≢false (sym n.0 ∙ ap (busy driver) (step_idle t (q driver)) ∙ q driver))
    long_turn tick es e t v q o n r = absurd (true≢false (sym n.0 ∙ ap (busy device) (tick_idle t (q device)) ∙ q device))

    turn_whole : (before : List Event) (e : Event) (t : Trace) → Inv t → Quiet (sides w) t → Whole-turn (sides w) (record { before = before; last = e }) t
        → trace w (in_turn w.n (begins (before ++ (e ∷ [])))) t ≡ events (sides w) (before ++ (e ∷ [])) t
    turn_whole [] e t v q h = short_turn e t q h.quiet
    turn_whole (x ∷ es) e t v q h =
        long_turn x es e t v q h.own h.inner (subst (Quiet (sides w)) (events_append (sides w) (x ∷ es) (e ∷ []) t) h.quiet)

    -- THE LAW: turns are whole calls and whole acts
    turns_whole : (ts : List (Turn (sides w))) (t u : Trace) → Inv t → Quiet (sides w) t → Turned (sides w) ts t u
        → trace w (in_turn w.n (operations w ts)) t ≡ u
    unfolding trace
    turns_whole [] t u v q h = h
    turns_whole (r ∷ rs) t u v q h =
        let es : List Event = events_of (sides w) r in
        let ws : List Whole = operations w rs in
        ap (λ z. trace w z t) (in_turn_append w.n (begins es) ws)
        ∙ trace_append (in_turn w.n (begins es)) (in_turn w.n ws) t
        ∙ ap (trace w (in_turn w.n ws)) (turn_whole r.before r.last t v q h.0)
        ∙ turns_whole rs (events (sides w) es t) u (events_keep (sides w) Inv keeps es t v) h.0.quiet h.1

-- THE REDUCTION OF DEMAND 3: events that begin and end with nothing open, and change places as `Swaps` asks, leave what whole calls and whole acts leave, in the
-- order of their last events
pub whole_order : (w : Wiring) (Inv : Trace → Type 0) → Swaps (sides w) Inv → ((t : Trace) → Inv t → Sane w t)
    → (es : List Event) (t : Trace) → Inv t → Quiet (sides w) t → Quiet (sides w) (trace w es t)
    → trace w (in_turn w.n (by_last w es t)) t ≡ trace w es t
whole_order w Inv h sane es t v q r =
    let e : events (sides w) es t ≡ trace w es t = events_trace w es t in
    let o : Ordered (sides w) es (turns (sides w) [] es t) t (events (sides w) es t) = in_turns (sides w) Inv h es t v q (subst (Quiet (sides w)) (sym e) r) in
    turns_whole w Inv h.keeps sane (turns (sides w) [] es t) t (events (sides w) es t) v q o.turned ∙ e
