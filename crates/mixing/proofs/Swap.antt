-- An event of the driver and one of the device change places, where one of them leaves its operation open: what the reduction of Turns asks.
use Rattle.std.specs.Prelude.{◌≡◌, Bool, cond, ◌⊎◌, ℕ, eqb}
use Rattle.std.proofs.Math.Path.{refl}
use Rattle.std.proofs.Common.{sym, ap, subst, ◌∙◌, true≢false, inl, inr}
use Rattle.std.proofs.Math.Bool.{true, false}
use mathlib.Core.List.{List, [], ◌∷◌}
use Rattle.lists.specs.Tests.{by_test}
use Rattle.virtio.specs.Memory.{Memory, Place}
use Rattle.rules.specs.Record.{Queue, is_open}
use Rattle.rules.specs.Answer.{Outcome, Busy}
use Rattle.rules.specs.Step.{move}
use Rattle.rules.specs.Calls.{step as step_of}
use Rattle.mixing.specs.Device.{Wiring, Act, Device, Worked, acting, begin, work}
use Rattle.mixing.specs.Mix.{Call, Event, call, step, act, tick, Trace, opening, further, drives, works, event}
use Rattle.mixing.specs.Turns.{Swaps}
use Rattle.mixing.proofs.Whole.{Side, driver, device, driver≢device, whose, busy, sides, Sane, step_idle, tick_idle, call_busy_none, act_busy_none, step_open, tick_open}
use Rattle.mixing.specs.Fields.{put}
use Rattle.mixing.specs.Facts.{Notes, Facts, Inv}
use Rattle.mixing.proofs.Kept.{sane, wired, keeps}
use Rattle.mixing.specs.Seen.{Filled, step_filled, opening_filled}
use Rattle.mixing.proofs.SwapLoads.{over}
use Rattle.mixing.specs.SwapStores.{onto, Given, move_onto, opening_onto}
use Rattle.mixing.proofs.DeviceDoes.{Does, sees, puts, work_does, begin_does}

-- ---- what a call does over the device's memory, and the device over the call's

-- both come to what they come to over m, but for the memory, which is one
record Pair (calls : Memory → Outcome) (worked : Memory → Worked) (m : Memory) : Type 0 where
  memory : Memory
  answers : calls (worked m).memory ≡ onto (calls m) memory
  results : worked (calls m).memory ≡ over (worked m) memory

-- what is known of a call's event
record Drives (q : Queue) (g : Notes) (m : Memory) (calls : Memory → Outcome) : Type 0 where
  filled : Filled q g m (is_open (calls m).queue.call) (calls m).memory
  beside : (open? : Bool) (p : Place) (v : ℕ) → Given q g open? p v → (open? ≡ true) ⊎ (is_open (calls m).queue.call ≡ true)
      → calls (put q p v m) ≡ onto (calls m) (put q p v (calls m).memory)

turned : {A B : Type 0} → A ⊎ B → B ⊎ A
turned (inl a) = inr a
turned (inr b) = inl b

pair : (q : Queue) (g : Notes) (m : Memory) (calls : Memory → Outcome) (worked : Memory → Worked) → Drives q g m calls → Does q g m worked
    → (is_open (calls m).queue.call ≡ true) ⊎ (acting (worked m).device.doing ≡ true) → Pair calls worked m
pair q g m calls worked c (sees e s) i = record {
  memory = (calls m).memory;
  answers = ap calls e;
  results = s (is_open (calls m).queue.call) (calls m).memory c.filled i;
}
pair q g m calls worked c (puts p v a s) i = record {
  memory = put q p v (calls m).memory;
  answers = ap calls (ap (λ r. r.memory) (s m)) ∙ c.beside (acting (worked m).device.doing) p v a (turned i);
  results = s (calls m).memory;
}

-- ---- so the two events change places

module _ (w : Wiring) where
  -- an event of the driver that comes to a call's outcome, or to nothing where b says so; one of the device that comes to `worked`
  both : (x y : Event) (t : Trace) (b : Bool) (cs : List Call) (began : List Act) (calls : Memory → Outcome) (worked : Memory → Worked)
      → event w x t ≡ cond b t (drives cs (calls t.memory) t)
      → event w x (works began (worked t.memory) t)
      ≡ cond b (works began (worked t.memory) t) (drives cs (calls (worked t.memory).memory) (works began (worked t.memory) t))
      → event w y t ≡ works began (worked t.memory) t
      → event w y (drives cs (calls t.memory) t) ≡ works began (worked (calls t.memory).memory) (drives cs (calls t.memory) t)
      → Pair calls worked t.memory
      → event w y (event w x t) ≡ event w x (event w y t)
  both x y t true cs began calls worked a b c d p = ap (event w y) a ∙ c ∙ sym (ap (event w x) c ∙ b)
  both x y t false cs began calls worked a b c d p =
      ap (event w y) a ∙ d
      ∙ ap (λ z. works began z (drives cs (calls t.memory) t)) p.results
      ∙ sym (ap (event w x) c ∙ b ∙ ap (λ z. drives cs z (works began (worked t.memory) t)) p.answers)

  -- ---- whose event it is, it opens and closes nothing of the other side

  device_queue : (y : Event) (t : Trace) → whose y ≡ device → (event w y t).queue ≡ t.queue
  unfolding event
  device_queue (call c) t e = absurd (driver≢device e)
  device_queue step t e = absurd (driver≢device e)
  device_queue (act a) t e = go (busy device t)
    where
      go : (b : Bool) → (cond b t (works (a ∷ []) (begin w a t.device t.memory) t)).queue ≡ t.queue
      go true = refl
      go false = refl
  device_queue tick t e = go (busy device t)
    where
      go : (b : Bool) → (cond b (works [] (work w t.device.doing t.device t.memory) t) t).queue ≡ t.queue
      go true = refl
      go false = refl

  driver_device : (x : Event) (t : Trace) → whose x ≡ driver → (event w x t).device ≡ t.device
  unfolding event
  driver_device (call c) t e = go (eqb (opening c t.queue t.memory).answer Busy)
    where
      go : (b : Bool) → (cond b t (drives (c ∷ []) (opening c t.queue t.memory) t)).device ≡ t.device
      go true = refl
      go false = refl
  driver_device step t e = go (busy driver t) (further t.made (step_of t.queue t.memory))
    where
      go : (b : Bool) (o : Outcome) → (cond b (drives [] o t) t).device ≡ t.device
      go true o = refl
      go false o = refl
  driver_device (act a) t e = absurd (driver≢device (sym e))
  driver_device tick t e = absurd (driver≢device (sym e))

  pub apart : (e : Event) (i : Side) (t : Trace) → Inv w t → (whose e ≡ i → ⊥) → busy i (event w e t) ≡ busy i t
  apart (call c) driver t v n = absurd (n refl)
  apart (call c) device t v n = ap (λ d. acting d.doing) (driver_device (call c) t refl)
  apart step driver t v n = absurd (n refl)
  apart step device t v n = ap (λ d. acting d.doing) (driver_device step t refl)
  apart (act a) driver t v n = ap (λ q. is_open q.call) (device_queue (act a) t refl)
  apart (act a) device t v n = absurd (n refl)
  apart tick driver t v n = ap (λ q. is_open q.call) (device_queue tick t refl)
  apart tick device t v n = absurd (n refl)

  -- ---- events that do something

  abbrev stepping : ℕ → Queue → Memory → Outcome
  stepping k q x = further k (move q x)

  call_is : (c : Call) (t : Trace)
      → event w (call c) t ≡ cond (eqb (opening c t.queue t.memory).answer Busy) t (drives (c ∷ []) (opening c t.queue t.memory) t)
  unfolding event
  call_is c t = refl

  pub act_is : (a : Act) (t : Trace) → busy device t ≡ false → event w (act a) t ≡ works (a ∷ []) (begin w a t.device t.memory) t
  unfolding event
  act_is a t e = rw e

  module _ (t : Trace) (v : Inv w t) where
    abbrev q : Queue
    q = t.queue

    abbrev m : Memory
    m = t.memory

    abbrev d : Device
    d = t.device

    abbrev g : Notes
    g = v.notes

    abbrev f : Facts w.base t.queue t.memory t.device v.notes
    f = v.facts

    step_drives : Drives q g m (stepping t.made q)
    step_drives = record {
      filled = step_filled w.base q m d g f;
      beside = λ o p z c i. ap (further t.made) (move_onto w.base q m d g f o p z c i);
    }

    call_drives : (c : Call) → busy driver t ≡ false → Drives q g m (opening c q)
    call_drives c r = record {
      filled = opening_filled w.base q m d g f c r;
      beside = λ o p z k i. opening_onto w.base q m d g f o p z k r c i;
    }

    tick_does : Does q g m (work w d.doing d)
    tick_does = subst (λ z. Does q g m (work z d.doing d)) (wired w t v) (work_does w.base q m d g f)

    act_does : (a : Act) → Does q g m (begin w a d)
    act_does a = subst (λ z. Does q g m (begin z a d)) (wired w t v) (begin_does w.base q m d g f a)

    -- a call is opened or a step made, and an act is opened or a step made
    pub swap_call : (c : Call) (y : Event) (began : List Act) (worked : Memory → Worked) → busy driver t ≡ false
        → event w y t ≡ works began (worked m) t
        → ((o : Outcome) → event w y (drives (c ∷ []) o t) ≡ works began (worked o.memory) (drives (c ∷ []) o t))
        → Does q g m worked → (is_open (opening c q m).queue.call ≡ true) ⊎ (acting (worked m).device.doing ≡ true)
        → event w y (event w (call c) t) ≡ event w (call c) (event w y t)
    swap_call c y began worked r a b s i =
        let p : Pair (opening c q) worked m = pair q g m (opening c q) worked (call_drives c r) s i in
        both (call c) y t (eqb (opening c q m).answer Busy) (c ∷ []) began (opening c q) worked (call_is c t)
        (call_is c (works began (worked m) t)
        ∙ ap (λ (z : Outcome). cond (eqb z.answer Busy) (works began (worked m) t)
        (drives (c ∷ []) (opening c q (worked m).memory) (works began (worked m) t))) p.answers)
        a (b (opening c q m)) p

    pub swap_step : (y : Event) (began : List Act) (worked : Memory → Worked) → busy driver t ≡ true
        → event w y t ≡ works began (worked m) t
        → ((o : Outcome) → event w y (drives [] o t) ≡ works began (worked o.memory) (drives [] o t))
        → Sane w (works began (worked m) t)
        → Does q g m worked → (is_open (move q m).queue.call ≡ true) ⊎ (acting (worked m).device.doing ≡ true)
        → event w y (event w step t) ≡ event w step (event w y t)
    swap_step y began worked r a b k s i =
        both step y t false [] began (stepping t.made q) worked (step_open w t (sane w t v) r) (step_open w (works began (worked m) t) k r)
        a (b (stepping t.made q m)) (pair q g m (stepping t.made q) worked step_drives s i)

  -- ---- events that do nothing

  nothing_driver : (x y : Event) (t : Trace) → event w x t ≡ t → event w x (event w y t) ≡ event w y t
      → event w y (event w x t) ≡ event w x (event w y t)
  nothing_driver x y t a b = ap (event w y) a ∙ sym b

  nothing_device : (x y : Event) (t : Trace) → event w y t ≡ t → event w y (event w x t) ≡ event w x t
      → event w y (event w x t) ≡ event w x (event w y t)
  nothing_device x y t a b = b ∙ ap (event w x) (sym a)

  -- which of the two leaves its operation open
  abbrev Inner : Event → Event → Trace → Type 0
  Inner x y t = (busy driver (event w x t) ≡ true) ⊎ (busy device (event w y t) ≡ true)

  step_inner : (y : Event) (t : Trace) (v : Inv w t) → busy driver t ≡ true → (x : Worked) → (event w y t).device ≡ x.device → Inner step y t
      → (is_open (move t.queue t.memory).queue.call ≡ true) ⊎ (acting x.device.doing ≡ true)
  step_inner y t v r x e (inl i) = inl (sym (ap (λ u. is_open u.queue.call) (step_open w t (sane w t v) r)) ∙ i)
  step_inner y t v r x e (inr i) = inr (sym (ap (λ d. acting d.doing) e) ∙ i)

  call_inner : (c : Call) (y : Event) (t : Trace) → busy driver t ≡ false → (x : Worked) → (event w y t).device ≡ x.device → Inner (call c) y t
      → (is_open (opening c t.queue t.memory).queue.call ≡ true) ⊎ (acting x.device.doing ≡ true)
  call_inner c y t r x e (inl i) = inl (opens (eqb (opening c t.queue t.memory).answer Busy) (ap (λ u. busy driver u) (sym (call_is c t)) ∙ i))
    where
      opens : (b : Bool) → busy driver (cond b t (drives (c ∷ []) (opening c t.queue t.memory) t)) ≡ true
          → is_open (opening c t.queue t.memory).queue.call ≡ true
      opens true z = absurd (true≢false (sym z ∙ r))
      opens false z = z
  call_inner c y t r x e (inr i) = inr (sym (ap (λ d. acting d.doing) e) ∙ i)

  -- ---- all cases

  step_tick : (t : Trace) → Inv w t → Inner step tick t → event w tick (event w step t) ≡ event w step (event w tick t)
  step_tick t v i =
      by_test (busy driver t)
      (λ r. by_test (busy device t)
      (λ s. let e : event w tick t ≡ works [] (work w t.device.doing t.device t.memory) t = tick_open w t s in
      swap_step t v tick [] (work w t.device.doing t.device) r e (λ o. tick_open w (drives [] o t) s)
      (subst (Sane w) e (sane w (event w tick t) (keeps w tick t v)))
      (tick_does t v) (step_inner tick t v r (work w t.device.doing t.device t.memory) (ap (λ u. u.device) e) i))
      (λ s. nothing_device step tick t (tick_idle w t s) (tick_idle w (event w step t) (apart step device t v driver≢device ∙ s))))
      (λ r. nothing_driver step tick t (step_idle w t r) (step_idle w (event w tick t) (apart tick driver t v (λ z. driver≢device (sym z)) ∙ r)))

  step_act : (a : Act) (t : Trace) → Inv w t → Inner step (act a) t → event w (act a) (event w step t) ≡ event w step (event w (act a) t)
  step_act a t v i =
      by_test (busy driver t)
      (λ r. by_test (busy device t)
      (λ s. nothing_device step (act a) t (act_busy_none w a t s) (act_busy_none w a (event w step t) (apart step device t v driver≢device ∙ s)))
      (λ s. let e : event w (act a) t ≡ works (a ∷ []) (begin w a t.device t.memory) t = act_is a t s in
      swap_step t v (act a) (a ∷ []) (begin w a t.device) r e (λ o. act_is a (drives [] o t) s)
      (subst (Sane w) e (sane w (event w (act a) t) (keeps w (act a) t v)))
      (act_does t v a) (step_inner (act a) t v r (begin w a t.device t.memory) (ap (λ u. u.device) e) i)))
      (λ r. nothing_driver step (act a) t (step_idle w t r)
      (step_idle w (event w (act a) t) (apart (act a) driver t v (λ z. driver≢device (sym z)) ∙ r)))

  call_tick : (c : Call) (t : Trace) → Inv w t → Inner (call c) tick t → event w tick (event w (call c) t) ≡ event w (call c) (event w tick t)
  call_tick c t v i =
      by_test (busy driver t)
      (λ r. nothing_driver (call c) tick t (call_busy_none w c t (sane w t v) r)
      (call_busy_none w c (event w tick t) (sane w (event w tick t) (keeps w tick t v)) (apart tick driver t v (λ z. driver≢device (sym z)) ∙ r)))
      (λ r. by_test (busy device t)
      (λ s. let e : event w tick t ≡ works [] (work w t.device.doing t.device t.memory) t = tick_open w t s in
      swap_call t v c tick [] (work w t.device.doing t.device) r e (λ o. tick_open w (drives (c ∷ []) o t) s)
      (tick_does t v) (call_inner c tick t r (work w t.device.doing t.device t.memory) (ap (λ u. u.device) e) i))
      (λ s. nothing_device (call c) tick t (tick_idle w t s) (tick_idle w (event w (call c) t) (apart (call c) device t v driver≢device ∙ s))))

  call_act : (c : Call) (a : Act) (t : Trace) → Inv w t → Inner (call c) (act a) t
      → event w (act a) (event w (call c) t) ≡ event w (call c) (event w (act a) t)
  call_act c a t v i =
      by_test (busy driver t)
      (λ r. nothing_driver (call c) (act a) t (call_busy_none w c t (sane w t v) r)
      (call_busy_none w c (event w (act a) t) (sane w (event w (act a) t) (keeps w (act a) t v))
      (apart (act a) driver t v (λ z. driver≢device (sym z)) ∙ r)))
      (λ r. by_test (busy device t)
      (λ s. nothing_device (call c) (act a) t (act_busy_none w a t s)
      (act_busy_none w a (event w (call c) t) (apart (call c) device t v driver≢device ∙ s)))
      (λ s. let e : event w (act a) t ≡ works (a ∷ []) (begin w a t.device t.memory) t = act_is a t s in
      swap_call t v c (act a) (a ∷ []) (begin w a t.device) r e (λ o. act_is a (drives (c ∷ []) o t) s)
      (act_does t v a) (call_inner c (act a) t r (begin w a t.device t.memory) (ap (λ u. u.device) e) i)))

  -- THE LAW
  swaps : (a b : Event) (t : Trace) → Inv w t → (whose a ≡ whose b → ⊥) → busy (whose a) (event w a t) ≡ true
      → event w b (event w a t) ≡ event w a (event w b t)
  swaps (call c) (call x) t v n i = absurd (n refl)
  swaps (call c) step t v n i = absurd (n refl)
  swaps (call c) (act x) t v n i = call_act c x t v (inl i)
  swaps (call c) tick t v n i = call_tick c t v (inl i)
  swaps step (call x) t v n i = absurd (n refl)
  swaps step step t v n i = absurd (n refl)
  swaps step (act x) t v n i = step_act x t v (inl i)
  swaps step tick t v n i = step_tick t v (inl i)
  swaps (act a) (call x) t v n i = sym (call_act x a t v (inr i))
  swaps (act a) step t v n i = sym (step_act a t v (inr i))
  swaps (act a) (act x) t v n i = absurd (n refl)
  swaps (act a) tick t v n i = absurd (n refl)
  swaps tick (call x) t v n i = sym (call_tick x t v (inr i))
  swaps tick step t v n i = sym (step_tick t v (inr i))
  swaps tick (act x) t v n i = absurd (n refl)
  swaps tick tick t v n i = absurd (n refl)

  pub queue_swaps : Swaps (sides w) (Inv w)
  queue_swaps = record { keeps = keeps w; apart = apart; swaps = swaps }
