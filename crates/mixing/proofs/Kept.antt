-- Every event keeps the invariant; and what it says of the record, the memory and the open act.
use Rattle.std.specs.Prelude.{◌≡◌, Bool, cond, ◌+◌, ◌≤◌, eqb}
use Rattle.std.proofs.Common.{sym, ap, ◌∙◌, arith}
use Rattle.std.proofs.Math.Path.{subst}
use Rattle.std.proofs.Math.Bool.{true, false}
use mathlib.Core.List.{List, [], ◌∷◌}
use Rattle.lists.specs.Tests.{by_test}
use Rattle.virtio.specs.Memory.{Memory}
use Rattle.rules.specs.Record.{Queue}
use Rattle.rules.specs.Answer.{Outcome, Busy}
use Rattle.rules.specs.Step.{move}
use Rattle.laws.specs.Regions.{Shaped}
use Rattle.laws.specs.StepsAlike.{move_shaped}
use Rattle.mixing.specs.Device.{Wiring, Act, Doing, resting, take_idx, take_head, take_chain, complete_id, complete_len, complete_idx, Device, Worked, begin, work}
use Rattle.mixing.specs.Mix.{Call, Event, call, step, act, tick, Trace, opening, further, drives, works, event}
use Rattle.mixing.proofs.Whole.{driver, device, busy, ticks_most, Sane, step_open, tick_open, step_idle, tick_idle}
use Rattle.mixing.specs.Facts.{Notes, DeviceAt, Facts, Inv}
use Rattle.mixing.proofs.DeviceKeeps.{wire, work_left, begin_left}
use Rattle.mixing.specs.PopSteps.{move_left}
use Rattle.mixing.specs.Opens.{opening_left}
use Rattle.mixing.specs.Shaping.{opening_shaped}

module _ (w : Wiring) where
  -- ---- what the invariant says

  ticks_low : (q : Queue) (m : Memory) (d : Device) (g : Notes) (a : Doing) → DeviceAt q m d g a → ticks_most q.n a ≤ q.n + 4
  ticks_low q m d g resting x = omega arith
  ticks_low q m d g take_idx x = omega arith
  ticks_low q m d g take_head x = omega arith
  ticks_low q m d g (take_chain h k t i bs) x = let l : k ≤ q.n + 1 = x.3 in omega arith
  ticks_low q m d g (complete_id h l) x = omega arith
  ticks_low q m d g (complete_len h l) x = omega arith
  ticks_low q m d g (complete_idx h l) x = omega arith

  pub sane : (t : Trace) → Inv w t → Sane w t
  sane t v = record {
    good = v.facts.good;
    fit = v.facts.fit;
    size = v.size;
    ticks = subst (λ n. ticks_most n t.device.doing ≤ n + 4) v.size
        (ticks_low t.queue t.memory t.device v.notes t.device.doing v.facts.at_device);
  }

  -- the wiring is the queue's
  pub wired : (t : Trace) → Inv w t → wire w.base t.queue ≡ w
  wired t v = λ i. record { n = v.size i; legacy = v.layout i; base = w.base }

  -- ---- the driver

  drives_keep : (t : Trace) → Inv w t → (cs : List Call) (o : Outcome) → Shaped o.queue t.queue
      → (g : Notes) × Facts w.base o.queue o.memory t.device g → Inv w (drives cs o t)
  drives_keep t v cs o s f = record { notes = f.0; size = s.n ∙ v.size; layout = ap (λ x. x.legacy) s.modes ∙ v.layout; facts = f.1 }

  -- ---- the device

  works_keep : (t : Trace) → Inv w t → (began : List Act) (x : Worked) → (g : Notes) × Facts w.base t.queue x.memory x.device g
      → Inv w (works began x t)
  works_keep t v began x f = record { notes = f.0; size = v.size; layout = v.layout; facts = f.1 }

  -- ---- THE LAW

  pub keeps : (e : Event) (t : Trace) → Inv w t → Inv w (event w e t)
  unfolding event
  keeps (call c) t v = go (eqb (opening c t.queue t.memory).answer Busy)
    where
      go : (b : Bool) → Inv w (cond b t (drives (c ∷ []) (opening c t.queue t.memory) t))
      go true = v
      go false =
          drives_keep t v (c ∷ []) (opening c t.queue t.memory) (opening_shaped c t.queue t.memory)
          (opening_left w.base t.queue t.memory t.device v.notes v.facts c)
  keeps step t v =
      by_test (busy driver t)
      (λ o. subst (Inv w) (sym (step_open w t (sane t v) o))
      (drives_keep t v [] (further t.made (move t.queue t.memory)) (move_shaped t.queue t.memory)
      (move_left w.base t.queue t.memory t.device v.notes v.facts)))
      (λ o. subst (Inv w) (sym (step_idle w t o)) v)
  keeps (act a) t v = go (busy device t)
    where
      go : (b : Bool) → Inv w (cond b t (works (a ∷ []) (begin w a t.device t.memory) t))
      go true = v
      go false =
          works_keep t v (a ∷ []) (begin w a t.device t.memory)
          (subst (λ z. (g : Notes) × Facts w.base t.queue (begin z a t.device t.memory).memory
          (begin z a t.device t.memory).device g) (wired t v)
          (begin_left w.base t.queue t.memory t.device v.notes v.facts a))
  keeps tick t v =
      by_test (busy device t)
      (λ o. subst (Inv w) (sym (tick_open w t o))
      (works_keep t v [] (work w t.device.doing t.device t.memory)
      (subst (λ z. (g : Notes) × Facts w.base t.queue (work z t.device.doing t.device t.memory).memory
      (work z t.device.doing t.device t.memory).device g) (wired t v)
      (work_left w.base t.queue t.memory t.device v.notes v.facts))))
      (λ o. subst (Inv w) (sym (tick_idle w t o)) v)
