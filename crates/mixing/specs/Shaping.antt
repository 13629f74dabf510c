-- Calls and steps leave the size and the modes.
use Rattle.std.specs.Prelude.{refl, Bool, true, false, cond, ℕ, eqb}
use Rattle.lists.specs.Tests.{either}
use Rattle.virtio.specs.Memory.{Memory}
use Rattle.rules.specs.Record.{Queue}
use Rattle.rules.specs.Answer.{Outcome, refused, unless}
use Rattle.rules.specs.Calls.{add_refusal, call_refusal, count_refusal, open_add, open_pop, open_peek, can_pop, should_notify, set_dev_notify, available_desc}
use Rattle.laws.specs.Regions.{Shaped, add_shaped}
use Rattle.mixing.specs.Mix.{Call, add, pop_used_call, peek_used_call, can_pop_call, should_notify_call, available_desc_call, set_dev_notify_call, opening}

same_shape : (q : Queue) → Shaped q q
same_shape q = record { n = refl; modes = refl }

unless_shaped : (number : ℕ) (q : Queue) (m : Memory) (o : Outcome) → Shaped o.queue q → Shaped (unless number q m o).queue q
unless_shaped number q m o s = go (eqb number 0)
  where
    go : (b : Bool) → Shaped (cond b o (refused number q m)).queue q
    go true = s
    go false = same_shape q

pub opening_shaped : (c : Call) (q : Queue) (m : Memory) → Shaped (opening c q m).queue q
unfolding open_add open_pop open_peek can_pop should_notify set_dev_notify available_desc
opening_shaped (add bs) q m = unless_shaped (add_refusal q m bs) q m _ (add_shaped q bs)
opening_shaped (pop_used_call t bs) q m = unless_shaped (call_refusal q m) q m _ (record { n = refl; modes = refl })
opening_shaped peek_used_call q m = unless_shaped (call_refusal q m) q m _ (record { n = refl; modes = refl })
opening_shaped can_pop_call q m = unless_shaped (call_refusal q m) q m _ (same_shape q)
opening_shaped should_notify_call q m = unless_shaped (call_refusal q m) q m _ (same_shape q)
opening_shaped available_desc_call q m = unless_shaped (count_refusal q) q m _ (same_shape q)
opening_shaped (set_dev_notify_call b) q m = unless_shaped (call_refusal q m) q m _
    (either (λ (o : Outcome). Shaped o.queue q) q.modes.event_idx _ _ (λ e. same_shape q) (λ e. same_shape q))
