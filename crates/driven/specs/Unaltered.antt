-- The driver's events that a trace does not count alter nothing: a call that is refused as Busy, and a step with none open.
use Rattle.std.specs.Prelude.{◌≡◌, false, ℕ}
use Rattle.std.proofs.Math.Path.{refl, subst}
use Rattle.std.proofs.Common.{sym, ◌∙◌, arith}
use Rattle.lists.specs.Tests.{either}
use Rattle.virtio.specs.Memory.{Memory}
use Rattle.rules.specs.Record.{Queue, is_open}
use Rattle.rules.specs.Answer.{Outcome, Busy, unless}
use Rattle.rules.specs.Calls.{add_refusal, call_refusal, step_refusal, count_refusal, opened, open_add, open_pop, open_peek, moves, run, step, can_pop, should_notify, set_dev_notify, available_desc}
use Rattle.laws.specs.CallChanges.{unless_holds}
use Rattle.laws.specs.Runs.{moves_closed}
use Rattle.mixing.specs.Mix.{Call, add, pop_used_call, peek_used_call, can_pop_call, should_notify_call, available_desc_call, set_dev_notify_call, opening}

module _ (q : Queue) (m : Memory) where
  pub record Unaltered (o : Outcome) : Type 0 where
    pub same_queue : o.queue ≡ q
    pub same_memory : o.memory ≡ m

  abbrev IfBusy : Outcome → Type 0
  IfBusy o = o.answer ≡ Busy → Unaltered o

  -- a refusal alters nothing, and an outcome with answer 0 is not Busy
  unless_busy : (number : ℕ) (o : Outcome) → o.answer ≡ 0 → IfBusy (unless number q m o)
  unless_busy number o z =
      unless_holds IfBusy number q m o (λ e. record { same_queue = refl; same_memory = refl })
      (λ k e. let y : ◌≡◌ {A = ℕ} 0 Busy = sym z ∙ e in absurd (omega arith))

  -- THE LAWS
  pub busy_unaltered : (c : Call) → (opening c q m).answer ≡ Busy → Unaltered (opening c q m)
  unfolding open_add open_pop open_peek can_pop should_notify set_dev_notify available_desc
  busy_unaltered (add bs) = unless_busy (add_refusal q m bs) _ refl
  busy_unaltered (pop_used_call t bs) = unless_busy (call_refusal q m) _ refl
  busy_unaltered peek_used_call = unless_busy (call_refusal q m) _ refl
  busy_unaltered can_pop_call = unless_busy (call_refusal q m) _ refl
  busy_unaltered should_notify_call = unless_busy (call_refusal q m) _ refl
  busy_unaltered available_desc_call = unless_busy (count_refusal q) _ refl
  busy_unaltered (set_dev_notify_call b) =
      unless_busy (call_refusal q m) _ (either (λ (o : Outcome). o.answer ≡ 0) q.modes.event_idx _ _ (λ e. refl) (λ e. refl))

  pub idle_unaltered : is_open q.call ≡ false → Unaltered (step q m)
  unfolding run
  idle_unaltered e =
      unless_holds Unaltered (step_refusal q m) q m (moves 1 (opened q m)) (record { same_queue = refl; same_memory = refl })
      (λ z. subst Unaltered (sym (moves_closed 1 (opened q m) e)) (record { same_queue = refl; same_memory = refl }))
