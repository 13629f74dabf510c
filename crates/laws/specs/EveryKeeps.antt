-- Every call leaves a good record good, whatever its arguments and whatever the memory holds, all calls in one law; and those of a single step leave it as
-- it is.
use Rattle.std.specs.Prelude.{◌≡◌, Bool, cond, List, ℕ}
use Rattle.std.proofs.Math.Path.{refl}
use Rattle.std.proofs.Common.{sym, subst}
use Rattle.std.proofs.Math.Bool.{true, false}
use Rattle.virtio.specs.declared.Buffer.{Buffer}
use Rattle.virtio.specs.Memory.{Memory}
use Rattle.rules.specs.Record.{Queue}
use Rattle.rules.specs.Answer.{Outcome}
use Rattle.rules.specs.Calls.{call_refusal, count_refusal, open_add, open_pop, open_peek, run, add, pop_used, peek_used, can_pop, should_notify, set_dev_notify, available_desc}
use Rattle.laws.specs.CallKeeps.{Good, run_keeps, open_pop_keeps, open_peek_keeps, pop_keeps, peek_keeps}
use Rattle.laws.specs.Opening.{open_add_keeps, add_keeps}
use Rattle.laws.specs.CallChanges.{unless_holds}

-- ---- the calls of a single step

module _ (q : Queue) (m : Memory) where
  abbrev Same : Outcome → Type 0
  Same o = o.queue ≡ q

  pub can_pop_record : (can_pop q m).queue ≡ q
  unfolding can_pop
  can_pop_record = unless_holds Same (call_refusal q m) q m _ refl (λ z. refl)

  pub should_notify_record : (should_notify q m).queue ≡ q
  unfolding should_notify
  should_notify_record = unless_holds Same (call_refusal q m) q m _ refl (λ z. refl)

  pub set_notify_record : (b : Bool) → (set_dev_notify q m b).queue ≡ q
  unfolding set_dev_notify
  set_notify_record b = unless_holds Same (call_refusal q m) q m _ refl (λ z. go q.modes.event_idx _ _ refl refl)
    where
      go : (e : Bool) (x y : Outcome) → Same x → Same y → Same (cond e x y)
      go true x y f g = f
      go false x y f g = g

  pub available_record : (available_desc q m).queue ≡ q
  unfolding available_desc
  available_record = unless_holds Same (count_refusal q) q m _ refl (λ z. refl)

-- ---- every call

-- P holds of the record that each call leaves; a step is a run with budget 1
pub record EveryRecord (P : Queue → Type 0) (q : Queue) (m : Memory) : Type 0 where
  pub after_open_add : (bs : List Buffer) → P (open_add q m bs).queue
  pub after_open_pop : (t : ℕ) (bs : List Buffer) → P (open_pop q m t bs).queue
  pub after_open_peek : P (open_peek q m).queue
  pub after_run : (b : ℕ) → P (run b q m).queue
  pub after_add : (bs : List Buffer) → P (add q m bs).queue
  pub after_pop : (t : ℕ) (bs : List Buffer) → P (pop_used q m t bs).queue
  pub after_peek : P (peek_used q m).queue
  pub after_can_pop : P (can_pop q m).queue
  pub after_should_notify : P (should_notify q m).queue
  pub after_set_notify : (b : Bool) → P (set_dev_notify q m b).queue
  pub after_available : P (available_desc q m).queue

-- THE LAW
pub every_keeps : (q : Queue) (m : Memory) → Good q → EveryRecord Good q m
every_keeps q m g = record {
  after_open_add = λ bs. open_add_keeps q m bs g;
  after_open_pop = λ t bs. open_pop_keeps q m t bs g;
  after_open_peek = open_peek_keeps q m g;
  after_run = λ b. run_keeps b q m g;
  after_add = λ bs. add_keeps q m bs g;
  after_pop = λ t bs. pop_keeps q m t bs g;
  after_peek = peek_keeps q m g;
  after_can_pop = subst Good (sym (can_pop_record q m)) g;
  after_should_notify = subst Good (sym (should_notify_record q m)) g;
  after_set_notify = λ b. subst Good (sym (set_notify_record q m b)) g;
  after_available = subst Good (sym (available_record q m)) g;
}
