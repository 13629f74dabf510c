-- A whole call of demand 3, its opening and then steps of the driver alone, is the rules' whole call: add, pop_used, peek_used, or the call of a single step.
use Rattle.std.specs.Prelude.{◌≡◌, Bool, true, not, length, replicate}
use Rattle.std.proofs.Math.Path.{refl, sym, ap, ap₂}
use Rattle.std.proofs.Common.{◌∙◌, arith}
use Rattle.std.proofs.Math.Bool.{false, cond}
use mathlib.Core.List.{List, [], ◌∷◌, ◌++◌, append-nil}
use Prim.Native.Nat.{ℕ, zero, suc, ◌+◌}
use borrow.Author.Tests.{eq-eqb, ne_eqb}
use Rattle.std.proofs.Math.Dec.{eqb}
use Rattle.lists.specs.Tests.{by_test, by_eq, either}
use Rattle.lists.specs.Pick.{◌when◌, first}
use Rattle.virtio.specs.declared.Buffer.{Buffer}
use Rattle.virtio.specs.Memory.{Memory}
use Rattle.rules.specs.Record.{Queue, is_open}
use Rattle.rules.specs.WellFormed.{no_empty}
use Rattle.rules.specs.Answer.{Outcome, Busy, refused, unless, InvalidParam, QueueFull, EmptyBuffer}
use Rattle.rules.specs.Step.{move}
use Rattle.rules.specs.Calls.{fits, bad_list, full, add_refusal, call_refusal, count_refusal, moves, whole, open_add, open_pop, open_peek, can_pop, should_notify, set_dev_notify, available_desc}
use Rattle.laws.specs.WellFormedIs.{means_well_formed}
use Rattle.laws.specs.CallKeeps.{Good, move_keeps}
use Rattle.laws.specs.Changes.{SameLengths}
use Rattle.laws.specs.Still.{lengths_stay}
use Rattle.laws.specs.EveryKeeps.{every_keeps, can_pop_record, should_notify_record, set_notify_record, available_record}
use Rattle.laws.specs.Runs.{onward, moves_closed, moves_open}
use Rattle.laws.specs.Regions.{still_fits, moves_fit}
use Rattle.laws.specs.StepsAlike.{move_shaped}
use Rattle.mixing.specs.Device.{Wiring}
use Rattle.mixing.specs.Mix.{Call, add, pop_used_call, peek_used_call, can_pop_call, should_notify_call, available_desc_call, set_dev_notify_call, step, Trace, Answer, opening, answers_of, drives, event, trace}
use Rattle.mixing.specs.Demand.{whole_call, steps_of}
use Rattle.mixing.proofs.Whole.{driver, busy, Sane, step_open, step_idle}
use Rattle.mixing.specs.Shaping.{opening_shaped}
use Rattle.mixing.specs.WholeCalls.{wholly}

-- what the openings of one call can be: refused with nothing open, or begun with answer 0
abbrev Opens : Queue → Outcome → Type 0
Opens q o = (o.answer ≡ 0 → ⊥) → o.queue ≡ q

unless_opens : (number : ℕ) (q : Queue) (m : Memory) (o : Outcome) → o.answer ≡ 0 → Opens q (unless number q m o)
unless_opens number q m o e = go (eqb number 0)
  where
    go : (b : Bool) → Opens q (cond b o (refused number q m))
    go true n = absurd (n e)
    go false n = refl

-- a call that ends at once is whole
closed_whole : (n : ℕ) (q : Queue) (o : Outcome) → is_open q.call ≡ false → o.queue ≡ q → moves n o ≡ o
closed_whole n q o r e = moves_closed n o (ap (λ x. is_open x.call) e ∙ r)

-- and one that is opened is the opening and its moves, refused or not
whole_moves : (n : ℕ) (q : Queue) (o : Outcome) → is_open q.call ≡ false → Opens q o → moves (n + 4) o ≡ whole n o
whole_moves n q o r p =
    by_eq o.answer 0
    (λ e. ap (λ b. cond b (moves (n + 4) o) o) (sym (eq-eqb o.answer 0 e)))
    (λ e. closed_whole (n + 4) q o r (p e) ∙ ap (λ b. cond b (moves (n + 4) o) o) (sym (ne_eqb o.answer 0 e)))

-- ---- with nothing open no opening is refused as Busy

module _ (q : Queue) (m : Memory) (g : Good q) (f : fits q m ≡ true) (r : is_open q.call ≡ false) where
  three : (a b c : Bool) → first ((InvalidParam when a) ∷ (QueueFull when b) ∷ (EmptyBuffer when c) ∷ []) ≡ Busy → ⊥
  three true b c e = omega arith
  three false true c e = omega arith
  three false false true e = omega arith
  three false false false e = omega arith

  add_free : (bs : List Buffer) → add_refusal q m bs ≡ Busy → ⊥
  add_free bs e = three (bad_list bs) (full q (length bs)) (not (no_empty bs)) (sym (rw (means_well_formed q g.well, f, r)) ∙ e)

  call_free : call_refusal q m ≡ 0
  call_free = rw (means_well_formed q g.well, f, r)

  count_free : count_refusal q ≡ 0
  count_free = rw (means_well_formed q g.well, r)

  unless_free : (number : ℕ) (o : Outcome) → (number ≡ Busy → ⊥) → o.answer ≡ 0 → (unless number q m o).answer ≡ Busy → ⊥
  unless_free number o n z = go (eqb number 0)
    where
      go : (b : Bool) → (cond b o (refused number q m)).answer ≡ Busy → ⊥
      go true e = let y : ◌≡◌ {A = ℕ} 0 Busy = sym z ∙ e in omega arith
      go false e = n e

  not_busy : (number : ℕ) → number ≡ 0 → number ≡ Busy → ⊥
  not_busy number e z = omega arith

  opening_free : (c : Call) → (opening c q m).answer ≡ Busy → ⊥
  unfolding open_add open_pop open_peek can_pop should_notify set_dev_notify available_desc
  opening_free (add bs) = unless_free (add_refusal q m bs) _ (add_free bs) refl
  opening_free (pop_used_call t bs) = unless_free (call_refusal q m) _ (not_busy (call_refusal q m) call_free) refl
  opening_free peek_used_call = unless_free (call_refusal q m) _ (not_busy (call_refusal q m) call_free) refl
  opening_free can_pop_call = unless_free (call_refusal q m) _ (not_busy (call_refusal q m) call_free) refl
  opening_free should_notify_call = unless_free (call_refusal q m) _ (not_busy (call_refusal q m) call_free) refl
  opening_free available_desc_call = unless_free (count_refusal q) _ (not_busy (count_refusal q) count_free) refl
  opening_free (set_dev_notify_call b) =
      unless_free (call_refusal q m) _ (not_busy (call_refusal q m) call_free)
      (either (λ (o : Outcome). o.answer ≡ 0) q.modes.event_idx _ _ (λ e. refl) (λ e. refl))

  -- an opening and its moves are the whole call
  opening_whole : (c : Call) → moves (q.n + 4) (opening c q m) ≡ wholly c q m
  unfolding open_add open_pop open_peek
  opening_whole (add bs) = whole_moves q.n q (open_add q m bs) r (unless_opens (add_refusal q m bs) q m _ refl)
  opening_whole (pop_used_call t bs) = whole_moves q.n q (open_pop q m t bs) r (unless_opens (call_refusal q m) q m _ refl)
  opening_whole peek_used_call = whole_moves q.n q (open_peek q m) r (unless_opens (call_refusal q m) q m _ refl)
  opening_whole can_pop_call = closed_whole (q.n + 4) q (can_pop q m) r (can_pop_record q m)
  opening_whole should_notify_call = closed_whole (q.n + 4) q (should_notify q m) r (should_notify_record q m)
  opening_whole available_desc_call = closed_whole (q.n + 4) q (available_desc q m) r (available_record q m)
  opening_whole (set_dev_notify_call b) = closed_whole (q.n + 4) q (set_dev_notify q m b) r (set_notify_record q m b)

-- ---- an opening leaves a good record, and memory that fits

opening_good : (c : Call) (q : Queue) (m : Memory) → Good q → Good (opening c q m).queue
opening_good (add bs) q m g = (every_keeps q m g).after_open_add bs
opening_good (pop_used_call t bs) q m g = (every_keeps q m g).after_open_pop t bs
opening_good peek_used_call q m g = (every_keeps q m g).after_open_peek
opening_good can_pop_call q m g = (every_keeps q m g).after_can_pop
opening_good should_notify_call q m g = (every_keeps q m g).after_should_notify
opening_good available_desc_call q m g = (every_keeps q m g).after_available
opening_good (set_dev_notify_call b) q m g = (every_keeps q m g).after_set_notify b

opening_lengths : (c : Call) (q : Queue) (m : Memory) → SameLengths (opening c q m).memory m
opening_lengths (add bs) q m = (lengths_stay q m).after_open_add bs
opening_lengths (pop_used_call t bs) q m = (lengths_stay q m).after_open_pop t bs
opening_lengths peek_used_call q m = (lengths_stay q m).after_open_peek
opening_lengths can_pop_call q m = (lengths_stay q m).after_can_pop
opening_lengths should_notify_call q m = (lengths_stay q m).after_should_notify
opening_lengths available_desc_call q m = (lengths_stay q m).after_available
opening_lengths (set_dev_notify_call b) q m = (lengths_stay q m).after_set_notify b

module _ (w : Wiring) where
  -- ---- a call that is open in a trace makes the rules' moves

  -- each counts one
  pub step_counts : (t : Trace) → Sane w t → busy driver t ≡ true → (event w step t).made ≡ t.made + 1
  unfolding move
  step_counts t s o = ap (λ (u : Trace). u.made) (step_open w t s o)

  -- an outcome that is open adds no answer, and its step's goes in its place
  step_on : (cs : List Call) (o : Outcome) (t : Trace) → Sane w (drives cs o t) → is_open o.queue.call ≡ true
      → event w step (drives cs o t) ≡ drives cs (onward o) t
  unfolding move
  step_on cs o t s e =
      step_open w (drives cs o t) s e
      ∙ ap₂ (λ (x : List Call) (y : List Answer). record {
        queue = (onward o).queue;
        memory = (onward o).memory;
        device = t.device;
        made = (onward o).steps;
        calls = x;
        answers = y ++ answers_of (onward o);
        acts = t.acts;
        results = t.results;
      }) (append-nil (t.calls ++ cs))
      (ap (λ b. t.answers ++ cond b [] (record { number = o.answer; value = o.value; steps = o.steps } ∷ [])) e ∙ append-nil t.answers)

  -- a record that is sane beside t stays so
  sane_on : (cs : List Call) (o : Outcome) (t : Trace) → Sane w (drives cs o t) → is_open o.queue.call ≡ true → Sane w (drives cs (onward o) t)
  unfolding moves
  sane_on cs o t s e = record {
    good = move_keeps o.queue o.memory s.good;
    fit = ap (λ x. fits x.queue x.memory) (sym (moves_open 0 o e)) ∙ moves_fit 1 o ∙ s.fit;
    size = (move_shaped o.queue o.memory).n ∙ s.size;
    ticks = s.ticks;
  }

  steps_move : (b : ℕ) (cs : List Call) (o : Outcome) (t : Trace) → Sane w (drives cs o t)
      → trace w (replicate b step) (drives cs o t) ≡ drives cs (moves b o) t
  unfolding trace moves
  steps_move zero cs o t s = refl
  steps_move (suc b) cs o t s =
      by_test (is_open o.queue.call)
      (λ e. ap (trace w (replicate b step)) (step_on cs o t s e) ∙ steps_move b cs (onward o) t (sane_on cs o t s e) ∙ ap (λ x. drives cs x t)
      (sym (moves_open b o e)))
      (λ e. ap (trace w (replicate b step)) (step_idle w (drives cs o t) e) ∙ steps_move b cs o t s
      ∙ ap (λ x. drives cs x t) (moves_closed b o e ∙ sym (moves_closed (suc b) o e)))

  -- THE LAW, where the driver is at rest: the trace gets the rules' outcome, with the steps that it reports
  pub whole_call_is : (c : Call) (t : Trace) → Sane w t → busy driver t ≡ false
      → trace w (steps_of w.n (whole_call c)) t ≡ drives (c ∷ []) (wholly c t.queue t.memory) t
  unfolding trace event
  whole_call_is c t s r =
      let o : Outcome = opening c t.queue t.memory in
      let e : eqb o.answer Busy ≡ false = ne_eqb o.answer Busy (opening_free t.queue t.memory s.good s.fit r c) in
      let k : Sane w (drives (c ∷ []) o t) = opened_sane c t s r in
      ap (λ b. trace w (replicate (w.n + 4) step) (cond b t (drives (c ∷ []) o t))) e
      ∙ steps_move (w.n + 4) (c ∷ []) o t k
      ∙ ap (λ n. drives (c ∷ []) (moves (n + 4) o) t) (sym s.size)
      ∙ ap (λ x. drives (c ∷ []) x t) (opening_whole t.queue t.memory s.good s.fit r c)
    where
      opened_sane : (c : Call) (t : Trace) → Sane w t → busy driver t ≡ false → Sane w (drives (c ∷ []) (opening c t.queue t.memory) t)
      opened_sane c t s r = record {
        good = opening_good c t.queue t.memory s.good;
        fit = still_fits _ t.queue _ t.memory (opening_shaped c t.queue t.memory) (opening_lengths c t.queue t.memory) ∙ s.fit;
        size = (opening_shaped c t.queue t.memory).n ∙ s.size;
        ticks = s.ticks;
      }
