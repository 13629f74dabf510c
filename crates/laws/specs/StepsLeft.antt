-- How many steps an open call may still take at most: no more than n + 4, and each step lowers the bound. So n + 4 steps close a call, and a run takes the
-- lesser of its budget and of what n + 4 steps would take; StepsExact has the exact number.
use Rattle.std.specs.Prelude.{◌≡◌, refl, Bool, true, false, not, cond, List, [], ◌∷◌, ℕ, zero, suc, ◌+◌, ◌-◌, ◌≤◌, ◌<◌, min, ltb, eqb}
use Rattle.std.proofs.Common.{ap, ◌∙◌, arith, eqb-true}
use Rattle.std.proofs.lemmas.Bool.{false≢true, not-false}
use Rattle.lists.specs.Tests.{by_test}
use Rattle.lists.specs.Pick.{Test, ◌when◌}
use Rattle.lists.specs.PickLaws.{first_none, NoneOf}
use Rattle.virtio.specs.Memory.{Memory}
use Rattle.rules.specs.declared.Open.{Open}
use Rattle.rules.specs.declared.Open.TheVariants.{Idle, Add, PopIdx, PopId, PopLen, PopStore, PeekIdx, PeekId}
use Rattle.rules.specs.Record.{Queue, noted_of, outstanding, is_indirect, free_count, is_open}
use Rattle.rules.specs.WellFormed.{add_steps, store_steps}
use Rattle.rules.specs.Meaning.{WellFormed, Out, Named}
use Rattle.rules.specs.Answer.{Outcome, unless, WrongToken, NotOutstanding, Mismatch}
use Rattle.rules.specs.Step.{access, loaded, token_of, Reaction, verdict, stored_count, react, move}
use Rattle.rules.specs.Calls.{step_refusal, opened, moves, run}
use Rattle.laws.specs.WellFormedIs.{out_means}
use Rattle.laws.specs.FreeLaws.{noted_used, size_most}
use Rattle.laws.specs.StepKeeps.{one_most}
use Rattle.laws.specs.CallKeeps.{Good, move_keeps}
use Rattle.laws.specs.Runs.{onward, onward_steps, moves_closed, moves_open, steps_lesser}

-- ---- the most steps that may be left

module _ (q : Queue) where
  -- the stores of a pop behind its loads, where its token is outstanding
  abbrev pub stores_due : ℕ → ℕ
  stores_due t = cond (outstanding q t) (store_steps q (stored_count q t)) 0

  -- the most that a call may still take, whatever it loads: no fewer for an add and a storing pop, and perhaps fewer for a pop or a peek that still loads
  abbrev pub left_most : Open → ℕ
  left_most Idle = 0
  left_most (Add h i) = add_steps q h - i
  left_most (PopIdx t b) = 3 + stores_due t
  left_most (PopId t b) = 2 + stores_due t
  left_most (PopLen t b d) = 1 + stores_due t
  left_most (PopStore k i l) = store_steps q k - i
  left_most PeekIdx = 2
  left_most PeekId = 1

  abbrev pub steps_most : ℕ
  steps_most = left_most q.call

pick_most : (b : Bool) (x y m : ℕ) → (b ≡ true → x ≤ m) → (b ≡ false → y ≤ m) → cond b x y ≤ m
pick_most true x y m f g = f refl
pick_most false x y m f g = g refl

module _ (q : Queue) (w : WellFormed q) where
  pub due_most : (t : ℕ) → stores_due q t ≤ q.n + 1
  due_most t =
      pick_most (outstanding q t) _ _ (q.n + 1)
      (λ e. let o : Out q t = out_means q t e in
      let u : q.counts.used ≤ q.n = w.used in
      let m : noted_of q t ≤ q.counts.used = noted_used q w t o.below in
      let s : stored_count q t ≤ q.n = pick_most (is_indirect q t) 0 (noted_of q t) q.n (λ i. omega arith) (λ i. omega arith) in
      omega (arith, one_most q.modes.event_idx))
      (λ e. omega arith)

  left_most_lem : (c : Open) → Named q c → left_most q c ≤ q.n + 4
  left_most_lem Idle n = omega arith
  left_most_lem (Add h i) n = omega (arith, size_most q w h n.head)
  left_most_lem (PopIdx t b) n = omega (arith, due_most t)
  left_most_lem (PopId t b) n = omega (arith, due_most t)
  left_most_lem (PopLen t b d) n = omega (arith, due_most t)
  left_most_lem (PopStore k i l) n =
      let f : k ≤ free_count q = n.free in
      omega (arith, one_most q.modes.event_idx)
  left_most_lem PeekIdx n = omega arith
  left_most_lem PeekId n = omega arith

-- at most n + 4
pub left_bound : (q : Queue) → Good q → steps_most q ≤ q.n + 4
left_bound q g = left_most_lem q g.well q.call g.well.call

-- ---- a step lowers that bound, whatever number it loads

either : (b : Bool) (x y : Reaction) (m : ℕ) → (b ≡ true → steps_most x.queue < m) → (b ≡ false → steps_most y.queue < m) → steps_most (cond b x y).queue < m
either true x y m f g = f refl
either false x y m f g = g refl

module _ (q : Queue) where
  -- what the checks at the third load leave where none fails
  pub passed : (t : ℕ) (b : Bool) (d : ℕ) → verdict q t b d ≡ 0 → (token_of d ≡ t) × (outstanding q t ≡ true) × (b ≡ true)
  passed t b d e =
      let ts : List Test = (WrongToken when not (eqb (token_of d) t)) ∷ (NotOutstanding when not (outstanding q t)) ∷ (Mismatch when not b) ∷ [] in
      let n : NoneOf ts = first_none ts (omega arith) e in
      (eqb-true (token_of d) t (not-false (eqb (token_of d) t) n.0), not-false (outstanding q t) n.1.0, not-false b n.1.1.0)

  pub react_lowers : (c : Open) → Named q c → is_open c ≡ true → (v : ℕ) → steps_most (react q c v).queue < left_most q c
  react_lowers Idle n o v = absurd (false≢true o)
  react_lowers (Add h i) n o v =
      let s : i < add_steps q h = n.step in
      either (ltb (i + 1) (add_steps q h)) _ _ (add_steps q h - i) (λ e. omega arith) (λ e. omega arith)
  react_lowers (PopIdx t b) n o v =
      either (eqb v q.counts.last) _ _ (3 + stores_due q t) (λ e. omega arith) (λ e. omega arith)
  react_lowers (PopId t b) n o v = omega arith
  react_lowers (PopLen t b d) n o v =
      either (eqb (verdict q t b d) 0) _ _ (1 + stores_due q t)
      (λ e. let y : stores_due q t ≡ store_steps q (stored_count q t) = ap (λ z. cond z (store_steps q (stored_count q t)) 0) (passed t b d (eqb-true (verdict q t b d) 0 e)).1 in
      either (eqb (store_steps q (stored_count q t)) 0) _ _ (1 + stores_due q t) (λ z. omega arith) (λ z. omega arith))
      (λ e. omega arith)
  react_lowers (PopStore k i l) n o v =
      let s : i < store_steps q k = n.step in
      either (ltb (i + 1) (store_steps q k)) _ _ (store_steps q k - i) (λ e. omega arith) (λ e. omega arith)
  react_lowers PeekIdx n o v = either (eqb v q.counts.last) _ _ 2 (λ e. omega arith) (λ e. omega arith)
  react_lowers PeekId n o v = omega arith

-- THE LAW of a step
pub step_lowers : (q : Queue) (m : Memory) → Good q → is_open q.call ≡ true → steps_most (move q m).queue < steps_most q
unfolding move
step_lowers q m g o = react_lowers q q.call g.well.call o (loaded q (access q q.call) m)

-- ---- so a run of as many steps as may be left closes the call

pub run_closes : (b : ℕ) (o : Outcome) → Good o.queue → steps_most o.queue ≤ b → is_open (moves b o).queue.call ≡ false
unfolding moves
run_closes zero o g l =
    by_test (is_open o.queue.call) (λ e. absurd (omega (arith, step_lowers o.queue o.memory g e))) (λ e. e)
run_closes (suc b) o g l =
    by_test (is_open o.queue.call)
    (λ e. ap (λ r. is_open r.queue.call) (moves_open b o e)
    ∙ run_closes b (onward o) (move_keeps o.queue o.memory g) (omega (arith, step_lowers o.queue o.memory g e)))
    (λ e. ap (λ r. is_open r.queue.call) (moves_closed (suc b) o e) ∙ e)

-- THE LAW: n + 4 steps close any call
pub closes : (q : Queue) (m : Memory) → Good q → is_open (moves (q.n + 4) (opened q m)).queue.call ≡ false
closes q m g = run_closes (q.n + 4) (opened q m) g (left_bound q g)

-- and no run takes more than may be left
pub left_covers : (b : ℕ) (o : Outcome) → Good o.queue → (moves b o).steps ≤ o.steps + steps_most o.queue
unfolding moves
left_covers zero o g = omega arith
left_covers (suc b) o g =
    by_test (is_open o.queue.call)
    (λ e. let m : (moves (suc b) o).steps ≡ (moves b (onward o)).steps = ap (λ r. r.steps) (moves_open b o e) in
    omega (arith, onward_steps o, step_lowers o.queue o.memory g e, left_covers b (onward o) (move_keeps o.queue o.memory g)))
    (λ e. let m : (moves (suc b) o).steps ≡ o.steps = ap (λ r. r.steps) (moves_closed (suc b) o e) in
    omega arith)

-- ---- what a run reports

-- a run that is not refused
pub run_is : (b : ℕ) (q : Queue) (m : Memory) → step_refusal q m ≡ 0 → run b q m ≡ moves b (opened q m)
unfolding run
run_is b q m e = ap (λ k. unless k q m (moves b (opened q m))) e

-- THE LAW: the lesser of its budget and the steps that the call still takes
pub run_lesser : (b : ℕ) (q : Queue) (m : Memory) → Good q → step_refusal q m ≡ 0 → (run b q m).steps ≡ min b (run (q.n + 4) q m).steps
run_lesser b q m g e =
    let x : (run b q m).steps ≡ (moves b (opened q m)).steps = ap (λ o. o.steps) (run_is b q m e) in
    let y : (run (q.n + 4) q m).steps ≡ (moves (q.n + 4) (opened q m)).steps = ap (λ o. o.steps) (run_is (q.n + 4) q m e) in
    let z : (moves b (opened q m)).steps ≡ min (0 + b) (moves (q.n + 4) (opened q m)).steps = steps_lesser b (q.n + 4) (opened q m) (closes q m g) in
    omega arith
