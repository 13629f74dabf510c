-- A step takes one of the steps that an open call still takes on its memory, so that a run takes the lesser of its budget and of them.
use Rattle.std.specs.Prelude.{◌≡◌, refl, Bool, true, false, cond, ℕ, zero, suc, ◌+◌, ◌-◌, ◌≤◌, ◌<◌, min, ltb, eqb}
use Rattle.std.proofs.Common.{sym, ap, ◌∙◌, arith, lt-ltb, le-ltb, ltb-true, ltb-false, eqb-true}
use Rattle.std.proofs.lemmas.Bool.{false≢true}
use Rattle.lists.specs.Tests.{by_test}
use Rattle.virtio.specs.Memory.{Memory}
use Rattle.rules.specs.declared.Open.{Open}
use Rattle.rules.specs.declared.Open.TheVariants.{Idle, Add, PopIdx, PopId, PopLen, PopStore, PeekIdx, PeekId}
use Rattle.rules.specs.Record.{Queue, is_open}
use Rattle.rules.specs.WellFormed.{add_steps, store_steps}
use Rattle.rules.specs.Meaning.{Named}
use Rattle.rules.specs.Answer.{Outcome}
use Rattle.rules.specs.Step.{accessed, access, loaded, Reaction, verdict, stored_count, react, move}
use Rattle.rules.specs.Calls.{step_refusal, opened, moves, run}
use Rattle.laws.specs.CallKeeps.{Good, move_keeps}
use Rattle.laws.specs.Runs.{onward, onward_steps, moves_closed, moves_open}
use Rattle.laws.specs.StepsLeft.{run_is}
use Rattle.laws.specs.Popped.{used_idx_of, used_id_of}
use Rattle.laws.specs.StepsExact.{stores_at, left_in, closed_none}

-- ---- a step takes one of them

-- those of a record's own call
abbrev left_now : Memory → Queue → ℕ
left_now m q = left_in q m q.call

either : (m : Memory) (f : Bool → ℕ) (b : Bool) (x y : Reaction) → (b ≡ true → f true ≡ suc (left_now m x.queue)) → (b ≡ false → f false ≡ suc (left_now m y.queue))
    → f b ≡ suc (left_now m (cond b x y).queue)
either m f true x y g h = g refl
either m f false x y g h = h refl

module _ (q : Queue) (m : Memory) where
  -- at the third load, which decides
  length_takes : (t : ℕ) (b : Bool) (d v : ℕ) → 1 + stores_at q t b d ≡ suc (left_now m (react q (PopLen t b d) v).queue)
  length_takes t b d v =
      let k : ℕ = store_steps q (stored_count q t) in
      either m (λ z. 1 + cond z k 0) (eqb (verdict q t b d) 0) _ _
      (λ e. either m (λ z. 1 + k) (eqb k 0) _ _
      (λ z. let l : k ≡ 0 = eqb-true k 0 z in omega arith)
      (λ z. omega arith))
      (λ e. omega arith)

  react_takes : (c : Open) → Named q c → is_open c ≡ true → left_in q m c ≡ suc (left_now (accessed q (access q c) m) (react q c (loaded q (access q c) m)).queue)
  react_takes Idle n o = absurd (false≢true o)
  react_takes (Add h i) n o =
      let s : i < add_steps q h = n.step in
      either _ (λ z. add_steps q h - i) (ltb (i + 1) (add_steps q h)) _ _
      (λ e. omega arith)
      (λ e. let l : add_steps q h ≤ i + 1 = ltb-false (i + 1) (add_steps q h) e in omega arith)
  react_takes (PopIdx t b) n o =
      either m (λ z. cond z 1 (3 + stores_at q t b (used_id_of q m))) (eqb (used_idx_of q m) q.counts.last) _ _ (λ e. omega arith) (λ e. omega arith)
  react_takes (PopId t b) n o = omega arith
  react_takes (PopLen t b d) n o = length_takes t b d (loaded q (access q (PopLen t b d)) m)
  react_takes (PopStore k i l) n o =
      let s : i < store_steps q k = n.step in
      either _ (λ z. store_steps q k - i) (ltb (i + 1) (store_steps q k)) _ _
      (λ e. omega arith)
      (λ e. let u : store_steps q k ≤ i + 1 = ltb-false (i + 1) (store_steps q k) e in omega arith)
  react_takes PeekIdx n o =
      either m (λ z. cond z 1 2) (eqb (used_idx_of q m) q.counts.last) _ _ (λ e. omega arith) (λ e. omega arith)
  react_takes PeekId n o = omega arith

-- THE LAW of a step
pub step_takes : (q : Queue) (m : Memory) → Good q → is_open q.call ≡ true → left_in q m q.call ≡ suc (left_in (move q m).queue (move q m).memory (move q m).queue.call)
unfolding move
step_takes q m g o = react_takes q m q.call g.well.call o

-- ---- so a run takes the lesser of its budget and of them

moves_exact : (b : ℕ) (o : Outcome) → Good o.queue → (moves b o).steps ≡ o.steps + min b (left_now o.memory o.queue)
unfolding moves
moves_exact zero o g = omega arith
moves_exact (suc b) o g =
    by_test (is_open o.queue.call)
    (λ e. let m : (moves (suc b) o).steps ≡ (moves b (onward o)).steps = ap (λ r. r.steps) (moves_open b o e) in
    let t : left_now o.memory o.queue ≡ suc (left_now (onward o).memory (onward o).queue) = step_takes o.queue o.memory g e in
    let x : (moves b (onward o)).steps ≡ (onward o).steps + min b (left_now (onward o).memory (onward o).queue) = moves_exact b (onward o) (move_keeps o.queue o.memory g) in
    omega (arith, onward_steps o))
    (λ e. let m : (moves (suc b) o).steps ≡ o.steps = ap (λ r. r.steps) (moves_closed (suc b) o e) in
    let z : left_now o.memory o.queue ≡ 0 = closed_none o.queue o.memory o.queue.call e in
    omega arith)

-- THE LAW: a run that is not refused counts the lesser of its budget and of the steps that its open call still takes on that memory
pub run_exact : (b : ℕ) (q : Queue) (m : Memory) → Good q → step_refusal q m ≡ 0 → (run b q m).steps ≡ min b (left_in q m q.call)
run_exact b q m g e =
    let x : (run b q m).steps ≡ (moves b (opened q m)).steps = ap (λ o. o.steps) (run_is b q m e) in
    let y : (moves b (opened q m)).steps ≡ 0 + min b (left_in q m q.call) = moves_exact b (opened q m) g in
    omega arith

-- and the call is open after it exactly where the budget was less than those
moves_until : (b : ℕ) (o : Outcome) → Good o.queue → is_open (moves b o).queue.call ≡ ltb b (left_now o.memory o.queue)
unfolding moves
moves_until zero o g =
    by_test (is_open o.queue.call)
    (λ e. e ∙ sym (lt-ltb 0 (left_now o.memory o.queue) (omega (arith, step_takes o.queue o.memory g e))))
    (λ e. e ∙ sym (le-ltb 0 (left_now o.memory o.queue) (omega (arith, closed_none o.queue o.memory o.queue.call e))))
moves_until (suc b) o g =
    let k : ℕ = left_now o.memory o.queue in
    let j : ℕ = left_now (onward o).memory (onward o).queue in
    by_test (is_open o.queue.call)
    (λ e. let t : k ≡ suc j = step_takes o.queue o.memory g e in
    ap (λ r. is_open r.queue.call) (moves_open b o e)
    ∙ moves_until b (onward o) (move_keeps o.queue o.memory g)
    ∙ by_test (ltb b j)
    (λ l. let u : b < j = ltb-true b j l in l ∙ sym (lt-ltb (suc b) k (omega arith)))
    (λ l. let u : j ≤ b = ltb-false b j l in l ∙ sym (le-ltb (suc b) k (omega arith))))
    (λ e. let z : k ≡ 0 = closed_none o.queue o.memory o.queue.call e in
    ap (λ r. is_open r.queue.call) (moves_closed (suc b) o e) ∙ e ∙ sym (le-ltb (suc b) k (omega arith)))

pub run_until : (b : ℕ) (q : Queue) (m : Memory) → Good q → step_refusal q m ≡ 0 → is_open (run b q m).queue.call ≡ ltb b (left_in q m q.call)
run_until b q m g e = ap (λ o. is_open o.queue.call) (run_is b q m e) ∙ moves_until b (opened q m) g
