-- Runs of steps, over any record and memory: how one run follows another, and how many steps they count.
use Rattle.std.specs.Prelude.{◌≡◌, refl, true, false, cond, ℕ, zero, suc, ◌+◌, ◌≤◌, min}
use Rattle.std.proofs.Common.{sym, ap, subst, ◌∙◌, true≢false, arith}
use Rattle.lists.specs.Tests.{by_test}
use Rattle.virtio.specs.Memory.{Memory}
use Rattle.rules.specs.declared.Open.{Open}
use Rattle.rules.specs.Record.{Queue, is_open}
use Rattle.rules.specs.Answer.{Outcome}
use Rattle.rules.specs.Step.{access, loaded, accessed, react, move}
use Rattle.rules.specs.Calls.{and_then, moves}

-- a step, by the call that is open
abbrev pub step_of : Queue → Open → Memory → Outcome
step_of q c m = record {
  answer = (react q c (loaded q (access q c) m)).answer;
  value = (react q c (loaded q (access q c) m)).value;
  steps = 1;
  queue = (react q c (loaded q (access q c) m)).queue;
  memory = accessed q (access q c) m;
}

pub move_at : (q : Queue) (m : Memory) (c : Open) → q.call ≡ c → move q m ≡ step_of q c m
unfolding move
move_at q m c e = ap (λ d. step_of q d m) e

-- a step more
abbrev pub onward : Outcome → Outcome
onward o = and_then o (move o.queue o.memory)

pub onward_steps : (o : Outcome) → (onward o).steps ≡ o.steps + 1
unfolding move
onward_steps o = refl

-- a run with no call open does nothing; with one open it is a step and the rest
pub moves_closed : (b : ℕ) (o : Outcome) → is_open o.queue.call ≡ false → moves b o ≡ o
unfolding moves
moves_closed zero o e = refl
moves_closed (suc b) o e = ap (λ t. cond t (moves b (onward o)) o) e

pub moves_open : (b : ℕ) (o : Outcome) → is_open o.queue.call ≡ true → moves (suc b) o ≡ moves b (onward o)
unfolding moves
moves_open b o e = ap (λ t. cond t (moves b (onward o)) o) e

-- THE LAW of runs one after the other: a run of a steps, and then one of b, is one of a + b
pub moves_split : (a b : ℕ) (o : Outcome) → moves (a + b) o ≡ moves b (moves a o)
unfolding moves
moves_split zero b o =
    let s : 0 + b ≡ b = omega arith in
    ap (λ k. moves k o) s
moves_split (suc a) b o =
    let s : suc a + b ≡ suc (a + b) = omega arith in
    by_test (is_open o.queue.call)
    (λ e. ap (λ k. moves k o) s ∙ moves_open (a + b) o e ∙ moves_split a b (onward o) ∙ ap (moves b) (sym (moves_open a o e)))
    (λ e. moves_closed (suc a + b) o e ∙ sym (moves_closed b o e) ∙ ap (moves b) (sym (moves_closed (suc a) o e)))

-- steps already made only add to the count
after_after : (o p r : Outcome) → and_then (and_then o p) r ≡ and_then o (and_then p r)
after_after o p r =
    let s : o.steps + p.steps + r.steps ≡ o.steps + (p.steps + r.steps) = omega arith in
    ap (λ k. record { answer = r.answer; value = r.value; steps = k; queue = r.queue; memory = r.memory }) s

pub moves_after : (b : ℕ) (o p : Outcome) → moves b (and_then o p) ≡ and_then o (moves b p)
unfolding moves
moves_after zero o p = refl
moves_after (suc b) o p =
    by_test (is_open p.queue.call)
    (λ e. moves_open b (and_then o p) e ∙ ap (moves b) (after_after o p (move p.queue p.memory)) ∙ moves_after b o (onward p) ∙ ap (and_then o) (sym (moves_open b p e)))
    (λ e. moves_closed (suc b) (and_then o p) e ∙ ap (and_then o) (sym (moves_closed (suc b) p e)))

-- ---- the count

pub steps_grow : (b : ℕ) (o : Outcome) → o.steps ≤ (moves b o).steps
unfolding moves
steps_grow zero o = omega arith
steps_grow (suc b) o =
    by_test (is_open o.queue.call)
    (λ e. let m : (moves (suc b) o).steps ≡ (moves b (onward o)).steps = ap (λ r. r.steps) (moves_open b o e) in
    omega (arith, onward_steps o, steps_grow b (onward o)))
    (λ e. let m : (moves (suc b) o).steps ≡ o.steps = ap (λ r. r.steps) (moves_closed (suc b) o e) in
    omega arith)

-- a run of b steps counts no more than b
pub steps_most_lem : (b : ℕ) (o : Outcome) → (moves b o).steps ≤ o.steps + b
unfolding moves
steps_most_lem zero o = omega arith
steps_most_lem (suc b) o =
    by_test (is_open o.queue.call)
    (λ e. let m : (moves (suc b) o).steps ≡ (moves b (onward o)).steps = ap (λ r. r.steps) (moves_open b o e) in
    omega (arith, onward_steps o, steps_most_lem b (onward o)))
    (λ e. let m : (moves (suc b) o).steps ≡ o.steps = ap (λ r. r.steps) (moves_closed (suc b) o e) in
    omega arith)

-- THE LAW: where it leaves a call open, it counts each of them
pub steps_open : (b : ℕ) (o : Outcome) → is_open (moves b o).queue.call ≡ true → (moves b o).steps ≡ o.steps + b
unfolding moves
steps_open zero o h = omega arith
steps_open (suc b) o h =
    by_test (is_open o.queue.call)
    (λ e. let m : moves (suc b) o ≡ moves b (onward o) = moves_open b o e in
    let s : (moves (suc b) o).steps ≡ (moves b (onward o)).steps = ap (λ r. r.steps) m in
    omega (arith, onward_steps o, steps_open b (onward o) (subst (λ r. is_open r.queue.call ≡ true) m h)))
    (λ e. let m : moves (suc b) o ≡ o = moves_closed (suc b) o e in
    absurd (true≢false (sym (subst (λ r. is_open r.queue.call ≡ true) m h) ∙ e)))

-- and where c steps close the call, a run of b takes the lesser of b and of what those took
pub steps_lesser : (b c : ℕ) (o : Outcome) → is_open (moves c o).queue.call ≡ false → (moves b o).steps ≡ min (o.steps + b) (moves c o).steps
unfolding moves
steps_lesser zero c o h = omega (arith, steps_grow c o)
steps_lesser (suc b) zero o h =
    let m : (moves (suc b) o).steps ≡ o.steps = ap (λ r. r.steps) (moves_closed (suc b) o h) in
    omega arith
steps_lesser (suc b) (suc c) o h =
    by_test (is_open o.queue.call)
    (λ e. let m : (moves (suc b) o).steps ≡ (moves b (onward o)).steps = ap (λ r. r.steps) (moves_open b o e) in
    let n : moves (suc c) o ≡ moves c (onward o) = moves_open c o e in
    let s : (moves (suc c) o).steps ≡ (moves c (onward o)).steps = ap (λ r. r.steps) n in
    omega (arith, onward_steps o, steps_lesser b c (onward o) (subst (λ r. is_open r.queue.call ≡ false) n h)))
    (λ e. let m : (moves (suc b) o).steps ≡ o.steps = ap (λ r. r.steps) (moves_closed (suc b) o e) in
    let s : (moves (suc c) o).steps ≡ o.steps = ap (λ r. r.steps) (moves_closed (suc c) o e) in
    omega arith)
