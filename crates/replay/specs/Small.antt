-- The numbers of a whole call are small: its answer, its steps, and the size of its queue, which stays.
use Rattle.std.specs.Prelude.{◌≡◌, true, false, not, List, [], ◌∷◌, ℕ, zero, suc, ◌+◌, ◌≤◌, ltb, eqb}
use Rattle.std.proofs.Math.Path.{refl}
use Rattle.std.proofs.Common.{◌∙◌, arith}
use Rattle.lists.specs.Pick.{Test, ◌when◌, first}
use Rattle.lists.specs.Tests.{either}
use Rattle.virtio.specs.declared.Buffer.{Buffer}
use Rattle.virtio.specs.Memory.{Memory}
use Rattle.rules.specs.declared.Open.{Open}
use Rattle.rules.specs.declared.Open.TheVariants.{Idle, Add, PopIdx, PopId, PopLen, PopStore, PeekIdx, PeekId}
use Rattle.rules.specs.Record.{Queue, outstanding, is_open, with_call}
use Rattle.rules.specs.WellFormed.{add_steps, store_steps}
use Rattle.rules.specs.Answer.{Outcome, refused, unless, WrongToken, NotOutstanding, Mismatch}
use Rattle.rules.specs.Step.{access, loaded, Reaction, token_of, verdict, stored_count, react, move}
use Rattle.rules.specs.Calls.{fits, add_tests, call_tests, add_refusal, call_refusal, add_opened, opened, matches, open_add, open_pop, moves, whole, add, pop_used}
use Rattle.laws.specs.Regions.{react_shaped, add_shaped}
use Rattle.laws.specs.Runs.{onward, steps_most_lem}

-- ---- answers are at most 13

abbrev AtMost : ℕ → List Test → Type 0
AtMost n [] = Unit {0}
AtMost n ((k when b) ∷ ts) = (k ≤ n) × AtMost n ts

first_most : (n : ℕ) (ts : List Test) → AtMost n ts → first ts ≤ n
first_most n [] h = omega arith
first_most n ((k when true) ∷ ts) h = h.0
first_most n ((k when false) ∷ ts) h = first_most n ts h.1

module _ (q : Queue) where
  abbrev Answers : Reaction → Type 0
  Answers r = r.answer ≤ 13

  react_answers : (c : Open) (v : ℕ) → Answers (react q c v)
  react_answers Idle v = omega arith
  react_answers (Add h i) v = either Answers (ltb (i + 1) (add_steps q h)) _ _ (λ e. omega arith) (λ e. omega arith)
  react_answers (PopIdx t b) v = either Answers (eqb v q.counts.last) _ _ (λ e. omega arith) (λ e. omega arith)
  react_answers (PopId t b) v = omega arith
  react_answers (PopLen t b d) v =
      either
      Answers
      (eqb (verdict q t b d) 0)
      _
      _
      (λ e. either Answers (eqb (store_steps q (stored_count q t)) 0) _ _ (λ f. omega arith) (λ f. omega arith))
      (λ e.
      first_most
      13
      ((WrongToken when not (eqb (token_of d) t)) ∷ (NotOutstanding when not (outstanding q t)) ∷ (Mismatch when not b) ∷ [])
      (omega arith))
  react_answers (PopStore k i l) v = either Answers (ltb (i + 1) (store_steps q k)) _ _ (λ e. omega arith) (λ e. omega arith)
  react_answers PeekIdx v = either Answers (eqb v q.counts.last) _ _ (λ e. omega arith) (λ e. omega arith)
  react_answers PeekId v = omega arith

-- ---- runs

-- an outcome of a queue of size n
pub record Small (n : ℕ) (o : Outcome) : Type 0 where
  pub answer : o.answer ≤ 13
  pub size : o.queue.n ≡ n

onward_small : (n : ℕ) (o : Outcome) → Small n o → Small n (onward o)
unfolding move
onward_small n o h =
    let q : Queue = o.queue in
    let v : ℕ = loaded q (access q q.call) o.memory in
    record { answer = react_answers q q.call v; size = (react_shaped q q.call v).n ∙ h.size }

moves_small : (b n : ℕ) (o : Outcome) → Small n o → Small n (moves b o)
unfolding moves
moves_small zero n o h = h
moves_small (suc b) n o h =
    either (Small n) (is_open o.queue.call) (moves b (onward o)) o (λ e. moves_small b n (onward o) (onward_small n o h)) (λ e. h)

-- ---- whole calls

-- what a whole call of a queue of size n comes to
pub record SmallCall (n : ℕ) (o : Outcome) : Type 0 where
  pub small : Small n o
  pub steps : o.steps ≤ n + 4

whole_small
    : (n k : ℕ) (q : Queue) (m : Memory) (o : Outcome)
    → q.n ≡ n
    → k ≤ 13
    → Small n o
    → o.steps ≡ 0
    → SmallCall n (whole n (unless k q m o))
whole_small n k q m o e l h s =
    let r : Outcome = unless k q m o in
    let open-small : Small n r = either (Small n) (eqb k 0) o (refused k q m) (λ f. h) (λ f. record { answer = l; size = e }) in
    let none : r.steps ≡ 0 = either (λ (x : Outcome). x.steps ≡ 0) (eqb k 0) o (refused k q m) (λ f. s) (λ f. refl) in
    either
    (SmallCall n)
    (eqb r.answer 0)
    (moves (n + 4) r)
    r
    (λ f. record { small = moves_small (n + 4) n r open-small; steps = omega (arith, steps_most_lem (n + 4) r) })
    (λ f. record { small = open-small; steps = omega arith })

-- THE LAWS
module _ (q : Queue) (m : Memory) (bs : List Buffer) where
  pub add_small : SmallCall q.n (add q m bs)
  unfolding open_add
  add_small =
      whole_small
      q.n
      (add_refusal q m bs)
      q
      m
      (opened (add_opened q bs) m)
      refl
      (first_most 13 (add_tests q (fits q m) bs) (omega arith))
      (record { answer = omega arith; size = (add_shaped q bs).n })
      refl

  pub pop_small : (t : ℕ) → SmallCall q.n (pop_used q m t bs)
  unfolding open_pop
  pop_small t =
      whole_small
      q.n
      (call_refusal q m)
      q
      m
      (opened (with_call q (PopIdx t (matches q t bs))) m)
      refl
      (first_most 13 (call_tests q (fits q m)) (omega arith))
      (record { answer = omega arith; size = refl })
      refl
