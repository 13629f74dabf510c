-- Successive public steps, each over memory as it is before that step: where the record is good and all of that memory fits, they are the run of Depends, and two
-- such runs tell the same where the bytes of the field that each step loads are the same.
use Rattle.std.specs.Prelude.{◌≡◌, refl, true, false, cond, List, [], ◌∷◌, ◌+◌}
use Rattle.std.proofs.Common.{sym, ap, subst, ◌∙◌}
use Rattle.lists.specs.Tests.{by_test}
use Rattle.virtio.specs.Memory.{Memory}
use Rattle.rules.specs.Record.{Queue, is_open}
use Rattle.rules.specs.Answer.{Outcome}
use Rattle.rules.specs.Step.{loaded, access, move}
use Rattle.rules.specs.Calls.{fits, opened, and_then, moves, step}
use Rattle.laws.specs.CallKeeps.{Good, move_keeps}
use Rattle.laws.specs.Runs.{moves_open}
use Rattle.laws.specs.StepsLeft.{run_is}
use Rattle.laws.specs.Regions.{Shaped, still_fits, react_shaped, step_goes}
use Rattle.laws.specs.Depends.{Told, told, is_load, loads_none, mixed, SameLoaded, AlikeBytes, bytes_loaded, told_if, runs_alike_bytes}
use Rattle.laws.specs.CallDepends.{step_call_alike}

-- ---- one public step

module _ (q : Queue) (m m' : Memory) (f : fits q m ≡ fits q m') where
  -- THE LAW of a step: of shared memory it depends only on whether it fits, and on the bytes of the field that it loads, if it loads one
  pub step_alike_bytes : SameLoaded q (access q q.call) m m' → told (step q m) ≡ told (step q m')
  step_alike_bytes s = step_call_alike q m m' f (bytes_loaded q (access q q.call) m m' s)

  -- where it loads none, on no byte at all
  pub step_alike_none : is_load (access q q.call) ≡ false → told (step q m) ≡ told (step q m')
  step_alike_none e = step_call_alike q m m' f (loads_none q m m' (access q q.call) e)

-- ---- successive steps

-- a public step over each memory of the list in turn, with its refusals, while a call is open
unfoldable pub stepping : List Memory → Outcome → Outcome
stepping [] o = o
stepping (m ∷ ms) o =
    let r : Outcome = stepping ms (and_then o (step o.queue m)) in
    cond (is_open o.queue.call) r o

-- two lists of memories, of one length, that agree step for step in whether they fit and in the bytes that the first run loads there
abbrev pub AlikeSteps : Queue → List Memory → List Memory → Type 0
AlikeSteps q [] [] = Unit {0}
AlikeSteps q [] (m' ∷ ms') = ⊥
AlikeSteps q (m ∷ ms) [] = ⊥
AlikeSteps q (m ∷ ms) (m' ∷ ms') =
    (fits q m ≡ fits q m') × SameLoaded q (access q q.call) m m' × AlikeSteps (step q m).queue ms ms'

-- what an outcome tells after one that told x
abbrev behind : Told → Told → Told
behind x y = record { answer = y.answer; value = y.value; steps = x.steps + y.steps; queue = y.queue }

stepping_one : (o o' : Outcome) (m m' : Memory) → told o ≡ told o' → fits o.queue m ≡ fits o.queue m' → SameLoaded o.queue (access o.queue o.queue.call) m m'
    → told (and_then o (step o.queue m)) ≡ told (and_then o' (step o'.queue m'))
stepping_one o o' m m' e f s =
    ap (λ y. behind (told o) y) (step_alike_bytes o.queue m m' f s) ∙ ap (λ x. behind x (told (step x.queue m'))) e

-- THE LAW of successive steps, refused or not: over any record they tell the same
pub stepping_alike : (ms ms' : List Memory) (o o' : Outcome) → told o ≡ told o' → AlikeSteps o.queue ms ms' → told (stepping ms o) ≡ told (stepping ms' o')
unfolding stepping
stepping_alike [] [] o o' e a = e
stepping_alike [] (m' ∷ ms') o o' e a = absurd a
stepping_alike (m ∷ ms) [] o o' e a = absurd a
stepping_alike (m ∷ ms) (m' ∷ ms') o o' e a =
    told_if (is_open o.queue.call) (is_open o'.queue.call) _ _ o o' (ap (λ x. is_open x.queue.call) e)
    (stepping_alike ms ms' (and_then o (step o.queue m)) (and_then o' (step o'.queue m')) (stepping_one o o' m m' e a.0 a.1) a.2)
    e

-- ---- where all of the memory fits, no step is refused

-- each memory of the list fits
abbrev pub AllFit : Queue → List Memory → Type 0
AllFit q [] = Unit {0}
AllFit q (m ∷ ms) = (fits q m ≡ true) × AllFit q ms

-- which depends on the layout only
all_shaped : (p q : Queue) (ms : List Memory) → Shaped p q → AllFit q ms → AllFit p ms
all_shaped p q [] s a = tt
all_shaped p q (m ∷ ms) s a =
    (still_fits p q m m s (record { one = refl; two = refl; pool = refl }) ∙ a.0, all_shaped p q ms s a.1)

pub move_shaped : (q : Queue) (m : Memory) → Shaped (move q m).queue q
unfolding move
move_shaped q m = react_shaped q q.call (loaded q (access q q.call) m)

-- an open call's public step is its access and its reaction
pub step_moves : (q : Queue) (m : Memory) → Good q → fits q m ≡ true → is_open q.call ≡ true → step q m ≡ move q m
unfolding moves move
step_moves q m g f o = run_is 1 q m (step_goes q m g f) ∙ moves_open 0 (opened q m) o

-- THE LAW: successive public steps are the run with anything in between
pub stepping_mixed : (ms : List Memory) (o : Outcome) → Good o.queue → AllFit o.queue ms → stepping ms o ≡ mixed ms o
unfolding stepping mixed
stepping_mixed [] o g a = refl
stepping_mixed (m ∷ ms) o g a =
    let q : Queue = o.queue in
    let r : Outcome = stepping ms (and_then o (step q m)) in
    let s : Outcome = mixed ms (and_then o (move q m)) in
    by_test (is_open q.call)
    (λ e. ap (λ t. cond t r o) e
    ∙ ap (λ x. stepping ms (and_then o x)) (step_moves q m g a.0 e)
    ∙ stepping_mixed ms (and_then o (move q m)) (move_keeps q m g) (all_shaped (move q m).queue q ms (move_shaped q m) a.1)
    ∙ ap (λ t. cond t s o) (sym e))
    (λ e. ap (λ t. cond t r o) e ∙ ap (λ t. cond t s o) (sym e))

-- THE LAW: two runs of public steps, over memories that fit and that agree, step for step, in the bytes of the field loaded, tell the same
pub steps_alike : (ms ms' : List Memory) (o o' : Outcome) → told o ≡ told o' → Good o.queue → AllFit o.queue ms → AllFit o.queue ms'
    → AlikeBytes o.queue ms ms' → told (stepping ms o) ≡ told (stepping ms' o')
steps_alike ms ms' o o' e g f f' a =
    ap told (stepping_mixed ms o g f)
    ∙ runs_alike_bytes ms ms' o o' e a
    ∙ ap told (sym (stepping_mixed ms' o' (subst (λ x. Good x.queue) e g) (subst (λ x. AllFit x.queue ms') e f')))
