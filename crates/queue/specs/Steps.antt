-- A step as the rules have it: its access and its reaction together; what it keeps; and a run's turns and ends.
use Rattle.std.specs.Prelude.{◌≡◌, refl, true, false, Result, List, ℕ, suc, ◌+◌, ◌≤◌, length}
use Rattle.std.proofs.Common.{sym, ap, ap₂, ◌∙◌, subst, arith}
use Rattle.virtio.specs.Layout.{need_one, need_two, need_pool}
use Rattle.virtio.specs.Memory.{Memory}
use Rattle.rules.specs.declared.Refusal.{Refusal}
use Rattle.rules.specs.Record.{Queue, Tables, is_open}
use Rattle.rules.specs.Answer.{Outcome}
use Rattle.rules.specs.Step.{Access, access, loaded, accessed, react, move}
use Rattle.rules.specs.Calls.{and_then, moves}
use Rattle.laws.specs.CallKeeps.{Good, move_keeps}
use Rattle.laws.specs.Runs.{moves_closed, moves_open}
use Rattle.laws.specs.Regions.{Shaped, react_shaped}
use Rattle.views.specs.declared.Core.{Core}
use Rattle.views.specs.Tables.{queue_of}
use Rattle.tables.specs.declared.TablesMut.{TablesMut}
use Rattle.tables.specs.Lent.{tables_held, SameLoan}
use Rattle.tables.specs.Ready.{ReadyHeld, Fitting}
use Rattle.react.specs.declared.Reacted.{Reacted}
use Rattle.react.specs.Reactions.{reacted_of}
use Rattle.asks.specs.declared.Done.{Done}
use Rattle.asks.specs.Outcomes.{done_of}
use Rattle.queue.specs.Outcomes.{stepped_of}

-- THE STEP: the access that the call makes next, done, and the reaction to the number that it gave
pub step_is
    : (q : Queue) (m m' : Memory) (t' : Tables) (a : Access) (v : ℕ) (r : Reacted)
    → a ≡ access q q.call
    → v ≡ loaded q a m
    → m' ≡ accessed q a m
    → reacted_of r t' ≡ react q q.call v
    → stepped_of r t' m' ≡ move q m
unfolding move
step_is q m m' t' a v r e l s f =
    let n : v ≡ loaded q (access q q.call) m = l ∙ ap (λ x. loaded q x m) e in
    let b : m' ≡ accessed q (access q q.call) m = s ∙ ap (λ x. accessed q x m) e in
    let g : reacted_of r t' ≡ react q q.call (loaded q (access q q.call) m) = f ∙ ap (react q q.call) n in
    λ i. record { answer = (g i).answer; value = (g i).value; steps = 1; queue = (g i).queue; memory = b i }

-- it keeps the layout
moved_shape : (q : Queue) (m : Memory) → Shaped (move q m).queue q
unfolding move
moved_shape q m = react_shaped q q.call (loaded q (access q q.call) m)

-- regions that do for a record do for one of its layout, and as long ones do
pub fitting_like
    : (c d : Core) (one two pool one' pool' : List ℕ)
    → d.n ≡ c.n
    → d.modes ≡ c.modes
    → length one' ≡ length one
    → length pool' ≡ length pool
    → Fitting c one two pool
    → Fitting d one' two pool'
fitting_like c d one two pool one' pool' size modes l k f =
    let a : need_one d.modes.legacy d.n ≡ need_one c.modes.legacy c.n = ap₂ (λ o n. need_one o.legacy n) modes size in
    let b : need_two d.modes.legacy d.n ≡ need_two c.modes.legacy c.n = ap₂ (λ o n. need_two o.legacy n) modes size in
    let e : d.modes.indirect ≡ c.modes.indirect = ap (λ o. o.indirect) modes in
    let g : need_pool d.n ≡ need_pool c.n = ap need_pool size in
    record {
      one_of = (let x = f.one_of in omega arith);
      two_of = (let x = f.two_of in omega arith);
      pool_of = λ i. (let x = f.pool_of (sym e ∙ i) in omega arith);
    }

-- the tables and bytes before a step and after it
module _
    (c : Core) (t : TablesMut) (one two pool : List ℕ) (s : Reacted) (t' : TablesMut) (one' pool' : List ℕ)
    (e : stepped_of s (tables_held t') (record { one = one'; two = two; pool = pool' })
    ≡ move (queue_of c (tables_held t)) (record { one = one; two = two; pool = pool })) where
  abbrev q : Queue
  q = queue_of c (tables_held t)

  abbrev m : Memory
  m = record { one = one; two = two; pool = pool }

  same_size : s.core.n ≡ c.n
  same_size = ap (λ (o : Outcome). o.queue.n) e ∙ (moved_shape q m).n

  same_modes : s.core.modes ≡ c.modes
  same_modes = ap (λ (o : Outcome). o.queue.modes) e ∙ (moved_shape q m).modes

  pub ready_on : t'.room ≡ t.room → ReadyHeld c t → ReadyHeld s.core t'
  ready_on r d = record {
    within = (let k : s.core.n ≡ c.n = same_size in let w : c.n ≤ t.room = d.within in omega arith);
    words_of = t'.words_of;
    lens_of = t'.lens_of;
    halves_of = t'.halves_of;
    sides_of = t'.sides_of;
    good = subst Good (sym (ap (λ (o : Outcome). o.queue) e)) (move_keeps q m d.good);
  }

  pub fitting_on : length one' ≡ length one → length pool' ≡ length pool → Fitting c one two pool → Fitting s.core one' two pool'
  fitting_on l k f = fitting_like c s.core one two pool one' pool' same_size same_modes l k f

  -- a run's turn, where a call is open and steps are left
  pub run_turn
      : (x : Result ℕ Refusal) (steps k rest : ℕ)
      → is_open c.call ≡ true
      → k ≡ suc rest
      → moves k (done_of (record { core = c; outcome = x; steps = steps }) (tables_held t) m)
      ≡ moves rest (done_of (record { core = s.core; outcome = s.outcome; steps = steps + 1 }) (tables_held t') (record { one = one'; two = two; pool = pool' }))
  run_turn x steps k rest i l =
      let o : Outcome = done_of (record { core = c; outcome = x; steps = steps }) (tables_held t) m in
      ap (λ b. moves b o) l
      ∙ moves_open rest o i
      ∙ ap (λ p. moves rest (and_then o p)) (sym e)

-- its ends: no call is open, or no step is left
pub run_closed : (o : Done) (t : Tables) (m : Memory) (k : ℕ) → is_open o.core.call ≡ false → done_of o t m ≡ moves k (done_of o t m)
run_closed o t m k e = sym (moves_closed k (done_of o t m) e)

pub run_over : (o : Done) (t : Tables) (m : Memory) (k : ℕ) → k ≡ 0 → done_of o t m ≡ moves k (done_of o t m)
unfolding moves
run_over o t m k e = rw e refl

-- What a run's loop keeps: the whole run is what is left of it from here; the record is checked, the regions do; every step was counted; no region has grown
-- or shrunk, and the tables lent stay the same.
pub record Running (start : TablesMut) (first : Outcome) (budget : ℕ) (o : Done) (left : ℕ) (t : TablesMut) (one two pool : List ℕ) : Type 0 where
  pub same : moves budget first ≡ moves left (done_of o (tables_held t) (record { one = one; two = two; pool = pool }))
  pub ready : ReadyHeld o.core t
  pub fitting : Fitting o.core one two pool
  pub count : o.steps + left ≡ budget
  pub same_loan : SameLoan start t
  pub one_kept : length one ≡ length first.memory.one
  pub pool_kept : length pool ≡ length first.memory.pool
