-- Whole calls: add, pop and peek leave no call open, and each is its opening and its steps, however these are shared out among runs.
use Rattle.std.specs.Prelude.{◌≡◌, refl, Bool, true, false, cond, List, [], ◌∷◌, ℕ, zero, suc, ◌+◌, ◌-◌, ◌≤◌, ltb, eqb}
use Rattle.std.proofs.Common.{sym, subst, ◌∙◌, arith, ne_eqb}
use Rattle.std.proofs.Math.Path.{ap}
use Rattle.std.proofs.lemmas.Bool.{false≢true}
use Rattle.lists.specs.Tests.{by_test}
use Rattle.virtio.specs.declared.Buffer.{Buffer}
use Rattle.virtio.specs.Memory.{Memory}
use Rattle.rules.specs.declared.Open.{Open}
use Rattle.rules.specs.declared.Open.TheVariants.{Idle, Add, PopIdx, PopId, PopLen, PopStore, PeekIdx, PeekId}
use Rattle.rules.specs.Record.{Queue, is_open, with_call}
use Rattle.rules.specs.WellFormed.{add_steps, store_steps}
use Rattle.rules.specs.Answer.{Outcome, refused, unless}
use Rattle.rules.specs.Step.{access, loaded, Reaction, verdict, stored_count, react, move}
use Rattle.rules.specs.Calls.{fits, add_refusal, call_refusal, step_refusal, add_opened, opened, matches, open_add, open_pop, open_peek, and_then, moves, run, whole, add, pop_used, peek_used}
use Rattle.laws.specs.Allowed.{step_allowed, call_allowed, add_allowed}
use Rattle.laws.specs.CallKeeps.{Good, moves_keeps, open_pop_keeps, open_peek_keeps}
use Rattle.laws.specs.Opening.{open_add_keeps}
use Rattle.laws.specs.Runs.{onward, moves_closed, moves_open, moves_split, moves_after}
use Rattle.laws.specs.StepsLeft.{left_bound, run_closes, run_is}
use Rattle.laws.specs.Regions.{still_fits, moves_fit, add_shaped, step_goes}

-- ---- openings, refused or not

module _ (q : Queue) (m : Memory) where
  -- an opening that is not refused
  pub add_opens : (bs : List Buffer) → add_refusal q m bs ≡ 0 → open_add q m bs ≡ opened (add_opened q bs) m
  unfolding open_add
  add_opens bs e = ap (λ k. unless k q m (opened (add_opened q bs) m)) e

  pub pop_opens : (t : ℕ) (bs : List Buffer) → call_refusal q m ≡ 0 → open_pop q m t bs ≡ opened (with_call q (PopIdx t (matches q t bs))) m
  unfolding open_pop
  pop_opens t bs e = ap (λ k. unless k q m (opened (with_call q (PopIdx t (matches q t bs))) m)) e

  pub peek_opens : call_refusal q m ≡ 0 → open_peek q m ≡ opened (with_call q PeekIdx) m
  unfolding open_peek
  peek_opens e = ap (λ k. unless k q m (opened (with_call q PeekIdx) m)) e

  -- so the whole calls are n + 4 steps from there
  pub add_is : (bs : List Buffer) → add_refusal q m bs ≡ 0 → add q m bs ≡ moves (q.n + 4) (opened (add_opened q bs) m)
  add_is bs e = ap (whole q.n) (add_opens bs e)

  pub pop_is : (t : ℕ) (bs : List Buffer) → call_refusal q m ≡ 0 → pop_used q m t bs ≡ moves (q.n + 4) (opened (with_call q (PopIdx t (matches q t bs))) m)
  pop_is t bs e = ap (whole q.n) (pop_opens t bs e)

  pub peek_is : call_refusal q m ≡ 0 → peek_used q m ≡ moves (q.n + 4) (opened (with_call q PeekIdx) m)
  peek_is e = ap (whole q.n) (peek_opens e)

  -- a call that is refused at its opening alters nothing
  refused_is : (k n : ℕ) (o : Outcome) → (k ≡ 0 → ⊥) → whole n (unless k q m o) ≡ refused k q m
  refused_is k n o d =
      let e : eqb k 0 ≡ false = ne_eqb k 0 d in
      ap (λ t. whole n (cond t o (refused k q m))) e ∙ ap (λ t. cond t (moves (n + 4) (refused k q m)) (refused k q m)) e

  pub add_refused : (bs : List Buffer) → (add_refusal q m bs ≡ 0 → ⊥) → add q m bs ≡ refused (add_refusal q m bs) q m
  unfolding open_add
  add_refused bs d = refused_is (add_refusal q m bs) q.n (opened (add_opened q bs) m) d

  pub pop_refused : (t : ℕ) (bs : List Buffer) → (call_refusal q m ≡ 0 → ⊥) → pop_used q m t bs ≡ refused (call_refusal q m) q m
  unfolding open_pop
  pop_refused t bs d = refused_is (call_refusal q m) q.n (opened (with_call q (PopIdx t (matches q t bs))) m) d

  pub peek_refused : (call_refusal q m ≡ 0 → ⊥) → peek_used q m ≡ refused (call_refusal q m) q m
  unfolding open_peek
  peek_refused d = refused_is (call_refusal q m) q.n (opened (with_call q PeekIdx) m) d

-- ---- whole calls leave no call open

opening_closes : (n : ℕ) (o : Outcome) → Good o.queue → o.queue.n ≡ n → is_open (moves (n + 4) o).queue.call ≡ false
opening_closes n o g e = run_closes (n + 4) o g (let l = left_bound o.queue g in omega arith)

module _ (q : Queue) (m : Memory) (g : Good q) where
  add_good : (bs : List Buffer) → add_refusal q m bs ≡ 0 → Good (add_opened q bs)
  add_good bs e = subst (λ o. Good o.queue) (add_opens q m bs e) (open_add_keeps q m bs g)

  pop_good : (t : ℕ) (bs : List Buffer) → call_refusal q m ≡ 0 → Good (with_call q (PopIdx t (matches q t bs)))
  pop_good t bs e = subst (λ o. Good o.queue) (pop_opens q m t bs e) (open_pop_keeps q m t bs g)

  peek_good : call_refusal q m ≡ 0 → Good (with_call q PeekIdx)
  peek_good e = subst (λ o. Good o.queue) (peek_opens q m e) (open_peek_keeps q m g)

  -- THE LAW, of each
  pub add_closes : (bs : List Buffer) → add_refusal q m bs ≡ 0 → is_open (add q m bs).queue.call ≡ false
  add_closes bs e =
      ap (λ o. is_open o.queue.call) (add_is q m bs e)
      ∙ opening_closes q.n (opened (add_opened q bs) m) (add_good bs e) (add_shaped q bs).n

  pub pop_closes : (t : ℕ) (bs : List Buffer) → call_refusal q m ≡ 0 → is_open (pop_used q m t bs).queue.call ≡ false
  pop_closes t bs e =
      ap (λ o. is_open o.queue.call) (pop_is q m t bs e)
      ∙ opening_closes q.n (opened (with_call q (PopIdx t (matches q t bs))) m) (pop_good t bs e) refl

  pub peek_closes : call_refusal q m ≡ 0 → is_open (peek_used q m).queue.call ≡ false
  peek_closes e =
      ap (λ o. is_open o.queue.call) (peek_is q m e)
      ∙ opening_closes q.n (opened (with_call q PeekIdx) m) (peek_good e) refl

-- ---- runs one after the other

-- what was done, and then a run of the call, if it is still open: steps add up, and an answer stays
abbrev pub resumed : Outcome → ℕ → Outcome
resumed o b = cond (is_open o.queue.call) (and_then o (run b o.queue o.memory)) o

-- so for each of these budgets, and their sum
unfoldable pub runs : Outcome → List ℕ → Outcome
runs o [] = o
runs o (b ∷ bs) = runs (resumed o b) bs

unfoldable pub budget : List ℕ → ℕ
budget [] = 0
budget (b ∷ bs) = b + budget bs

-- a reaction, and an outcome, that leaves a call open has no answer yet
abbrev Unanswered : Reaction → Type 0
Unanswered r = is_open r.queue.call ≡ true → (r.answer ≡ 0) × (r.value ≡ 0)

abbrev Blank : Outcome → Type 0
Blank o = is_open o.queue.call ≡ true → (o.answer ≡ 0) × (o.value ≡ 0)

either : (b : Bool) (x y : Reaction) → Unanswered x → Unanswered y → Unanswered (cond b x y)
either true x y h k = h
either false x y h k = k

unanswered : (q : Queue) (c : Open) (v : ℕ) → Unanswered (react q c v)
unanswered q Idle v = λ o. (refl, refl)
unanswered q (Add h i) v = either (ltb (i + 1) (add_steps q h)) _ _ (λ o. (refl, refl)) (λ o. absurd (false≢true o))
unanswered q (PopIdx t b) v = either (eqb v q.counts.last) _ _ (λ o. absurd (false≢true o)) (λ o. (refl, refl))
unanswered q (PopId t b) v = λ o. (refl, refl)
unanswered q (PopLen t b d) v =
    either (eqb (verdict q t b d) 0) _ _
    (either (eqb (store_steps q (stored_count q t)) 0) _ _ (λ o. absurd (false≢true o)) (λ o. (refl, refl)))
    (λ o. absurd (false≢true o))
unanswered q (PopStore k i l) v = either (ltb (i + 1) (store_steps q k)) _ _ (λ o. (refl, refl)) (λ o. absurd (false≢true o))
unanswered q PeekIdx v = either (eqb v q.counts.last) _ _ (λ o. absurd (false≢true o)) (λ o. (refl, refl))
unanswered q PeekId v = λ o. absurd (false≢true o)

onward_blank : (o : Outcome) → Blank (onward o)
unfolding move
onward_blank o = unanswered o.queue o.queue.call (loaded o.queue (access o.queue o.queue.call) o.memory)

moves_blank : (b : ℕ) (o : Outcome) → Blank o → Blank (moves b o)
unfolding moves
moves_blank zero o h = h
moves_blank (suc b) o h =
    by_test (is_open o.queue.call)
    (λ e. subst Blank (sym (moves_open b o e)) (moves_blank b (onward o) (onward_blank o)))
    (λ e. subst Blank (sym (moves_closed (suc b) o e)) h)

-- an outcome from which runs go on: a good record, over memory that fits it
pub record Going (o : Outcome) : Type 0 where
  pub good : Good o.queue
  pub fit : fits o.queue o.memory ≡ true
  pub blank : is_open o.queue.call ≡ true → (o.answer ≡ 0) × (o.value ≡ 0)

going_on : (b : ℕ) (o : Outcome) → Going o → Going (moves b o)
going_on b o g =
    record { good = moves_keeps b o g.good; fit = moves_fit b o ∙ g.fit; blank = moves_blank b o g.blank }

-- a run from there is so many steps more
from_open : (o : Outcome) → (o.answer ≡ 0) × (o.value ≡ 0) → and_then o (opened o.queue o.memory) ≡ o
from_open o z =
    let s : o.steps + 0 ≡ o.steps = omega arith in
    λ i. record { answer = sym z.0 i; value = sym z.1 i; steps = s i; queue = o.queue; memory = o.memory }

pub resumed_is : (b : ℕ) (o : Outcome) → Going o → resumed o b ≡ moves b o
resumed_is b o g =
    let r : Outcome = and_then o (run b o.queue o.memory) in
    by_test (is_open o.queue.call)
    (λ e. ap (λ t. cond t r o) e
    ∙ ap (and_then o) (run_is b o.queue o.memory (step_goes o.queue o.memory g.good g.fit))
    ∙ sym (moves_after b o (opened o.queue o.memory))
    ∙ ap (moves b) (from_open o (g.blank e)))
    (λ e. ap (λ t. cond t r o) e ∙ sym (moves_closed b o e))

-- THE LAW: a run of a steps, and then one of b, is one of a + b; and so for any budgets
pub run_split : (a b : ℕ) (q : Queue) (m : Memory) → Good q → step_refusal q m ≡ 0 → run (a + b) q m ≡ resumed (run a q m) b
run_split a b q m g e =
    let s : Going (opened q m) = record { good = g; fit = (step_allowed q (fits q m) e).1; blank = λ z. (refl, refl) } in
    run_is (a + b) q m e
    ∙ moves_split a b (opened q m)
    ∙ sym (resumed_is b (moves a (opened q m)) (going_on a (opened q m) s))
    ∙ ap (λ o. resumed o b) (sym (run_is a q m e))

pub runs_are : (bs : List ℕ) (o : Outcome) → Going o → runs o bs ≡ moves (budget bs) o
unfolding runs budget moves
runs_are [] o g = refl
runs_are (b ∷ bs) o g =
    ap (λ r. runs r bs) (resumed_is b o g) ∙ runs_are bs (moves b o) (going_on b o g) ∙ sym (moves_split b (budget bs) o)

-- a budget beyond what closes the call alters nothing
pub moves_enough : (c d : ℕ) (o : Outcome) → is_open (moves c o).queue.call ≡ false → c ≤ d → moves d o ≡ moves c o
moves_enough c d o e l =
    let s : d ≡ c + (d - c) = omega arith in
    ap (λ k. moves k o) s ∙ moves_split c (d - c) o ∙ moves_closed (d - c) (moves c o) e

-- so runs whose budgets come to n + 4 or more make the whole call of its opening
whole_runs : (n : ℕ) (o : Outcome) (bs : List ℕ) → Going o → o.queue.n ≡ n → n + 4 ≤ budget bs → runs o bs ≡ moves (n + 4) o
whole_runs n o bs g e l = runs_are bs o g ∙ moves_enough (n + 4) (budget bs) o (opening_closes n o g.good e) l

module _ (q : Queue) (m : Memory) (g : Good q) (b : List ℕ) (l : q.n + 4 ≤ budget b) where
  -- THE LAW, of each
  pub add_by_runs : (bs : List Buffer) → add_refusal q m bs ≡ 0 → runs (open_add q m bs) b ≡ add q m bs
  add_by_runs bs e =
      let o : Outcome = opened (add_opened q bs) m in
      let f : fits (add_opened q bs) m ≡ true = still_fits (add_opened q bs) q m m (add_shaped q bs) (record { one = refl; two = refl; pool = refl }) ∙ (add_allowed q (fits q m) bs e).fits in
      ap (λ r. runs r b) (add_opens q m bs e)
      ∙ whole_runs q.n o b (record { good = add_good q m g bs e; fit = f; blank = λ z. (refl, refl) }) (add_shaped q bs).n l
      ∙ sym (add_is q m bs e)

  pub pop_by_runs : (t : ℕ) (bs : List Buffer) → call_refusal q m ≡ 0 → runs (open_pop q m t bs) b ≡ pop_used q m t bs
  pop_by_runs t bs e =
      let o : Outcome = opened (with_call q (PopIdx t (matches q t bs))) m in
      ap (λ r. runs r b) (pop_opens q m t bs e)
      ∙ whole_runs q.n o b (record { good = pop_good q m g t bs e; fit = (call_allowed q (fits q m) e).fits; blank = λ z. (refl, refl) }) refl l
      ∙ sym (pop_is q m t bs e)

  pub peek_by_runs : call_refusal q m ≡ 0 → runs (open_peek q m) b ≡ peek_used q m
  peek_by_runs e =
      let o : Outcome = opened (with_call q PeekIdx) m in
      ap (λ r. runs r b) (peek_opens q m e)
      ∙ whole_runs q.n o b (record { good = peek_good q m g e; fit = (call_allowed q (fits q m) e).fits; blank = λ z. (refl, refl) }) refl l
      ∙ sym (peek_is q m e)
