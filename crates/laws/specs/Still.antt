-- What leaves the memory as it is: openings, the calls that only load, and every refusal, at the opening or at a load; and that no call changes a length.
use Rattle.std.specs.Prelude.{◌≡◌, Bool, cond, ◌⊎◌, List, ℕ, ◌+◌, ltb, eqb}
use Rattle.std.proofs.Math.Path.{refl}
use Rattle.std.proofs.Common.{sym, ap, subst, ◌∙◌, true≢false}
use Rattle.std.proofs.Math.Bool.{true, false}
use Rattle.std.proofs.lemmas.Bool.{false≢true}
use Rattle.std.proofs.Math.Logic.{inl, inr}
use Rattle.virtio.specs.declared.Buffer.{Buffer}
use Rattle.virtio.specs.Memory.{Memory, avail_flags, spot, store_at}
use Rattle.rules.specs.declared.Open.{Open}
use Rattle.rules.specs.declared.Open.TheVariants.{Idle, Add, PopIdx, PopId, PopLen, PopStore, PeekIdx, PeekId}
use Rattle.rules.specs.Record.{Queue, with_call}
use Rattle.rules.specs.WellFormed.{add_steps, store_steps}
use Rattle.rules.specs.Answer.{Outcome}
use Rattle.rules.specs.Step.{store, loaded, accessed, access, Reaction, react, move}
use Rattle.rules.specs.Calls.{add_refusal, call_refusal, step_refusal, count_refusal, add_opened, opened, matches, open_add, open_pop, open_peek, and_then, moves, run, add, pop_used, peek_used, answered, can_pop, should_notify, set_dev_notify, available_desc}
use Rattle.laws.specs.Depends.{loading}
use Rattle.laws.specs.Changes.{SameLengths, access_lengths, step_lengths}
use Rattle.laws.specs.CallChanges.{moves_hold, unless_holds, whole_holds}

module _ (q : Queue) (m : Memory) where
  -- ---- openings, and calls of a single step that only load

  abbrev Same : Outcome → Type 0
  Same o = o.memory ≡ m

  pub open_add_still : (bs : List Buffer) → (open_add q m bs).memory ≡ m
  unfolding open_add
  open_add_still bs = unless_holds Same (add_refusal q m bs) q m _ refl (λ z. refl)

  pub open_pop_still : (t : ℕ) (bs : List Buffer) → (open_pop q m t bs).memory ≡ m
  unfolding open_pop
  open_pop_still t bs = unless_holds Same (call_refusal q m) q m _ refl (λ z. refl)

  pub open_peek_still : (open_peek q m).memory ≡ m
  unfolding open_peek
  open_peek_still = unless_holds Same (call_refusal q m) q m _ refl (λ z. refl)

  pub can_pop_still : (can_pop q m).memory ≡ m
  unfolding can_pop
  can_pop_still = unless_holds Same (call_refusal q m) q m _ refl (λ z. refl)

  pub should_notify_still : (should_notify q m).memory ≡ m
  unfolding should_notify
  should_notify_still = unless_holds Same (call_refusal q m) q m _ refl (λ z. refl)

  pub available_still : (available_desc q m).memory ≡ m
  unfolding available_desc
  available_still = unless_holds Same (count_refusal q) q m _ refl (λ z. refl)

-- ---- peek

-- a peek, or none
abbrev peeking : Open → Bool
peeking Idle = true
peeking (Add h i) = false
peeking (PopIdx t b) = false
peeking (PopId t b) = false
peeking (PopLen t b d) = false
peeking (PopStore k i l) = false
peeking PeekIdx = true
peeking PeekId = true

-- what holds of either reaction holds of a choice
either : (P : Reaction → Type 0) (b : Bool) (x y : Reaction) → P x → P y → P (cond b x y)
either P true x y f g = f
either P false x y f g = g

module _ (m : Memory) where
  record Peeks (o : Outcome) : Type 0 where
    call : peeking o.queue.call ≡ true
    same : o.memory ≡ m

  peek_step : (q : Queue) (c : Open) (x : Memory) → q.call ≡ c → peeking c ≡ true → (v : ℕ) → (peeking (react q c v).queue.call ≡ true) × (accessed q (access q c) x ≡ x)
  peek_step q Idle x e f v = (ap peeking e, refl)
  peek_step q (Add h i) x e f v = absurd (false≢true f)
  peek_step q (PopIdx t b) x e f v = absurd (false≢true f)
  peek_step q (PopId t b) x e f v = absurd (false≢true f)
  peek_step q (PopLen t b d) x e f v = absurd (false≢true f)
  peek_step q (PopStore k i l) x e f v = absurd (false≢true f)
  peek_step q PeekIdx x e f v = (either (λ r. peeking r.queue.call ≡ true) (eqb v q.counts.last) _ _ refl refl, refl)
  peek_step q PeekId x e f v = (refl, refl)

  peeks_on : (o : Outcome) → Peeks o → Peeks (and_then o (move o.queue o.memory))
  unfolding move
  peeks_on o p =
      let q : Queue = o.queue in
      let s : (peeking (react q q.call (loaded q (access q q.call) o.memory)).queue.call ≡ true) × (accessed q (access q q.call) o.memory ≡ o.memory) = peek_step q q.call o.memory refl p.call (loaded q (access q q.call) o.memory) in
      record { call = s.0; same = s.1 ∙ p.same }

-- THE LAW of peek
pub peek_still : (q : Queue) (m : Memory) → (peek_used q m).memory ≡ m
unfolding open_peek
peek_still q m =
    whole_holds (λ o. o.memory ≡ m) q.n (call_refusal q m) q (with_call q PeekIdx) m refl
    (λ z. (moves_hold (Peeks m) (peeks_on m) (q.n + 4) (opened (with_call q PeekIdx) m) (record { call = refl; same = refl })).same)

-- ---- refusals

-- a step says yes, and its call loads no more: so does a call that loads no more at every step
abbrev Sure : Reaction → Type 0
Sure r = (r.answer ≡ 0) × (loading r.queue.call ≡ false)

sure_step : (q : Queue) (c : Open) → q.call ≡ c → loading c ≡ false → (v : ℕ) → Sure (react q c v)
sure_step q Idle e f v = (refl, ap loading e)
sure_step q (Add h i) e f v = either Sure (ltb (i + 1) (add_steps q h)) _ _ (refl, refl) (refl, refl)
sure_step q (PopIdx t b) e f v = absurd (true≢false f)
sure_step q (PopId t b) e f v = absurd (true≢false f)
sure_step q (PopLen t b d) e f v = absurd (true≢false f)
sure_step q (PopStore k i l) e f v = either Sure (ltb (i + 1) (store_steps q k)) _ _ (refl, refl) (refl, refl)
sure_step q PeekIdx e f v = absurd (true≢false f)
sure_step q PeekId e f v = absurd (true≢false f)

-- a step that loads leaves the memory
load_still : (q : Queue) (c : Open) (m : Memory) → loading c ≡ true → accessed q (access q c) m ≡ m
load_still q Idle m f = absurd (false≢true f)
load_still q (Add h i) m f = absurd (false≢true f)
load_still q (PopIdx t b) m f = refl
load_still q (PopId t b) m f = refl
load_still q (PopLen t b d) m f = refl
load_still q (PopStore k i l) m f = absurd (false≢true f)
load_still q PeekIdx m f = refl
load_still q PeekId m f = refl

module _ (m : Memory) where
  -- the memory is as it was, or the call said yes and loads no more
  abbrev Fair : Outcome → Type 0
  Fair o = (o.memory ≡ m) ⊎ ((o.answer ≡ 0) × (loading o.queue.call ≡ false))

  fair_on : (o : Outcome) → Fair o → Fair (and_then o (move o.queue o.memory))
  unfolding move
  fair_on o f = go (loading o.queue.call) refl f
    where
      go : (b : Bool) → loading o.queue.call ≡ b → Fair o → Fair (and_then o (move o.queue o.memory))
      go true e (inl s) = inl (load_still o.queue o.queue.call o.memory e ∙ s)
      go true e (inr s) = absurd (true≢false (sym e ∙ s.1))
      go false e s = inr (sure_step o.queue o.queue.call refl e (loaded o.queue (access o.queue o.queue.call) o.memory))

  -- a run that says no leaves the memory
  moves_no : (b : ℕ) (q : Queue) → ((moves b (opened q m)).answer ≡ 0 → ⊥) → (moves b (opened q m)).memory ≡ m
  moves_no b q n = go (moves_hold Fair fair_on b (opened q m) (inl refl))
    where
      go : Fair (moves b (opened q m)) → (moves b (opened q m)).memory ≡ m
      go (inl s) = s
      go (inr s) = absurd (n s.0)

  -- what is said of an outcome that is a refusal
  abbrev IfNo : Outcome → Type 0
  IfNo o = (o.answer ≡ 0 → ⊥) → o.memory ≡ m

-- THE LAWS: a call that says no
module _ (q : Queue) (m : Memory) where
  pub add_refused_still : (bs : List Buffer) → ((add q m bs).answer ≡ 0 → ⊥) → (add q m bs).memory ≡ m
  unfolding open_add
  add_refused_still bs =
      whole_holds (IfNo m) q.n (add_refusal q m bs) q (add_opened q bs) m (λ n. refl) (λ z. moves_no m (q.n + 4) (add_opened q bs))

  pub pop_refused_still : (t : ℕ) (bs : List Buffer) → ((pop_used q m t bs).answer ≡ 0 → ⊥) → (pop_used q m t bs).memory ≡ m
  unfolding open_pop
  pop_refused_still t bs =
      whole_holds (IfNo m) q.n (call_refusal q m) q (with_call q (PopIdx t (matches q t bs))) m (λ n. refl)
      (λ z. moves_no m (q.n + 4) (with_call q (PopIdx t (matches q t bs))))

  pub run_refused_still : (b : ℕ) → ((run b q m).answer ≡ 0 → ⊥) → (run b q m).memory ≡ m
  unfolding run
  run_refused_still b = unless_holds (IfNo m) (step_refusal q m) q m (moves b (opened q m)) (λ n. refl) (λ z. moves_no m b q)

  pub notify_refused_still : (b : Bool) → ((set_dev_notify q m b).answer ≡ 0 → ⊥) → (set_dev_notify q m b).memory ≡ m
  unfolding set_dev_notify
  notify_refused_still b = unless_holds (IfNo m) (call_refusal q m) q m _ (λ n. refl) (λ z. go q.modes.event_idx)
    where
      go : (e : Bool) → IfNo m (cond e (answered 0 0 q m) (answered 1 0 q (store_at (spot q.modes.legacy q.n avail_flags) (cond b 0 1) m)))
      go true n = refl
      go false n = absurd (n refl)

-- ---- what holds of the memory after every call

-- P holds of what each call leaves; a step is a run with budget 1
pub record EveryCall (P : Memory → Type 0) (q : Queue) (m : Memory) : Type 0 where
  pub after_open_add : (bs : List Buffer) → P (open_add q m bs).memory
  pub after_open_pop : (t : ℕ) (bs : List Buffer) → P (open_pop q m t bs).memory
  pub after_open_peek : P (open_peek q m).memory
  pub after_run : (b : ℕ) → P (run b q m).memory
  pub after_add : (bs : List Buffer) → P (add q m bs).memory
  pub after_pop : (t : ℕ) (bs : List Buffer) → P (pop_used q m t bs).memory
  pub after_peek : P (peek_used q m).memory
  pub after_can_pop : P (can_pop q m).memory
  pub after_should_notify : P (should_notify q m).memory
  pub after_set_notify : (b : Bool) → P (set_dev_notify q m b).memory
  pub after_available : P (available_desc q m).memory

-- it is enough to show it of the calls that may store
pub every_call
    : (P : Memory → Type 0) (q : Queue) (m : Memory)
    → P m
    → ((b : ℕ) → P (run b q m).memory)
    → ((bs : List Buffer) → P (add q m bs).memory)
    → ((t : ℕ) (bs : List Buffer) → P (pop_used q m t bs).memory)
    → ((b : Bool) → P (set_dev_notify q m b).memory)
    → EveryCall P q m
every_call P q m here runs adds pops notifies = record {
  after_open_add = λ bs. subst P (sym (open_add_still q m bs)) here;
  after_open_pop = λ t bs. subst P (sym (open_pop_still q m t bs)) here;
  after_open_peek = subst P (sym (open_peek_still q m)) here;
  after_run = runs;
  after_add = adds;
  after_pop = pops;
  after_peek = subst P (sym (peek_still q m)) here;
  after_can_pop = subst P (sym (can_pop_still q m)) here;
  after_should_notify = subst P (sym (should_notify_still q m)) here;
  after_set_notify = notifies;
  after_available = subst P (sym (available_still q m)) here;
}

-- ---- lengths

then_lengths : (x y z : Memory) → SameLengths x y → SameLengths y z → SameLengths x z
then_lengths x y z s t = record { one = s.one ∙ t.one; two = s.two ∙ t.two; pool = s.pool ∙ t.pool }

module _ (q : Queue) (m : Memory) where
  abbrev Long : Outcome → Type 0
  Long o = SameLengths o.memory m

  own : SameLengths m m
  own = record { one = refl; two = refl; pool = refl }

  moves_lengths : (b : ℕ) (r : Queue) → SameLengths (moves b (opened r m)).memory m
  moves_lengths b r =
      moves_hold Long (λ o s. then_lengths (move o.queue o.memory).memory o.memory m (step_lengths o.queue o.memory) s) b (opened r m) own

  -- THE LAW: no call changes the length of a region
  pub lengths_stay : EveryCall (λ x. SameLengths x m) q m
  unfolding open_add open_pop run set_dev_notify
  lengths_stay =
      every_call (λ x. SameLengths x m) q m own
      (λ b. unless_holds Long (step_refusal q m) q m (moves b (opened q m)) own (λ z. moves_lengths b q))
      (λ bs. whole_holds Long q.n (add_refusal q m bs) q (add_opened q bs) m own (λ z. moves_lengths (q.n + 4) (add_opened q bs)))
      (λ t bs. whole_holds Long q.n (call_refusal q m) q (with_call q (PopIdx t (matches q t bs))) m own
      (λ z. moves_lengths (q.n + 4) (with_call q (PopIdx t (matches q t bs)))))
      (λ b. unless_holds Long (call_refusal q m) q m _ own (λ z. notified b q.modes.event_idx))
    where
      notified : (b e : Bool) → Long (cond e (answered 0 0 q m) (answered 1 0 q (store_at (spot q.modes.legacy q.n avail_flags) (cond b 0 1) m)))
      notified b true = own
      notified b false = access_lengths q m (store avail_flags (cond b 0 1))
