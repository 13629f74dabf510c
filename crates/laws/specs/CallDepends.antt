-- What an opening, a run with nothing in between and a whole call may depend on, of shared memory: on whether it is large enough, and on the numbers in the
-- places that this kind of call loads.
use Rattle.std.specs.Prelude.{◌≡◌, Bool, not, cond, ◌&&◌, List, eqb, length}
use Rattle.std.proofs.Math.Path.{refl}
use Rattle.std.proofs.Common.{sym, ap, subst}
use Rattle.std.proofs.Math.Bool.{true, false}
use Prim.Native.Nat.{ℕ, zero, suc, ◌+◌}
use Rattle.std.proofs.Math.Dec.{ltb}
use Rattle.lists.specs.Pick.{first, one_if}
use Rattle.virtio.specs.declared.Buffer.{Buffer}
use Rattle.virtio.specs.Memory.{Memory, Place, used_flags, used_idx, avail_event, spot, load_at}
use Rattle.virtio.specs.Notify.{by_flags}
use Rattle.rules.specs.declared.Open.{Open}
use Rattle.rules.specs.declared.Open.TheVariants.{Idle, Add, PopIdx, PopId, PopLen, PopStore, PeekIdx, PeekId}
use Rattle.rules.specs.Record.{Queue, is_open, with_call}
use Rattle.rules.specs.WellFormed.{add_steps, store_steps}
use Rattle.rules.specs.Answer.{Outcome, refused, unless}
use Rattle.rules.specs.Step.{loaded, accessed, access, Reaction, stored_count, verdict, react, move}
use Rattle.rules.specs.Calls.{fits, step_tests, call_tests, add_tests, add_refusal, call_refusal, step_refusal, count_refusal, add_opened, add_indirect, add_direct, opened, matches, open_add, open_pop, open_peek, and_then, moves, run, step, whole, add, pop_used, peek_used, can_pop, notify_by_event, should_notify, set_dev_notify, available_desc}
use Rattle.laws.specs.Depends.{told, loaded_now, SameAt, loads_none, id_now, len_now, loads_when, stepped_alike, told_if}

-- ---- runs with nothing in between

-- what the rest of this call loads is the same: only a pop and a peek load, and that before they store
abbrev pub SameFor : Queue → Open → Memory → Memory → Type 0
SameFor q Idle m m' = Unit {0}
SameFor q (Add h i) m m' = Unit {0}
SameFor q (PopIdx t b) m m' = SameAt q used_idx m m' × SameAt q (id_now q) m m' × SameAt q (len_now q) m m'
SameFor q (PopId t b) m m' = SameAt q (id_now q) m m' × SameAt q (len_now q) m m'
SameFor q (PopLen t b d) m m' = SameAt q (len_now q) m m'
SameFor q (PopStore k i l) m m' = Unit {0}
SameFor q PeekIdx m m' = SameAt q used_idx m m' × SameAt q (id_now q) m m'
SameFor q PeekId m m' = SameAt q (id_now q) m m'

abbrev SameThen : Memory → Memory → Queue → Type 0
SameThen m m' q = SameFor q q.call m m'

either : (m m' : Memory) (b : Bool) (x y : Reaction) → SameThen m m' x.queue → SameThen m m' y.queue → SameThen m m' (cond b x y).queue
either m m' true x y f g = f
either m m' false x y f g = g

module _ (q : Queue) (m m' : Memory) where
  same_loaded : (c : Open) → SameFor q c m m' → loaded q (access q c) m ≡ loaded q (access q c) m'
  same_loaded Idle s = refl
  same_loaded (Add h i) s = loads_none q m m' (access q (Add h i)) (loads_when q (Add h i))
  same_loaded (PopIdx t b) s = s.0
  same_loaded (PopId t b) s = s.0
  same_loaded (PopLen t b d) s = s
  same_loaded (PopStore k i l) s = loads_none q m m' (access q (PopStore k i l)) (loads_when q (PopStore k i l))
  same_loaded PeekIdx s = s.0
  same_loaded PeekId s = s

  -- and so it is after its next step
  same_on : (c : Open) → q.call ≡ c → (v : ℕ) → SameFor q c m m' → SameThen (accessed q (access q c) m) (accessed q (access q c) m') (react q c v).queue
  same_on Idle e v s = subst (λ c. SameFor q c m m') (sym e) tt
  same_on (Add h i) e v s = either _ _ (ltb (i + 1) (add_steps q h)) _ _ tt tt
  same_on (PopIdx t b) e v s = either m m' (eqb v q.counts.last) _ _ tt (s.1, s.2)
  same_on (PopId t b) e v s = s.1
  same_on (PopLen t b d) e v s =
      either m m' (eqb (verdict q t b d) 0) _ _ (either m m' (eqb (store_steps q (stored_count q t)) 0) _ _ tt tt) tt
  same_on (PopStore k i l) e v s = either _ _ (ltb (i + 1) (store_steps q k)) _ _ tt tt
  same_on PeekIdx e v s = either m m' (eqb v q.counts.last) _ _ tt s.1
  same_on PeekId e v s = tt

-- of two outcomes that tell the same
next_alike : (o o' : Outcome) → told o ≡ told o' → SameFor o.queue o.queue.call o.memory o'.memory
    → SameThen (move o.queue o.memory).memory (move o'.queue o'.memory).memory (move o.queue o.memory).queue
unfolding move
next_alike o o' e s =
    let q : Queue = o.queue in
    subst (λ (k : Queue). SameThen (accessed q (access q q.call) o.memory) (accessed k (access k k.call) o'.memory) (react q q.call (loaded_now q o.memory)).queue)
    (ap (λ x. x.queue) e)
    (same_on q o.memory o'.memory q.call refl (loaded_now q o.memory) s)

-- THE LAW: a run with nothing in between
pub moves_alike : (b : ℕ) (o o' : Outcome) → told o ≡ told o' → SameFor o.queue o.queue.call o.memory o'.memory → told (moves b o) ≡ told (moves b o')
unfolding moves
moves_alike zero o o' e s = e
moves_alike (suc b) o o' e s =
    told_if (is_open o.queue.call) (is_open o'.queue.call) _ _ o o' (ap (λ x. is_open x.queue.call) e)
    (moves_alike b (and_then o (move o.queue o.memory)) (and_then o' (move o'.queue o'.memory))
    (stepped_alike o o' o.memory o'.memory e (same_loaded o.queue o.memory o'.memory o.queue.call s))
    (next_alike o o' e s))
    e

-- ---- openings and whole calls

-- refusals: shared memory counts for them only as to whether it is large enough
module _ (q : Queue) (m m' : Memory) (f : fits q m ≡ fits q m') where
  add_refusal_lem : (bs : List Buffer) → add_refusal q m bs ≡ add_refusal q m' bs
  add_refusal_lem bs = ap (λ b. first (add_tests q b bs)) f

  call_refusal_lem : call_refusal q m ≡ call_refusal q m'
  call_refusal_lem = ap (λ b. first (call_tests q b)) f

  step_refusal_lem : step_refusal q m ≡ step_refusal q m'
  step_refusal_lem = ap (λ b. first (step_tests q b)) f

-- a refusal, or an outcome that tells the same
told_unless : (k k' : ℕ) (q : Queue) (m m' : Memory) (o o' : Outcome) → k ≡ k' → told o ≡ told o' → told (unless k q m o) ≡ told (unless k' q m' o')
told_unless k k' q m m' o o' e f =
    subst (λ j. told (unless k q m o) ≡ told (unless j q m' o')) e (told_if (eqb k 0) (eqb k 0) o o' (refused k q m) (refused k q m') refl f refl)

-- a call opened with the record r, and run to its end
told_whole : (n k k' : ℕ) (q r : Queue) (m m' : Memory) → k ≡ k' → SameFor r r.call m m'
    → told (whole n (unless k q m (opened r m))) ≡ told (whole n (unless k' q m' (opened r m')))
told_whole n k k' q r m m' e s =
    subst (λ j. told (whole n (unless k q m (opened r m))) ≡ told (whole n (unless j q m' (opened r m')))) e (go (eqb k 0) refl)
  where
    go : (b : Bool) → eqb k 0 ≡ b → told (whole n (cond b (opened r m) (refused k q m))) ≡ told (whole n (cond b (opened r m') (refused k q m')))
    go true f = moves_alike (n + 4) (opened r m) (opened r m') refl s
    go false f = rw f

-- the field that should_notify loads
abbrev pub notified_by : Queue → Place
notified_by q = cond q.modes.event_idx avail_event used_flags

module _ (q : Queue) (m m' : Memory) (f : fits q m ≡ fits q m') where
  -- openings
  pub open_add_alike : (bs : List Buffer) → told (open_add q m bs) ≡ told (open_add q m' bs)
  unfolding open_add
  open_add_alike bs =
      told_unless (add_refusal q m bs) (add_refusal q m' bs) q m m' _ _ (add_refusal_lem q m m' f bs) refl

  pub open_pop_alike : (t : ℕ) (bs : List Buffer) → told (open_pop q m t bs) ≡ told (open_pop q m' t bs)
  unfolding open_pop
  open_pop_alike t bs = told_unless (call_refusal q m) (call_refusal q m') q m m' _ _ (call_refusal_lem q m m' f) refl

  pub open_peek_alike : told (open_peek q m) ≡ told (open_peek q m')
  unfolding open_peek
  open_peek_alike = told_unless (call_refusal q m) (call_refusal q m') q m m' _ _ (call_refusal_lem q m m' f) refl

  -- a step and a run of the open call
  pub step_call_alike : loaded_now q m ≡ loaded_now q m' → told (step q m) ≡ told (step q m')
  unfolding run moves
  step_call_alike e =
      told_unless (step_refusal q m) (step_refusal q m') q m m' _ _ (step_refusal_lem q m m' f)
      (told_if (is_open q.call) (is_open q.call) _ _ (opened q m) (opened q m') refl (stepped_alike (opened q m) (opened q m') m m' refl e) refl)

  pub run_alike : (b : ℕ) → SameFor q q.call m m' → told (run b q m) ≡ told (run b q m')
  unfolding run
  run_alike b s =
      told_unless (step_refusal q m) (step_refusal q m') q m m' _ _ (step_refusal_lem q m m' f) (moves_alike b (opened q m) (opened q m') refl s)

  -- THE LAWS: whole calls, each by what it loads
  pub add_alike : (bs : List Buffer) → told (add q m bs) ≡ told (add q m' bs)
  unfolding open_add
  add_alike bs =
      told_whole q.n (add_refusal q m bs) (add_refusal q m' bs) q (add_opened q bs) m m' (add_refusal_lem q m m' f bs) (go (q.modes.indirect && ltb 1 (length bs)))
    where
      go : (b : Bool) → SameThen m m' (cond b (add_indirect q bs) (add_direct q bs))
      go true = tt
      go false = tt

  pub pop_alike : SameAt q used_idx m m' → SameAt q (id_now q) m m' → SameAt q (len_now q) m m' → (t : ℕ) (bs : List Buffer) → told (pop_used q m t bs) ≡ told (pop_used q m' t bs)
  unfolding open_pop
  pop_alike x y z t bs =
      told_whole q.n (call_refusal q m) (call_refusal q m') q (with_call q (PopIdx t (matches q t bs))) m m' (call_refusal_lem q m m' f) (x, y, z)

  pub peek_alike : SameAt q used_idx m m' → SameAt q (id_now q) m m' → told (peek_used q m) ≡ told (peek_used q m')
  unfolding open_peek
  peek_alike x y =
      told_whole q.n (call_refusal q m) (call_refusal q m') q (with_call q PeekIdx) m m' (call_refusal_lem q m m' f) (x, y)

  pub can_pop_alike : SameAt q used_idx m m' → told (can_pop q m) ≡ told (can_pop q m')
  unfolding can_pop
  can_pop_alike e =
      told_unless (call_refusal q m) (call_refusal q m') q m m' _ _ (call_refusal_lem q m m' f)
      (λ i. record { answer = 0; value = one_if (not (eqb (e i) q.counts.last)); steps = 1; queue = q })

  pub should_notify_alike : SameAt q (notified_by q) m m' → told (should_notify q m) ≡ told (should_notify q m')
  unfolding should_notify
  should_notify_alike e =
      told_unless (call_refusal q m) (call_refusal q m') q m m' _ _ (call_refusal_lem q m m' f)
      (ap (λ v. record { answer = 0; value = v; steps = 1; queue = q }) (go q.modes.event_idx e))
    where
      at : Place → Memory → ℕ
      at p x = load_at (spot q.modes.legacy q.n p) x

      go : (b : Bool) → at (cond b avail_event used_flags) m ≡ at (cond b avail_event used_flags) m'
          → one_if (cond b (notify_by_event q.counts.avail (at avail_event m)) (by_flags (at used_flags m)))
          ≡ one_if (cond b (notify_by_event q.counts.avail (at avail_event m')) (by_flags (at used_flags m')))
      go true g = ap (λ v. one_if (notify_by_event q.counts.avail v)) g
      go false g = ap (λ v. one_if (by_flags v)) g

  pub set_notify_alike : (b : Bool) → told (set_dev_notify q m b) ≡ told (set_dev_notify q m' b)
  unfolding set_dev_notify
  set_notify_alike b =
      told_unless (call_refusal q m) (call_refusal q m') q m m' _ _ (call_refusal_lem q m m' f)
      (told_if q.modes.event_idx q.modes.event_idx _ _ _ _ refl refl refl)

-- available_desc reads no memory at all
pub available_alike : (q : Queue) (m m' : Memory) → told (available_desc q m) ≡ told (available_desc q m')
unfolding available_desc
available_alike q m m' = told_unless (count_refusal q) (count_refusal q) q m m' _ _ refl refl
