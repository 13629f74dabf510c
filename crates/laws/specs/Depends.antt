-- What a step may depend on: of shared memory its answer and record depend only on the number that its access loads, and on nothing where it loads none; so
-- two runs do that agree in what they load, whatever becomes of the memory in between.
use Rattle.std.specs.Prelude.{◌≡◌, refl, Bool, true, false, cond, ◌⊎◌, List, [], ◌∷◌, ℕ, ◌+◌, ◌%◌, ◌≤◌, ◌<◌, ltb, eqb, get_or}
use Rattle.std.proofs.Common.{sym, ap₂, ◌∙◌, true≢false, inl, inr}
use Rattle.std.proofs.Math.Path.{ap}
use Rattle.std.proofs.lemmas.Bool.{false≢true}
use Rattle.lists.specs.Bytes.{get_agree}
use Rattle.virtio.specs.Memory.{Memory, Place, used_idx, used_id, used_len, Spot, spot, bytes_of, load_at}
use Rattle.rules.specs.declared.Open.{Open}
use Rattle.rules.specs.declared.Open.TheVariants.{Idle, Add, PopIdx, PopId, PopLen, PopStore, PeekIdx, PeekId}
use Rattle.rules.specs.Record.{Queue, is_indirect, size_of, is_open}
use Rattle.rules.specs.Answer.{Outcome}
use Rattle.rules.specs.Step.{Access, nothing, load, store, store_desc, loaded, access, Reaction, react, move}
use Rattle.rules.specs.Calls.{and_then}

-- ---- what an outcome tells, but for the memory

pub record Told : Type 0 where
  pub answer : ℕ
  pub value : ℕ
  pub steps : ℕ
  pub queue : Queue

abbrev pub told : Outcome → Told
told o = record { answer = o.answer; value = o.value; steps = o.steps; queue = o.queue }

-- and once one step more was made, that loaded v
abbrev stepped : Told → ℕ → Told
stepped x v =
    let r : Reaction = react x.queue x.queue.call v in
    record { answer = r.answer; value = r.value; steps = x.steps + 1; queue = r.queue }

-- ---- a step

-- the number that the step of the open call loads, 0 where it loads none
abbrev pub loaded_now : Queue → Memory → ℕ
loaded_now q m = loaded q (access q q.call) m

abbrev pub is_load : Access → Bool
is_load nothing = false
is_load (load p) = true
is_load (store p v) = false
is_load (store_desc p d) = false

-- a place holds the same number in two memories
abbrev pub SameAt : Queue → Place → Memory → Memory → Type 0
SameAt q p m m' = load_at (spot q.modes.legacy q.n p) m ≡ load_at (spot q.modes.legacy q.n p) m'

module _ (q : Queue) (m m' : Memory) where
  pub loads_none : (a : Access) → is_load a ≡ false → loaded q a m ≡ loaded q a m'
  loads_none nothing e = refl
  loads_none (load p) e = absurd (true≢false e)
  loads_none (store p v) e = refl
  loads_none (store_desc p d) e = refl

  -- THE LAW, for any step
  pub step_alike : loaded_now q m ≡ loaded_now q m' → told (move q m) ≡ told (move q m')
  unfolding move
  step_alike e =
      ap (λ v. let r : Reaction = react q q.call v in
      record { answer = r.answer; value = r.value; steps = 1; queue = r.queue }) e

  -- for a load: two memories that hold the same number in its place
  pub step_depends : (p : Place) → access q q.call ≡ load p → SameAt q p m m' → told (move q m) ≡ told (move q m')
  step_depends p a e = step_alike (ap (λ x. loaded q x m) a ∙ e ∙ sym (ap (λ x. loaded q x m') a))

  -- for any other: any two memories
  pub step_alone : is_load (access q q.call) ≡ false → told (move q m) ≡ told (move q m')
  step_alone e = step_alike (loads_none (access q q.call) e)

-- as it does where its bytes are the same
abbrev pub SameBytes : Queue → Place → Memory → Memory → Type 0
SameBytes q p m m' =
    let s : Spot = spot q.modes.legacy q.n p in
    (i : ℕ) → s.offset ≤ i → i < s.offset + s.width → get_or (bytes_of s.region m) i 0 ≡ get_or (bytes_of s.region m') i 0

pub bytes_load : (q : Queue) (p : Place) (m m' : Memory) → SameBytes q p m m' → SameAt q p m m'
bytes_load q p m m' h =
    let s : Spot = spot q.modes.legacy q.n p in
    get_agree s.width (bytes_of s.region m) (bytes_of s.region m') s.offset h

-- ---- which steps load, and which places

-- a pop's first three steps, and a peek's
abbrev pub loading : Open → Bool
loading Idle = false
loading (Add h i) = false
loading (PopIdx t b) = true
loading (PopId t b) = true
loading (PopLen t b d) = true
loading (PopStore k i l) = false
loading PeekIdx = true
loading PeekId = true

-- the element at last_used_idx mod n
abbrev pub id_now : Queue → Place
id_now q = used_id (q.counts.last % q.n)

abbrev pub len_now : Queue → Place
len_now q = used_len (q.counts.last % q.n)

-- used idx, or a field of that element
abbrev pub Loadable : Queue → Place → Type 0
Loadable q p = (p ≡ used_idx) ⊎ ((p ≡ id_now q) ⊎ (p ≡ len_now q))

abbrev pub LoadsOnly : Queue → Access → Type 0
LoadsOnly q nothing = Unit {0}
LoadsOnly q (load p) = Loadable q p
LoadsOnly q (store p v) = Unit {0}
LoadsOnly q (store_desc p d) = Unit {0}

module _ (q : Queue) where
  pick : (b : Bool) (x y : Access) → LoadsOnly q x → LoadsOnly q y → LoadsOnly q (cond b x y)
  pick true x y k l = k
  pick false x y k l = l

  no_load : (b : Bool) (x y : Access) → is_load x ≡ false → is_load y ≡ false → is_load (cond b x y) ≡ false
  no_load true x y k l = k
  no_load false x y k l = l

  -- THE LAWS
  pub loads_when : (c : Open) → is_load (access q c) ≡ loading c
  loads_when Idle = refl
  loads_when (Add h i) =
      no_load (ltb i (size_of q h)) _ _ (no_load (is_indirect q h) _ _ refl refl)
      (no_load (eqb i (size_of q h)) _ _ refl (no_load (eqb i (size_of q h + 1)) _ _ refl refl))
  loads_when (PopIdx t b) = refl
  loads_when (PopId t b) = refl
  loads_when (PopLen t b d) = refl
  loads_when (PopStore k i l) = no_load (ltb i k) _ _ refl refl
  loads_when PeekIdx = refl
  loads_when PeekId = refl

  pub loads_only : (c : Open) → LoadsOnly q (access q c)
  loads_only Idle = tt
  loads_only (Add h i) =
      pick (ltb i (size_of q h)) _ _ (pick (is_indirect q h) _ _ tt tt)
      (pick (eqb i (size_of q h)) _ _ tt (pick (eqb i (size_of q h + 1)) _ _ tt tt))
  loads_only (PopIdx t b) = inl refl
  loads_only (PopId t b) = inr (inl refl)
  loads_only (PopLen t b d) = inr (inr refl)
  loads_only (PopStore k i l) = pick (ltb i k) _ _ tt tt
  loads_only PeekIdx = inl refl
  loads_only PeekId = inr (inl refl)

-- ---- runs with anything in between

-- a step on each memory of the list in turn, while a call is open: what stands between the steps is arbitrary
unfoldable pub mixed : List Memory → Outcome → Outcome
mixed [] o = o
mixed (m ∷ ms) o =
    let r : Outcome = mixed ms (and_then o (move o.queue m)) in
    cond (is_open o.queue.call) r o

-- two lists of memories, of one length, that agree step for step in what the first run loads there; with no call open it loads nothing
abbrev pub Alike : Queue → List Memory → List Memory → Type 0
Alike q [] [] = Unit {0}
Alike q [] (m' ∷ ms') = ⊥
Alike q (m ∷ ms) [] = ⊥
Alike q (m ∷ ms) (m' ∷ ms') = (loaded_now q m ≡ loaded_now q m') × Alike (move q m).queue ms ms'

-- one more step of two runs that told the same so far
pub stepped_alike : (o o' : Outcome) (m m' : Memory) → told o ≡ told o' → loaded_now o.queue m ≡ loaded_now o.queue m'
    → told (and_then o (move o.queue m)) ≡ told (and_then o' (move o'.queue m'))
unfolding move
stepped_alike o o' m m' e l = ap₂ stepped e (l ∙ ap (λ x. loaded_now x.queue m') e)

-- and the choice whether to make it
pub told_if : (b b' : Bool) (x x' o o' : Outcome) → b ≡ b' → told x ≡ told x' → told o ≡ told o' → told (cond b x o) ≡ told (cond b' x' o')
told_if true true x x' o o' e f g = f
told_if true false x x' o o' e f g = absurd (true≢false e)
told_if false true x x' o o' e f g = absurd (false≢true e)
told_if false false x x' o o' e f g = g

-- THE LAW: two such runs, from one record, have the same answer, value, steps and record
pub runs_alike : (ms ms' : List Memory) (o o' : Outcome) → told o ≡ told o' → Alike o.queue ms ms' → told (mixed ms o) ≡ told (mixed ms' o')
unfolding mixed
runs_alike [] [] o o' e a = e
runs_alike [] (m' ∷ ms') o o' e a = absurd a
runs_alike (m ∷ ms) [] o o' e a = absurd a
runs_alike (m ∷ ms) (m' ∷ ms') o o' e a =
    told_if (is_open o.queue.call) (is_open o'.queue.call) _ _ o o' (ap (λ x. is_open x.queue.call) e)
    (runs_alike ms ms' (and_then o (move o.queue m)) (and_then o' (move o'.queue m')) (stepped_alike o o' m m' e a.0) a.1)
    e

-- so for memories that agree, step for step, in the bytes that the first run loads there
abbrev pub SameLoaded : Queue → Access → Memory → Memory → Type 0
SameLoaded q nothing m m' = Unit {0}
SameLoaded q (load p) m m' = SameBytes q p m m'
SameLoaded q (store p v) m m' = Unit {0}
SameLoaded q (store_desc p d) m m' = Unit {0}

abbrev pub AlikeBytes : Queue → List Memory → List Memory → Type 0
AlikeBytes q [] [] = Unit {0}
AlikeBytes q [] (m' ∷ ms') = ⊥
AlikeBytes q (m ∷ ms) [] = ⊥
AlikeBytes q (m ∷ ms) (m' ∷ ms') = SameLoaded q (access q q.call) m m' × AlikeBytes (move q m).queue ms ms'

pub bytes_loaded : (q : Queue) (a : Access) (m m' : Memory) → SameLoaded q a m m' → loaded q a m ≡ loaded q a m'
bytes_loaded q nothing m m' s = refl
bytes_loaded q (load p) m m' s = bytes_load q p m m' s
bytes_loaded q (store p v) m m' s = refl
bytes_loaded q (store_desc p d) m m' s = refl

bytes_alike : (q : Queue) (ms ms' : List Memory) → AlikeBytes q ms ms' → Alike q ms ms'
bytes_alike q [] [] a = tt
bytes_alike q [] (m' ∷ ms') a = absurd a
bytes_alike q (m ∷ ms) [] a = absurd a
bytes_alike q (m ∷ ms) (m' ∷ ms') a =
    (bytes_loaded q (access q q.call) m m' a.0, bytes_alike (move q m).queue ms ms' a.1)

pub runs_alike_bytes : (ms ms' : List Memory) (o o' : Outcome) → told o ≡ told o' → AlikeBytes o.queue ms ms' → told (mixed ms o) ≡ told (mixed ms' o')
runs_alike_bytes ms ms' o o' e a = runs_alike ms ms' o o' e (bytes_alike o.queue ms ms' a)
