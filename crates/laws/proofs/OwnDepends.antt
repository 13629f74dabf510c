-- What the owning queue's answers may depend on. Of shared memory: on whether it is large enough; a poll on used idx and on the id and the length of the
-- element that it looks at; should_notify on the field that it loads; new, release and set_dev_notify on nothing else. Of the store: on its length alone.
-- And what becomes of the store: new clears the buffers, and no other call changes it.
use Rattle.std.specs.Prelude.{Option, None, Some, ◌≡◌, Bool, true, false, cond, ◌&&◌, List, [], ◌∷◌, ◌++◌, ltb, leb, length, replicate, drop}
use Rattle.std.proofs.Math.Path.{refl, ap}
use Rattle.std.proofs.Common.{sym, ap₂, ◌∙◌, true≢false, arith, leb-true}
use Rattle.std.proofs.lemmas.Bool.{false≢true, not-false}
use Prim.Native.Nat.{ℕ, zero, suc, ◌+◌, ◌*◌, ◌≤◌}
use Rattle.std.proofs.Math.Dec.{eqb}
use Rattle.std.proofs.lemmas.List.{length-replicate}
use Rattle.std.proofs.lemmas.List.Edits.{sets-eq}
use Rattle.lists.specs.Pick.{first}
use Rattle.lists.specs.PickLaws.{first_none}
use Rattle.lists.specs.Tests.{by_eq, and_left, and_right}
use Rattle.virtio.specs.declared.Buffer.{Buffer}
use Rattle.virtio.specs.Memory.{Memory, Place, used_idx, spot, load_at}
use Rattle.rules.specs.declared.Open.TheVariants.{PopIdx}
use Rattle.rules.specs.declared.Held.{Held}
use Rattle.rules.specs.Record.{Queue, with_call}
use Rattle.rules.specs.WellFormed.{base_ok}
use Rattle.rules.specs.Answer.{Outcome, OverLength}
use Rattle.rules.specs.Step.{token_of}
use Rattle.rules.specs.Calls.{fits, add_refusal, call_refusal, add_opened, opened, matches, add, pop_used}
use Rattle.rules.specs.New.{lends}
use Rattle.rules.specs.Owning.{holds, Owning, View, no_view, part, Owned, own_buffer, own_list, own_new_tests, own_new_refusal, add_own, own_new}
use Rattle.rules.specs.Owning.{own_fits, poll_tests, poll_refusal, release_tests, release_refusal, own_well_formed}
use Rattle.rules.specs.Owning.{poll_popped, poll_token, poll, released, release, own_should_notify, own_set_dev_notify}
use Rattle.laws.specs.Depends.{Told, told, SameAt, id_now, len_now}
use Rattle.laws.specs.CallDepends.{notified_by, add_alike, pop_alike, should_notify_alike, set_notify_alike}
use Rattle.laws.specs.Regions.{still_fits, moves_fit, add_shaped}
use Rattle.laws.specs.Whole.{add_is, pop_is, add_refused, pop_refused}
use Rattle.laws.specs.OwnNew.{new_goes, new_refused}
use Rattle.laws.proofs.OwnNew.{new_answers}

-- what a call tells its caller: all of an answer but memory and store
pub record OwnTold : Type 0 where
  pub answer : ℕ
  pub value : ℕ
  pub view : View
  pub owning : Owning

abbrev pub own_told : Owned → OwnTold
own_told r = record { answer = r.answer; value = r.value; view = r.view; owning = r.owning }

own_told_if : (b c : Bool) (x y u v : Owned) → b ≡ c → own_told x ≡ own_told u → own_told y ≡ own_told v → own_told (cond b x y) ≡ own_told (cond c u v)
own_told_if true true x y u v e f g = f
own_told_if true false x y u v e f g = absurd (true≢false e)
own_told_if false true x y u v e f g = absurd (false≢true e)
own_told_if false false x y u v e f g = g

-- ---- what fits before a whole call fits after it

module _ (q : Queue) (m : Memory) (bs : List Buffer) where
  pub add_fits : fits (add q m bs).queue (add q m bs).memory ≡ fits q m
  add_fits =
      by_eq (add_refusal q m bs) 0
      (λ e. ap (λ (x : Outcome). fits x.queue x.memory) (add_is q m bs e)
      ∙ moves_fit (q.n + 4) (opened (add_opened q bs) m)
      ∙ still_fits (add_opened q bs) q m m (add_shaped q bs) (record { one = refl; two = refl; pool = refl }))
      (λ e. ap (λ (x : Outcome). fits x.queue x.memory) (add_refused q m bs e))

  pub pop_fits : (t : ℕ) → fits (pop_used q m t bs).queue (pop_used q m t bs).memory ≡ fits q m
  pop_fits t =
      by_eq (call_refusal q m) 0
      (λ e. ap (λ (x : Outcome). fits x.queue x.memory) (pop_is q m t bs e) ∙ moves_fit (q.n + 4) (opened (with_call q (PopIdx t (matches q t bs))) m))
      (λ e. ap (λ (x : Outcome). fits x.queue x.memory) (pop_refused q m t bs e))

-- adds over two outcomes that tell the same
adds_alike : (p r : Outcome) → told p ≡ told r → fits p.queue p.memory ≡ fits r.queue r.memory → (bs : List Buffer)
    → told (add p.queue p.memory bs) ≡ told (add r.queue r.memory bs)
adds_alike p r e f bs =
    let k : p.queue ≡ r.queue = ap (λ (x : Told). x.queue) e in
    add_alike p.queue p.memory r.memory (f ∙ ap (λ x. fits x r.memory) (sym k)) bs
    ∙ ap (λ x. told (add x r.memory bs)) k

-- ---- over two memories that both do or do not, and two stores of one length

module _ (o : Owning) (m m' : Memory) (s s' : List ℕ) (f : fits o.queue m ≡ fits o.queue m') (l : length s ≡ length s') where
  abbrev q : Queue
  q = o.queue

  same_fits : own_fits o m s ≡ own_fits o m' s'
  same_fits = ap₂ (λ a k. a && leb (q.n * o.size) k) f l

  popped_alike : (p r : Outcome) → told p ≡ told r → fits p.queue p.memory ≡ fits r.queue r.memory → (t : ℕ)
      → own_told (poll_popped o p t s) ≡ own_told (poll_popped o r t s')
  popped_alike p r e g t =
      own_told_if (eqb p.answer 0) (eqb r.answer 0) _ _ _ _ (ap (λ (x : Told). eqb x.answer 0) e)
      (own_told_if (leb p.value o.size) (leb r.value o.size) _ _ _ _ (ap (λ (x : Told). leb x.value o.size) e)
      (ap (λ (x : Told). record { answer = 0; value = t; view = part (t * o.size) x.value; owning = record { queue = x.queue; base = o.base; size = o.size; held = holds t x.value } }) e)
      (ap (λ (x : Told). record { answer = OverLength; value = 0; view = no_view; owning = record { queue = x.queue; base = o.base; size = o.size; held = None } }) (adds_alike p r e g (own_list o t))))
      (ap (λ (x : Told). record { answer = x.answer; value = x.value; view = no_view; owning = record { queue = x.queue; base = o.base; size = o.size; held = o.held } }) e)

  -- THE LAW of poll
  pub poll_alike : SameAt o.queue used_idx m m' → SameAt o.queue (id_now o.queue) m m' → SameAt o.queue (len_now o.queue) m m' → own_told (poll o m s) ≡ own_told (poll o m' s')
  unfolding poll
  poll_alike x y z =
      own_told_if (eqb (poll_refusal o m s) 0) (eqb (poll_refusal o m' s') 0) _ _ _ _ (ap (λ b. eqb (first (poll_tests o b)) 0) same_fits)
      (own_told_if (eqb (at used_idx m) q.counts.last) (eqb (at used_idx m') q.counts.last) _ _ _ _ (ap (λ v. eqb v q.counts.last) x)
      refl
      (token_alike (token_of (at (id_now q) m)) ∙ ap (λ v. own_told (poll_token o (token_of v) m' s')) y))
      (ap (λ b. record { answer = first (poll_tests o b); value = 0; view = no_view; owning = o }) same_fits)
    where
      at : Place → Memory → ℕ
      at p x = load_at (spot q.modes.legacy q.n p) x

      token_alike : (t : ℕ) → own_told (poll_token o t m s) ≡ own_told (poll_token o t m' s')
      token_alike t =
          own_told_if (ltb t q.n) (ltb t q.n) _ _ _ _ refl
          (popped_alike (pop_used q m t (own_list o t)) (pop_used q m' t (own_list o t)) (pop_alike q m m' f x y z t (own_list o t))
          (pop_fits q m (own_list o t) t ∙ f ∙ sym (pop_fits q m' (own_list o t) t)) t)
          refl

  -- THE LAW of release
  pub release_alike : own_told (release o m s) ≡ own_told (release o m' s')
  unfolding release
  release_alike =
      own_told_if (eqb (release_refusal o m s) 0) (eqb (release_refusal o m' s') 0) _ _ _ _ (ap (λ b. eqb (first (release_tests o b)) 0) same_fits)
      (given_alike o.held)
      (ap (λ b. record { answer = first (release_tests o b); value = 0; view = no_view; owning = o }) same_fits)
    where
      given_alike : (h : Option Held) → own_told (released o h m s) ≡ own_told (released o h m' s')
      given_alike None = refl
      given_alike (Some h) =
          ap (λ (x : Told). record { answer = x.answer; value = x.value; view = no_view; owning = record { queue = x.queue; base = o.base; size = o.size; held = None } })
          (add_alike q m m' f (own_list o h.token))

-- THE LAWS of what passes through, which needs no store
module _ (o : Owning) (m m' : Memory) (s s' : List ℕ) (f : fits o.queue m ≡ fits o.queue m') where
  -- what is told of an answer of the queue that is handed on
  abbrev handed_on : Told → OwnTold
  handed_on x = record {
    answer = x.answer;
    value = x.value;
    view = no_view;
    owning = record { queue = x.queue; base = o.base; size = o.size; held = o.held };
  }

  pub own_should_notify_alike : SameAt o.queue (notified_by o.queue) m m' → own_told (own_should_notify o m s) ≡ own_told (own_should_notify o m' s')
  unfolding own_should_notify
  own_should_notify_alike x =
      own_told_if (own_well_formed o) (own_well_formed o) _ _ _ _ refl (ap handed_on (should_notify_alike o.queue m m' f x)) refl

  pub own_set_notify_alike : (b : Bool) → own_told (own_set_dev_notify o m s b) ≡ own_told (own_set_dev_notify o m' s' b)
  unfolding own_set_dev_notify
  own_set_notify_alike b =
      own_told_if (own_well_formed o) (own_well_formed o) _ _ _ _ refl (ap handed_on (set_notify_alike o.queue m m' f b)) refl

-- ---- new

adding_alike : (base size k i : ℕ) (p r : Outcome) → told p ≡ told r → fits p.queue p.memory ≡ fits r.queue r.memory
    → told (add_own base size k i p.queue p.memory) ≡ told (add_own base size k i r.queue r.memory)
unfolding add_own
adding_alike base size zero i p r e f = ap (λ (x : Told). record { answer = 0; value = 0; steps = 0; queue = x.queue }) e
adding_alike base size (suc k) i p r e f =
    let bs : List Buffer = own_buffer base size i ∷ [] in
    adding_alike base size k (suc i) (add p.queue p.memory bs) (add r.queue r.memory bs)
    (adds_alike p r e f bs)
    (add_fits p.queue p.memory bs ∙ f ∙ sym (add_fits r.queue r.memory bs))

module _ (q : Queue) (base size : ℕ) (m m' : Memory) (s s' : List ℕ) (f : fits q m ≡ fits q m') (l : length s ≡ length s') where
  same_lent : (fits q m && lends base (q.n * size) (length s)) ≡ (fits q m' && lends base (q.n * size) (length s'))
  same_lent = ap₂ (λ a k. a && lends base (q.n * size) k) f l

  -- THE LAW of new
  pub new_alike : own_told (own_new q base size m s) ≡ own_told (own_new q base size m' s')
  unfolding own_new
  new_alike =
      own_told_if (eqb (own_new_refusal q base size m s) 0) (eqb (own_new_refusal q base size m' s') 0) _ _ _ _ (ap (λ b. eqb (first (own_new_tests q size b)) 0) same_lent)
      (ap (λ (x : Told). record { answer = 0; value = 0; view = no_view; owning = record { queue = x.queue; base = base; size = size; held = None } })
      (adding_alike base size q.n 0 (opened q m) (opened q m') refl f))
      (ap (λ b. record { answer = first (own_new_tests q size b); value = 0; view = no_view; owning = record { queue = q; base = 0; size = 0; held = None } }) same_lent)

-- ---- what becomes of the store

either_store : (b : Bool) (x y : Owned) (s : List ℕ) → x.store ≡ s → y.store ≡ s → (cond b x y).store ≡ s
either_store true x y s f g = f
either_store false x y s f g = g

module _ (o : Owning) (m : Memory) (s : List ℕ) where
  -- THE LAWS: of any record, these calls leave it
  pub poll_store : (poll o m s).store ≡ s
  unfolding poll
  poll_store =
      either_store (eqb (poll_refusal o m s) 0) _ _ s
      (either_store (eqb (load_at (spot o.queue.modes.legacy o.queue.n used_idx) m) o.queue.counts.last) _ _ s refl
      (token_store (token_of (load_at (spot o.queue.modes.legacy o.queue.n (id_now o.queue)) m))))
      refl
    where
      popped_store : (p : Outcome) (t : ℕ) → (poll_popped o p t s).store ≡ s
      popped_store p t =
          either_store (eqb p.answer 0) _ _ s (either_store (leb p.value o.size) _ _ s refl refl) refl

      token_store : (t : ℕ) → (poll_token o t m s).store ≡ s
      token_store t = either_store (ltb t o.queue.n) _ _ s (popped_store (pop_used o.queue m t (own_list o t)) t) refl

  pub release_store : (release o m s).store ≡ s
  unfolding release
  release_store = either_store (eqb (release_refusal o m s) 0) _ _ s (given_store o.held) refl
    where
      given_store : (h : Option Held) → (released o h m s).store ≡ s
      given_store None = refl
      given_store (Some h) = refl

  pub should_notify_store : (own_should_notify o m s).store ≡ s
  unfolding own_should_notify
  should_notify_store = either_store (own_well_formed o) _ _ s refl refl

  pub set_notify_store : (b : Bool) → (own_set_dev_notify o m s b).store ≡ s
  unfolding own_set_dev_notify
  set_notify_store b = either_store (own_well_formed o) _ _ s refl refl

-- THE LAWS: a new that answers 0 leaves the n buffers all zero and the bytes behind them as they were; one that is refused leaves the store
module _ (q : Queue) (base size : ℕ) (m : Memory) (s : List ℕ) where
  pub new_clears : (own_new q base size m s).answer ≡ 0 → (own_new q base size m s).store ≡ replicate (q.n * size) 0 ++ drop (q.n * size) s
  new_clears e =
      let z : own_new_refusal q base size m s ≡ 0 = sym (new_answers q base size m s) ∙ e in
      let c : List ℕ = replicate (q.n * size) 0 in
      let k : length c ≡ q.n * size = length-replicate (q.n * size) 0 in
      let i : 0 + length c ≡ q.n * size = omega arith in
      let fit : Bool = fits q m && lends base (q.n * size) (length s) in
      let n : _ = first_none (own_new_tests q size fit) (omega arith) z in
      let d : lends base (q.n * size) (length s) ≡ true = and_right (fits q m) (lends base (q.n * size) (length s)) (not-false fit n.1.0) in
      let h : q.n * size ≤ length s = leb-true (q.n * size) (length s) (and_left (leb (q.n * size) (length s)) (base_ok base (q.n * size)) d) in
      ap (λ r. r.store) (new_goes q base size m s z)
      ∙ sets-eq c s 0 (omega arith)
      ∙ ap (λ j. c ++ drop j s) i

  pub new_refused_store : ((own_new q base size m s).answer ≡ 0 → ⊥) → (own_new q base size m s).store ≡ s
  new_refused_store d = ap (λ r. r.store) (new_refused q base size m s (λ z. d (new_answers q base size m s ∙ z)))
