-- A pop frees the chain of its token, or it alters nothing: the whole call, and each of its steps.
use Rattle.std.specs.Prelude.{◌≡◌, refl, Bool, true, false, cond, ◌⊎◌, List, ◌++◌, ℕ, ◌+◌, ltb, eqb}
use Rattle.std.proofs.Common.{sym, ap, subst, ◌∙◌, true≢false, inl, inr, arith, eqb-true, get_or-set_other}
use Rattle.lists.specs.Tests.{by_eq, and_right}
use Rattle.virtio.specs.declared.Buffer.{Buffer}
use Rattle.virtio.specs.Memory.{Memory}
use Rattle.rules.specs.declared.Open.{Open}
use Rattle.rules.specs.declared.Open.TheVariants.{Idle, Add, PopIdx, PopId, PopLen, PopStore, PeekIdx, PeekId}
use Rattle.rules.specs.Record.{Queue, noted_of, outstanding, free_list, chain_of, buffers_of, is_add, with_call}
use Rattle.rules.specs.WellFormed.{store_steps}
use Rattle.rules.specs.Meaning.{Out}
use Rattle.rules.specs.Answer.{Outcome}
use Rattle.rules.specs.Step.{Reaction, ends, token_of, freed, verdict, stored_count, popped, react}
use Rattle.rules.specs.Calls.{same_list, call_refusal, matches, opened, open_pop, pop_used}
use Rattle.laws.specs.WellFormedIs.{out_means}
use Rattle.laws.specs.PopKeeps.{freed_free, freed_others, freed_token}
use Rattle.laws.specs.CallKeeps.{Good}
use Rattle.laws.specs.StepsLeft.{passed}
use Rattle.laws.specs.Whole.{pop_refused, pop_opens}
use Rattle.laws.specs.Popped.{used_idx_of, used_id_of, pop_verdict, pop_not_ready, pop_fails, pop_passes, not_adding}

-- r is q with the chain of token t freed: it was outstanding and stands first in the free list, the token heads none, every other number's noted length is as
-- it was, and so are every other chain and list
pub record Freed (q r : Queue) (t : ℕ) : Type 0 where
  pub out : Out q t
  pub free : free_list r ≡ chain_of q t ++ free_list q
  pub token : noted_of r t ≡ 0
  pub noted : (h : ℕ) → (h ≡ t → ⊥) → noted_of r h ≡ noted_of q h
  pub others : (h : ℕ) → Out q h → (h ≡ t → ⊥) → (chain_of r h ≡ chain_of q h) × (buffers_of r h ≡ buffers_of q h) × (noted_of r h ≡ noted_of q h)

is_freed : (q : Queue) → Good q → is_add q.call ≡ false → (t : ℕ) → Out q t → (c : Open) → Freed q (with_call (freed q t) c) t
is_freed q g a t o c = record {
  out = o;
  free = freed_free q t g.held g.well o a;
  token = freed_token q t g.held g.well o a;
  noted = λ h d. get_or-set_other q.tables.noted t h 0 0 d;
  others = freed_others q t g.held g.well o a;
}

-- ---- the whole call

-- it is refused, and alters nothing
pub record Refuses (q : Queue) (m : Memory) (o : Outcome) : Type 0 where
  pub answer : o.answer ≡ 0 → ⊥
  pub queue : o.queue ≡ q
  pub memory : o.memory ≡ m

-- it frees the chain of its token, which was added with the list that it was given, and leaves no other record than that
pub record Frees (q : Queue) (t : ℕ) (bs : List Buffer) (o : Outcome) : Type 0 where
  pub answer : o.answer ≡ 0
  pub list : same_list (buffers_of q t) bs ≡ true
  pub chain : Freed q o.queue t
  pub left : o.queue ≡ with_call (freed q t) Idle

-- THE LAW of pop
pub pop_frees_or_nothing : (q : Queue) (m : Memory) (t : ℕ) (bs : List Buffer) → Good q → Refuses q m (pop_used q m t bs) ⊎ Frees q t bs (pop_used q m t bs)
pop_frees_or_nothing q m t bs g =
    by_eq (call_refusal q m) 0
    (λ e. by_eq (used_idx_of q m) q.counts.last
    (λ i. inl (nothing (pop_not_ready q m t bs e i) (omega arith)))
    (λ i. by_eq (pop_verdict q m t bs) 0
    (λ f. inr (subst (Frees q t bs) (sym (pop_passes q m t bs e g i f)) (frees e f)))
    (λ f. inl (nothing (pop_fails q m t bs e i f) f))))
    (λ e. inl (nothing (pop_refused q m t bs e) e))
  where
    nothing : {a s : ℕ} → pop_used q m t bs ≡ record { answer = a; value = 0; steps = s; queue = q; memory = m } → (a ≡ 0 → ⊥) → Refuses q m (pop_used q m t bs)
    nothing e d = subst (Refuses q m) (sym e) (record { answer = d; queue = refl; memory = refl })

    frees : {v s : ℕ} {x : Memory} → call_refusal q m ≡ 0 → pop_verdict q m t bs ≡ 0 → Frees q t bs (record { answer = 0; value = v; steps = s; queue = with_call (freed q t) Idle; memory = x })
    frees e f =
        let p = passed q t (matches q t bs) (used_id_of q m) f in
        record {
          answer = refl;
          list = and_right (outstanding q t) (same_list (buffers_of q t) bs) p.2;
          chain = is_freed q g (not_adding q m e) t (out_means q t p.1) Idle;
          left = refl;
        }

-- ---- its steps

-- the third load of a pop that matched and was given its token: the record after it is r
pub record Third (q r : Queue) : Type 0 where
  pub token : ℕ
  pub id : ℕ
  pub call : q.call ≡ PopLen token true id
  pub same : token_of id ≡ token
  pub frees : Freed q r token
  pub left : r ≡ with_call (freed q token) r.call

-- r is q but for the open call; or q's step was such a load
abbrev pub KeptOrFreed : Queue → Queue → Type 0
KeptOrFreed q r = (r ≡ with_call q r.call) ⊎ Third q r

module _ (q : Queue) (g : Good q) where
  either : (b : Bool) (x y : Reaction) → KeptOrFreed q x.queue → KeptOrFreed q y.queue → KeptOrFreed q (cond b x y).queue
  either true x y h k = h
  either false x y h k = k

  third : (t : ℕ) (b : Bool) (d : ℕ) → q.call ≡ PopLen t b d → verdict q t b d ≡ 0 → (c : Open) → Third q (with_call (freed q t) c)
  third t b d e f c =
      let p = passed q t b d f in
      record {
        token = t;
        id = d;
        call = e ∙ ap (λ x. PopLen t x d) p.2;
        same = p.0;
        frees = is_freed q g (ap is_add e) t (out_means q t p.1) c;
        left = refl;
      }

  at_third : (t : ℕ) (b : Bool) (d v : ℕ) → q.call ≡ PopLen t b d → KeptOrFreed q (react q (PopLen t b d) v).queue
  at_third t b d v e = go (eqb (verdict q t b d) 0) refl
    where
      go : (z : Bool) → eqb (verdict q t b d) 0 ≡ z → KeptOrFreed q (cond z (popped q t v) (ends q (verdict q t b d) 0)).queue
      go true f =
          let u : verdict q t b d ≡ 0 = eqb-true (verdict q t b d) 0 f in
          either (eqb (store_steps q (stored_count q t)) 0) _ _ (inr (third t b d e u Idle)) (inr (third t b d e u (PopStore (stored_count q t) 0 v)))
      go false f = inl refl

  reacts : (c : Open) → q.call ≡ c → is_add c ≡ false → (v : ℕ) → KeptOrFreed q (react q c v).queue
  reacts Idle e a v = inl refl
  reacts (Add h i) e a v = absurd (true≢false a)
  reacts (PopIdx t b) e a v = either (eqb v q.counts.last) _ _ (inl refl) (inl refl)
  reacts (PopId t b) e a v = inl refl
  reacts (PopLen t b d) e a v = at_third t b d v e
  reacts (PopStore k i l) e a v = either (ltb (i + 1) (store_steps q k)) _ _ (inl refl) (inl refl)
  reacts PeekIdx e a v = either (eqb v q.counts.last) _ _ (inl refl) (inl refl)
  reacts PeekId e a v = inl refl

-- THE LAW of a step of any call but an add, whatever number it loads
pub step_frees_or_nothing : (q : Queue) → Good q → is_add q.call ≡ false → (v : ℕ) → KeptOrFreed q (react q q.call v).queue
step_frees_or_nothing q g a v = reacts q g q.call refl a v

-- ---- a pop that was opened with a list, and its loads one at a time

-- its open call up to the third load: the token, and whether the list was the one added
pub data Loading (q : Queue) (t : ℕ) (bs : List Buffer) : Open → Type 0 where
  before_idx : Loading q t bs (PopIdx t (matches q t bs))
  before_id : Loading q t bs (PopId t (matches q t bs))
  before_len : (id : ℕ) → Loading q t bs (PopLen t (matches q t bs) id)

-- what a load leads to: the next load, or the end with nothing altered; or, where the list was the one added, the chain freed
pub record Unmoved (q r : Queue) (t : ℕ) (bs : List Buffer) : Type 0 where
  pub record_stays : r ≡ with_call q r.call
  pub goes_on : (r.call ≡ Idle) ⊎ Loading q t bs r.call

pub record FreesListed (q r : Queue) (t : ℕ) (bs : List Buffer) : Type 0 where
  pub list : same_list (buffers_of q t) bs ≡ true
  pub left : r ≡ with_call (freed q t) r.call

abbrev pub ByList : Queue → ℕ → List Buffer → Queue → Type 0
ByList q t bs r = Unmoved q r t bs ⊎ FreesListed q r t bs

module _ (q : Queue) (t : ℕ) (bs : List Buffer) where
  one_of : (b : Bool) (x y : Reaction) → ByList q t bs x.queue → ByList q t bs y.queue → ByList q t bs (cond b x y).queue
  one_of true x y h k = h
  one_of false x y h k = k

  closed_by : (z : Bool) (d v : ℕ) → eqb (verdict q t (matches q t bs) d) 0 ≡ z
      → ByList q t bs (cond z (popped q t v) (ends q (verdict q t (matches q t bs) d) 0)).queue
  closed_by true d v f =
      let p = passed q t (matches q t bs) d (eqb-true (verdict q t (matches q t bs) d) 0 f) in
      let l : same_list (buffers_of q t) bs ≡ true = and_right (outstanding q t) (same_list (buffers_of q t) bs) p.2 in
      one_of (eqb (store_steps q (stored_count q t)) 0) _ _ (inr (record { list = l; left = refl })) (inr (record { list = l; left = refl }))
  closed_by false d v f = inl (record { record_stays = refl; goes_on = inl refl })

  -- THE LAW: whatever numbers its three loads give, a pop frees the chain of its token only where the list that it was opened with is the one added
  pub loads_by_list : (c : Open) → Loading q t bs c → (v : ℕ) → ByList q t bs (react (with_call q c) c v).queue
  loads_by_list _ before_idx v =
      one_of (eqb v q.counts.last) _ _ (inl (record { record_stays = refl; goes_on = inl refl })) (inl (record { record_stays = refl; goes_on = inr before_id }))
  loads_by_list _ before_id v = inl (record { record_stays = refl; goes_on = inr (before_len v) })
  loads_by_list _ (before_len d) v = closed_by (eqb (verdict q t (matches q t bs) d) 0) d v refl

-- and so it starts
pub opened_loading : (q : Queue) (m : Memory) (t : ℕ) (bs : List Buffer) → call_refusal q m ≡ 0
    → ((open_pop q m t bs).queue ≡ with_call q (open_pop q m t bs).queue.call) × Loading q t bs (open_pop q m t bs).queue.call
opened_loading q m t bs e =
    let o : open_pop q m t bs ≡ opened (with_call q (PopIdx t (matches q t bs))) m = pop_opens q m t bs e in
    subst (λ x. (x.queue ≡ with_call q x.queue.call) × Loading q t bs x.queue.call) (sym o) (refl, before_idx)
