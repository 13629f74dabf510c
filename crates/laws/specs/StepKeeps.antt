-- Whatever number a step loads, it leaves a well-formed record well formed: so whatever the device writes.
use Rattle.std.specs.Prelude.{◌≡◌, refl, Bool, true, false, not, cond, List, [], ◌∷◌, ℕ, zero, suc, ◌+◌, ◌^◌, ◌≤◌, ◌<◌, ltb, eqb}
use Rattle.std.proofs.Common.{sym, ap, ◌∙◌, subst, arith, ltb-true, eqb-true}
use Rattle.std.proofs.Math.Nat.{pow-le-pow_right}
use Rattle.std.proofs.lemmas.Bool.{eqb-false, not-false}
use Rattle.lists.specs.Index.{ahead, after, ahead_more}
use Rattle.lists.specs.Pick.{Test, ◌when◌, tally, one_if}
use Rattle.lists.specs.PickLaws.{first_none, NoneOf}
use Rattle.rules.specs.declared.Open.{Open}
use Rattle.rules.specs.declared.Open.TheVariants.{Idle, Add, PopIdx, PopId, PopLen, PopStore, PeekIdx, PeekId}
use Rattle.rules.specs.Record.{Queue, noted_of, outstanding, is_indirect, is_add, with_call, with_avail}
use Rattle.rules.specs.WellFormed.{out_count, add_steps, store_steps}
use Rattle.rules.specs.Meaning.{WellFormed, Out, Listed, Named, Adding, Storing}
use Rattle.rules.specs.Answer.{WrongToken, NotOutstanding, Mismatch}
use Rattle.rules.specs.Step.{token_of, Reaction, verdict, stored_count, popped, at_length, react}
use Rattle.laws.specs.Held.{Held}
use Rattle.laws.specs.WellFormedIs.{out_means}
use Rattle.laws.specs.FreeLaws.{noted_used}
use Rattle.laws.specs.PopKeeps.{freed_keeps}

-- ---- a record with another avail_idx and another open call: all that is said of its tables stays

module _ (q : Queue) (a : ℕ) (c : Open) where
  abbrev moved : Queue
  moved = with_call (with_avail q a) c

  out_back : (h : ℕ) → Out moved h → Out q h
  out_back h o = record { below = o.below; noted = o.noted }

  listed_on : (h : ℕ) → Listed q h → Listed moved h
  listed_on h l =
      record { mode = l.mode; flags = l.flags; addr = l.addr; two = l.two; most = l.most; len = l.len }

  named_on : (d : Open) → Named q d → Named moved d
  named_on Idle n = tt
  named_on (Add h i) n = record { head = record { below = n.head.below; noted = n.head.noted }; step = n.step }
  named_on (PopIdx t b) n = tt
  named_on (PopId t b) n = tt
  named_on (PopLen t b d) n = tt
  named_on (PopStore k i l) n = record { step = n.step; free = n.free }
  named_on PeekIdx n = tt
  named_on PeekId n = tt

  moved_keeps : WellFormed q → ahead a q.counts.last + one_if (is_add c) ≡ out_count q → Named q c → WellFormed moved
  moved_keeps w e n = record {
    size = w.size;
    pool = w.pool;
    no_pool = w.no_pool;
    used = w.used;
    free = w.free;
    nexts = w.nexts;
    once = w.once;
    goes_on = λ h i o l. w.goes_on h i (out_back h o) l;
    stops = λ h o. w.stops h (out_back h o);
    listed = λ h o i. listed_on h (w.listed h (out_back h o) i);
    buffers = λ h o. w.buffers h (out_back h o);
    count = e;
    call = named_on c n;
  }

-- another call, that is an add as the old one was or was not, and names a step that it has
pub call_keeps : (q : Queue) (c : Open) → WellFormed q → is_add c ≡ is_add q.call → Named q c → WellFormed (with_call q c)
call_keeps q c w e n =
    moved_keeps q q.counts.avail c w (ap (λ b. ahead q.counts.avail q.counts.last + one_if b) e ∙ w.count) n

-- ---- the steps

pub one_most : (b : Bool) → one_if b ≤ 1
one_most true = omega arith
one_most false = omega arith

pub tally_most : (p : ℕ → Bool) (m i : ℕ) → tally p m i ≤ m
unfolding tally
tally_most p zero i = omega arith
tally_most p (suc m) i = omega (arith, one_most (p i), tally_most p m (suc i))

pub power_most : (n k : ℕ) → k ≤ 6 → n ≡ 2 ^ k → n ≤ 64
power_most n k h e = rw e (pow-le-pow_right (omega arith) h)

-- two sums, kept apart from the indices' own arithmetic
below : (a o n b : ℕ) → a + b ≡ o → o ≤ n → n ≤ 64 → a < 65535
below a o n b e m k = omega arith

sum : (x a o b : ℕ) → x ≡ a + 1 → a + b ≡ o → b ≡ 1 → x + 0 ≡ o
sum x a o b f e z = omega arith

-- a reaction by a test
either : (b : Bool) (x y : Reaction) → (b ≡ true → WellFormed x.queue) → (b ≡ false → WellFormed y.queue) → WellFormed (cond b x y).queue
either true x y f g = f refl
either false x y f g = g refl

module _ (q : Queue) (s : Held q) (w : WellFormed q) where
  -- an add's last step publishes its chain
  published : (h i : ℕ) → q.call ≡ Add h i → WellFormed (with_call (with_avail q (after q.counts.avail)) Idle)
  published h i e =
      let z : one_if (is_add q.call) ≡ 1 = ap (λ c. one_if (is_add c)) e in
      let c : ahead q.counts.avail q.counts.last + one_if (is_add q.call) ≡ out_count q = w.count in
      let m : out_count q ≤ q.n = tally_most (outstanding q) q.n 0 in
      let n : q.n ≤ 64 = power_most q.n w.size.0 w.size.1 w.size.2 in
      let f : ahead (after q.counts.avail) q.counts.last ≡ ahead q.counts.avail q.counts.last + 1 = ahead_more q.counts.avail q.counts.last s.avail s.last (below (ahead q.counts.avail q.counts.last) (out_count q) q.n (one_if (is_add q.call)) c m n) in
      moved_keeps q (after q.counts.avail) Idle w (sum (ahead (after q.counts.avail) q.counts.last) (ahead q.counts.avail q.counts.last) (out_count q) (one_if (is_add q.call)) f c z) tt

  -- the open call is no add, and another that is none, and has its step, takes its place
  other_call : (c d : Open) → q.call ≡ c → is_add c ≡ false → is_add d ≡ false → Named q d → WellFormed (with_call q d)
  other_call c d e f g n = call_keeps q d w (g ∙ sym (ap is_add e ∙ f)) n

  -- the chain of an outstanding token is freed
  stored_most : (t : ℕ) → stored_count q t ≤ noted_of q t
  stored_most t = pick (is_indirect q t)
    where
      pick : (b : Bool) → cond b 0 (noted_of q t) ≤ noted_of q t
      pick true = omega arith
      pick false = omega arith

  popped_keeps : (t len : ℕ) → is_add q.call ≡ false → Out q t → WellFormed (popped q t len).queue
  popped_keeps t len a o =
      either (eqb (store_steps q (stored_count q t)) 0) _ _
      (λ z. freed_keeps q t s w o a Idle tt refl)
      (λ z. let f : (store_steps q (stored_count q t) ≡ 0 → ⊥) = eqb-false (store_steps q (stored_count q t)) 0 z in
      let u : noted_of q t ≤ q.counts.used = noted_used q w t o.below in
      let v : q.counts.used ≤ q.n = w.used in
      let m : stored_count q t ≤ noted_of q t = stored_most t in
      freed_keeps q t s w o a (PopStore (stored_count q t) 0 len) (record { step = omega arith; free = omega arith }) refl)

  abbrev tests : ℕ → Bool → ℕ → List Test
  tests t b d =
      (WrongToken when not (eqb (token_of d) t)) ∷ (NotOutstanding when not (outstanding q t)) ∷ (Mismatch when not b) ∷ []

  length_keeps : (t : ℕ) (b : Bool) (d v : ℕ) → q.call ≡ PopLen t b d → WellFormed (at_length q t b d v).queue
  length_keeps t b d v e =
      either (eqb (verdict q t b d) 0) _ _
      (λ z. let n : NoneOf (tests t b d) = first_none (tests t b d) (omega arith) (eqb-true (verdict q t b d) 0 z) in
      popped_keeps t v (ap is_add e) (out_means q t (not-false (outstanding q t) n.1.0)))
      (λ z. other_call (PopLen t b d) Idle e refl refl tt)

  -- THE LAW, for the call that is open and any number that its access loads
  pub react_keeps : (c : Open) → q.call ≡ c → (v : ℕ) → WellFormed (react q c v).queue
  react_keeps Idle e v = w
  react_keeps (Add h i) e v =
      let n : Adding q h i = subst (λ c. Named q c) e w.call in
      either (ltb (i + 1) (add_steps q h)) _ _
      (λ t. call_keeps q (Add h (i + 1)) w (sym (ap is_add e)) (record { head = n.head; step = ltb-true (i + 1) (add_steps q h) t }))
      (λ t. published h i e)
  react_keeps (PopIdx t b) e v =
      either (eqb v q.counts.last) _ _ (λ z. other_call (PopIdx t b) Idle e refl refl tt) (λ z. other_call (PopIdx t b) (PopId t b) e refl refl tt)
  react_keeps (PopId t b) e v = other_call (PopId t b) (PopLen t b v) e refl refl tt
  react_keeps (PopLen t b d) e v = length_keeps t b d v e
  react_keeps (PopStore k i l) e v =
      let n : Storing q k i = subst (λ c. Named q c) e w.call in
      either (ltb (i + 1) (store_steps q k)) _ _
      (λ t. other_call (PopStore k i l) (PopStore k (i + 1) l) e refl refl (record { step = ltb-true (i + 1) (store_steps q k) t; free = n.free }))
      (λ t. other_call (PopStore k i l) Idle e refl refl tt)
  react_keeps PeekIdx e v =
      either (eqb v q.counts.last) _ _ (λ z. other_call PeekIdx Idle e refl refl tt) (λ z. other_call PeekIdx PeekId e refl refl tt)
  react_keeps PeekId e v = other_call PeekId Idle e refl refl tt
