-- Pop and peek in closed form: what each answers, how many steps it counts, and the record and the memory that it leaves, from the three numbers that it loads.
use Rattle.std.specs.Prelude.{◌≡◌, Bool, true, false, List, eqb}
use Rattle.std.proofs.Math.Path.{refl, ap, ap₂}
use Rattle.std.proofs.Common.{sym, ◌∙◌}
use Rattle.std.proofs.Math.Bool.{cond}
use Prim.Native.Nat.{ℕ, zero, suc, ◌+◌, ◌-◌, ◌%◌, ◌≤◌, ◌<◌}
use native.Mathlib.Omega.{arith}
use borrow.Author.Tests.{lt-ltb, le-ltb, eq-eqb, ne_eqb, eqb-true, eqb-false}
use Rattle.lists.specs.Tests.{by_test}
use Rattle.lists.specs.Walk.{hop}
use Rattle.lists.specs.Pick.{one_if}
use Rattle.virtio.specs.declared.Buffer.{Buffer}
use Rattle.virtio.specs.Memory.{Memory, desc, used_event, used_idx, used_id, used_len, spot, load_at, store_at, store_desc_at}
use Rattle.rules.specs.declared.Open.{Open}
use Rattle.rules.specs.declared.Open.TheVariants.{Idle, PopIdx, PopId, PopLen, PopStore, PeekIdx, PeekId}
use Rattle.rules.specs.Record.{Queue, desc_of, next_of, is_add, with_call}
use Rattle.rules.specs.WellFormed.{store_steps}
use Rattle.rules.specs.Answer.{Outcome, NotReady}
use Rattle.rules.specs.Step.{accessed, pop_access, token_of, freed, stored_count, verdict, move}
use Rattle.rules.specs.Calls.{fits, call_refusal, matches, moves, pop_used, peek_used}
use Rattle.laws.specs.CallKeeps.{Good, none_open}
use Rattle.laws.specs.Runs.{onward, moves_closed, moves_open}
use Rattle.laws.specs.StepsLeft.{stores_due, due_most, passed}
use Rattle.laws.specs.Allowed.{call_allowed}
use Rattle.laws.specs.Whole.{pop_is, peek_is}

-- ---- the stores of a pop, over the record p in which its chain is free

module _ (p : Queue) where
  -- the memory after i of the descriptors that stand first in the free list are stored
  unfoldable pub descs_stored : ℕ → Memory → Memory
  descs_stored zero m = m
  descs_stored (suc i) m =
      let d : ℕ = hop (next_of p) i p.counts.free in
      store_desc_at (spot p.modes.legacy p.n (desc d)) (desc_of p d) (descs_stored i m)

  -- after k of them, and used_event if it is in use
  abbrev pub pop_stored : ℕ → Memory → Memory
  pop_stored k m =
      cond p.modes.event_idx (store_at (spot p.modes.legacy p.n used_event) p.counts.last (descs_stored k m)) (descs_stored k m)

  -- the memory after i of a pop's steps behind its loads
  unfoldable steps_stored : ℕ → ℕ → Memory → Memory
  steps_stored k zero m = m
  steps_stored k (suc i) m = accessed p (pop_access p k i) (steps_stored k i m)

  -- the first k are descriptors
  descs_first : (k i : ℕ) (m : Memory) → i ≤ k → steps_stored k i m ≡ descs_stored i m
  unfolding steps_stored descs_stored
  descs_first k zero m l = refl
  descs_first k (suc i) m l =
      rw (lt-ltb i k (omega arith)) (ap (store_desc_at (spot p.modes.legacy p.n (desc (hop (next_of p) i p.counts.free))) (desc_of p (hop (next_of p) i p.counts.free))) (descs_first k i m (omega arith)))

  event_last : (k : ℕ) (m : Memory) → steps_stored k (suc k) m ≡ store_at (spot p.modes.legacy p.n used_event) p.counts.last (descs_stored k m)
  unfolding steps_stored
  event_last k m =
      rw (le-ltb k k (omega arith)) (ap (store_at (spot p.modes.legacy p.n used_event) p.counts.last) (descs_first k k m (omega arith)))

  all_stored : (k : ℕ) (m : Memory) → steps_stored k (store_steps p k) m ≡ pop_stored k m
  all_stored k m = go p.modes.event_idx
    where
      go : (b : Bool) → steps_stored k (k + one_if b) m ≡ cond b (store_at (spot p.modes.legacy p.n used_event) p.counts.last (descs_stored k m)) (descs_stored k m)
      go true =
          let e : k + 1 ≡ suc k = omega arith in
          ap (λ j. steps_stored k j m) e ∙ event_last k m
      go false =
          let e : k + 0 ≡ k = omega arith in
          ap (λ j. steps_stored k j m) e ∙ descs_first k k m (omega arith)

module _ (p : Queue) (k v : ℕ) (m : Memory) where
  -- a pop at its store i, with s steps made; and at its end
  abbrev storing : ℕ → ℕ → Outcome
  storing i s =
      record { answer = 0; value = 0; steps = s; queue = with_call p (PopStore k i v); memory = steps_stored p k i m }

  abbrev finished : ℕ → Outcome
  finished s =
      record { answer = 0; value = v; steps = s; queue = with_call p Idle; memory = steps_stored p k (store_steps p k) m }

  store_on : (i s : ℕ) → i + 1 < store_steps p k → onward (storing i s) ≡ storing (suc i) (s + 1)
  unfolding move steps_stored
  store_on i s l =
      let e : i + 1 ≡ suc i = omega arith in
      rw (lt-ltb (i + 1) (store_steps p k) l)
      (ap (λ j. record { answer = 0; value = 0; steps = s + 1; queue = with_call p (PopStore k j v); memory = steps_stored p k (suc i) m }) e)

  store_last : (i s : ℕ) → i + 1 ≡ store_steps p k → onward (storing i s) ≡ finished (s + 1)
  unfolding move steps_stored
  store_last i s e =
      let f : suc i ≡ store_steps p k = omega arith in
      rw (le-ltb (i + 1) (store_steps p k) (omega arith))
      (ap (λ j. record { answer = 0; value = v; steps = s + 1; queue = with_call p Idle; memory = steps_stored p k j m }) f)

  -- so it makes its stores from there on and closes
  stores_run : (b d i s : ℕ) → i + suc d ≡ store_steps p k → d < b → moves b (storing i s) ≡ finished (s + suc d)
  stores_run zero d i s e l = absurd (omega arith)
  stores_run (suc b) zero i s e l =
      moves_open b (storing i s) refl ∙ ap (moves b) (store_last i s e) ∙ moves_closed b (finished (s + 1)) refl
  stores_run (suc b) (suc d) i s e l =
      let f : s + 1 + suc d ≡ s + suc (suc d) = omega arith in
      moves_open b (storing i s) refl
      ∙ ap (moves b) (store_on i s (omega arith))
      ∙ stores_run b d (suc i) (s + 1) (omega arith) (omega arith)
      ∙ ap finished f

-- ---- the loads

module _ (q : Queue) (m : Memory) where
  -- no call is open where none of a call's refusals applies
  is_idle : call_refusal q m ≡ 0 → Idle ≡ q.call
  is_idle e = sym (none_open q.call (call_allowed q (fits q m) e).idle)

  pub not_adding : call_refusal q m ≡ 0 → is_add q.call ≡ false
  not_adding e = ap is_add (sym (is_idle e))

  -- what is there to load: used idx, and the id and the length of the element at last_used_idx
  abbrev pub used_idx_of : ℕ
  used_idx_of = load_at (spot q.modes.legacy q.n used_idx) m

  abbrev pub used_id_of : ℕ
  used_id_of = load_at (spot q.modes.legacy q.n (used_id (q.counts.last % q.n))) m

  abbrev pub used_len_of : ℕ
  used_len_of = load_at (spot q.modes.legacy q.n (used_len (q.counts.last % q.n))) m

  -- an end that alters nothing; and the same with the call just closed
  abbrev pub unaltered : ℕ → ℕ → ℕ → Outcome
  unaltered a v s = record { answer = a; value = v; steps = s; queue = q; memory = m }

  abbrev closed : ℕ → ℕ → ℕ → Outcome
  closed a v s = record { answer = a; value = v; steps = s; queue = with_call q Idle; memory = m }

  closed_is : call_refusal q m ≡ 0 → (a v s : ℕ) → closed a v s ≡ unaltered a v s
  closed_is e a v s = ap (λ c. record { answer = a; value = v; steps = s; queue = with_call q c; memory = m }) (is_idle e)

  -- a pop or peek that has made s loads
  abbrev loading : Open → ℕ → Outcome
  loading c s = record { answer = 0; value = 0; steps = s; queue = with_call q c; memory = m }

  module _ (t : ℕ) (b : Bool) where
    idx_same : used_idx_of ≡ q.counts.last → onward (loading (PopIdx t b) 0) ≡ closed NotReady 0 1
    unfolding move
    idx_same e = rw (eq-eqb used_idx_of q.counts.last e)

    idx_other : (used_idx_of ≡ q.counts.last → ⊥) → onward (loading (PopIdx t b) 0) ≡ loading (PopId t b) 1
    unfolding move
    idx_other d = rw (ne_eqb used_idx_of q.counts.last d)

    id_load : onward (loading (PopId t b) 1) ≡ loading (PopLen t b used_id_of) 2
    unfolding move
    id_load = refl

    -- the first two loads
    to_third : (c : ℕ) → (used_idx_of ≡ q.counts.last → ⊥) → moves (suc (suc c)) (loading (PopIdx t b) 0) ≡ moves c (loading (PopLen t b used_id_of) 2)
    to_third c d =
        moves_open (suc c) (loading (PopIdx t b) 0) refl
        ∙ ap (moves (suc c)) (idx_other d)
        ∙ moves_open c (loading (PopId t b) 1) refl
        ∙ ap (moves c) id_load

    third_refused : (verdict q t b used_id_of ≡ 0 → ⊥) → onward (loading (PopLen t b used_id_of) 2) ≡ closed (verdict q t b used_id_of) 0 3
    unfolding move
    third_refused d = rw (ne_eqb (verdict q t b used_id_of) 0 d)

    third_done : verdict q t b used_id_of ≡ 0 → store_steps q (stored_count q t) ≡ 0
        → onward (loading (PopLen t b used_id_of) 2) ≡ record { answer = 0; value = used_len_of; steps = 3; queue = with_call (freed q t) Idle; memory = m }
    unfolding move
    third_done e z = rw (eq-eqb (verdict q t b used_id_of) 0 e, eq-eqb (store_steps q (stored_count q t)) 0 z)

    third_stores : verdict q t b used_id_of ≡ 0 → (store_steps q (stored_count q t) ≡ 0 → ⊥)
        → onward (loading (PopLen t b used_id_of) 2) ≡ record { answer = 0; value = 0; steps = 3; queue = with_call (freed q t) (PopStore (stored_count q t) 0 used_len_of); memory = m }
    unfolding move
    third_stores e z = rw (eq-eqb (verdict q t b used_id_of) 0 e, ne_eqb (store_steps q (stored_count q t)) 0 z)

  -- and a peek's
  peek_same : used_idx_of ≡ q.counts.last → onward (loading PeekIdx 0) ≡ closed NotReady 0 1
  unfolding move
  peek_same e = rw (eq-eqb used_idx_of q.counts.last e)

  peek_other : (used_idx_of ≡ q.counts.last → ⊥) → onward (loading PeekIdx 0) ≡ loading PeekId 1
  unfolding move
  peek_other d = rw (ne_eqb used_idx_of q.counts.last d)

  peek_load : onward (loading PeekId 1) ≡ closed 0 (token_of used_id_of) 2
  unfolding move
  peek_load = refl

-- ---- pop

module _ (q : Queue) (m : Memory) (t : ℕ) (bs : List Buffer) where
  -- its verdict on the element; and what it leaves where none of the checks fails
  abbrev pub pop_verdict : ℕ
  pop_verdict = verdict q t (matches q t bs) (used_id_of q m)

  abbrev pub pop_freed : ℕ → Memory → Outcome
  pop_freed s x =
      record { answer = 0; value = used_len_of q m; steps = s; queue = with_call (freed q t) Idle; memory = x }

  abbrev pub pop_done : Outcome
  pop_done = pop_freed (3 + store_steps q (stored_count q t)) (pop_stored (freed q t) (stored_count q t) m)

  abbrev pub pop_end : Outcome
  pop_end =
      cond (eqb (used_idx_of q m) q.counts.last) (unaltered q m NotReady 0 1)
      (cond (eqb pop_verdict 0) pop_done (unaltered q m pop_verdict 0 3))

  abbrev begun : Outcome
  begun = loading q m (PopIdx t (matches q t bs)) 0

  module _ (e : call_refusal q m ≡ 0) where
    pub pop_not_ready : used_idx_of q m ≡ q.counts.last → pop_used q m t bs ≡ unaltered q m NotReady 0 1
    pop_not_ready i =
        let s : q.n + 4 ≡ suc (q.n + 3) = omega arith in
        pop_is q m t bs e
        ∙ ap (λ k. moves k begun) s
        ∙ moves_open (q.n + 3) begun refl
        ∙ ap (moves (q.n + 3)) (idx_same q m t (matches q t bs) i)
        ∙ moves_closed (q.n + 3) (closed q m NotReady 0 1) refl
        ∙ closed_is q m e NotReady 0 1

    -- up to the third load, and the rest from there
    thirds : (used_idx_of q m ≡ q.counts.last → ⊥) → pop_used q m t bs ≡ moves (q.n + 1) (onward (loading q m (PopLen t (matches q t bs) (used_id_of q m)) 2))
    thirds d =
        let s : q.n + 4 ≡ suc (suc (suc (q.n + 1))) = omega arith in
        pop_is q m t bs e
        ∙ ap (λ k. moves k begun) s
        ∙ to_third q m t (matches q t bs) (suc (q.n + 1)) d
        ∙ moves_open (q.n + 1) (loading q m (PopLen t (matches q t bs) (used_id_of q m)) 2) refl

    pub pop_fails : (used_idx_of q m ≡ q.counts.last → ⊥) → (pop_verdict ≡ 0 → ⊥) → pop_used q m t bs ≡ unaltered q m pop_verdict 0 3
    pop_fails d f =
        thirds d
        ∙ ap (moves (q.n + 1)) (third_refused q m t (matches q t bs) f)
        ∙ moves_closed (q.n + 1) (closed q m pop_verdict 0 3) refl
        ∙ closed_is q m e pop_verdict 0 3

    pub pop_passes : Good q → (used_idx_of q m ≡ q.counts.last → ⊥) → pop_verdict ≡ 0 → pop_used q m t bs ≡ pop_done
    unfolding steps_stored
    pop_passes g d f =
        let p : Queue = freed q t in
        let k : ℕ = stored_count q t in
        let y : stores_due q t ≡ store_steps q k = ap (λ z. cond z (store_steps q k) 0) (passed q t (matches q t bs) (used_id_of q m) f).1 in
        let b : stores_due q t ≤ q.n + 1 = due_most q g.well t in
        let a : steps_stored p k (store_steps p k) m ≡ pop_stored p k m = all_stored p k m in
        thirds d
        ∙ by_test (eqb (store_steps q k) 0)
        (λ z. let n : store_steps q k ≡ 0 = eqb-true (store_steps q k) 0 z in
        let s : 3 + store_steps q k ≡ 3 = omega arith in
        ap (moves (q.n + 1)) (third_done q m t (matches q t bs) f n)
        ∙ moves_closed (q.n + 1) (pop_freed 3 m) refl
        ∙ ap₂ pop_freed (sym s) (ap (λ j. steps_stored p k j m) (sym n) ∙ a))
        (λ z. let n : (store_steps q k ≡ 0 → ⊥) = eqb-false (store_steps q k) 0 z in
        let s : 3 + suc (store_steps q k - 1) ≡ 3 + store_steps q k = omega arith in
        ap (moves (q.n + 1)) (third_stores q m t (matches q t bs) f n)
        ∙ stores_run p k (used_len_of q m) m (q.n + 1) (store_steps q k - 1) 0 3 (omega arith) (omega arith)
        ∙ ap₂ pop_freed s a)

    -- THE LAW of pop
    pub pop_closed : Good q → pop_used q m t bs ≡ pop_end
    pop_closed g =
        by_test (eqb (used_idx_of q m) q.counts.last)
        (λ i. rw i (pop_not_ready (eqb-true (used_idx_of q m) q.counts.last i)))
        (λ i. by_test (eqb pop_verdict 0)
        (λ f. rw (i, f) (pop_passes g (eqb-false (used_idx_of q m) q.counts.last i) (eqb-true pop_verdict 0 f)))
        (λ f. rw (i, f) (pop_fails (eqb-false (used_idx_of q m) q.counts.last i) (eqb-false pop_verdict 0 f))))

-- ---- peek

module _ (q : Queue) (m : Memory) where
  abbrev pub peek_end : Outcome
  peek_end =
      cond (eqb (used_idx_of q m) q.counts.last) (unaltered q m NotReady 0 1) (unaltered q m 0 (token_of (used_id_of q m)) 2)

  module _ (e : call_refusal q m ≡ 0) where
    pub peek_not_ready : used_idx_of q m ≡ q.counts.last → peek_used q m ≡ unaltered q m NotReady 0 1
    peek_not_ready i =
        let s : q.n + 4 ≡ suc (q.n + 3) = omega arith in
        peek_is q m e
        ∙ ap (λ k. moves k (loading q m PeekIdx 0)) s
        ∙ moves_open (q.n + 3) (loading q m PeekIdx 0) refl
        ∙ ap (moves (q.n + 3)) (peek_same q m i)
        ∙ moves_closed (q.n + 3) (closed q m NotReady 0 1) refl
        ∙ closed_is q m e NotReady 0 1

    pub peek_answers : (used_idx_of q m ≡ q.counts.last → ⊥) → peek_used q m ≡ unaltered q m 0 (token_of (used_id_of q m)) 2
    peek_answers d =
        let s : q.n + 4 ≡ suc (suc (q.n + 2)) = omega arith in
        peek_is q m e
        ∙ ap (λ k. moves k (loading q m PeekIdx 0)) s
        ∙ moves_open (suc (q.n + 2)) (loading q m PeekIdx 0) refl
        ∙ ap (moves (suc (q.n + 2))) (peek_other q m d)
        ∙ moves_open (q.n + 2) (loading q m PeekId 1) refl
        ∙ ap (moves (q.n + 2)) (peek_load q m)
        ∙ moves_closed (q.n + 2) (closed q m 0 (token_of (used_id_of q m)) 2) refl
        ∙ closed_is q m e 0 (token_of (used_id_of q m)) 2

    -- THE LAW of peek
    pub peek_closed : peek_used q m ≡ peek_end
    peek_closed =
        by_test (eqb (used_idx_of q m) q.counts.last)
        (λ i. rw i (peek_not_ready (eqb-true (used_idx_of q m) q.counts.last i)))
        (λ i. rw i (peek_answers (eqb-false (used_idx_of q m) q.counts.last i)))
