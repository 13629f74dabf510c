-- The owning queue's calls case by case, by what the code's parts answer.
use Rattle.std.specs.Prelude.{◌≡◌, None, Bool, List, [], ℕ, ◌*◌, ◌≤◌, ◌<◌, eqb, length}
use Rattle.std.proofs.Math.Path.{sym, ap}
use Rattle.std.proofs.Common.{◌∙◌, arith}
use borrow.Author.Tests.{eq-eqb, ne_eqb, lt-ltb, le-ltb, le-leb, lt-leb, eqb-true, eqb-false}
use Rattle.lists.specs.Tests.{by_test}
use Rattle.virtio.specs.Memory.{Memory}
use Rattle.rules.specs.Answer.{Outcome, WrongToken, OverLength, BadRecord}
use Rattle.rules.specs.Calls.{call_refusal, add, pop_used, peek_used, should_notify, set_dev_notify}
use Rattle.rules.specs.Owning.{Owning, holds, own_list, own_broken, own_well_formed, poll_refusal, release_refusal, plainly, own_refused, showing, poll_popped, poll_token, poll_ready, poll, released, release, passed, own_should_notify, own_set_dev_notify, own_view}
use Rattle.owns.specs.Refused.{own_well}
use Rattle.laws.specs.Popped.{used_idx_of, unaltered, peek_not_ready, peek_answers}

module _ (o : Owning) (m : Memory) (s : List ℕ) where
  -- ---- past a popped buffer

  module _ (p : Outcome) (t : ℕ) where
    pub pop_no : (p.answer ≡ 0 → ⊥) → passed o p s ≡ poll_popped o p t s
    pop_no d = sym (rw (ne_eqb p.answer 0 d))

    module _ (z : p.answer ≡ 0) where
      pub pop_shows : p.value ≤ o.size → showing o p t s ≡ poll_popped o p t s
      pop_shows l = sym (rw (eq-eqb p.answer 0 z, le-leb p.value o.size l))

      pub pop_again : (a : Outcome) → o.size < p.value → a ≡ add p.queue p.memory (own_list o t)
          → plainly o OverLength 0 a.queue None a.memory s ≡ poll_popped o p t s
      pop_again a l e =
          ap (λ (x : Outcome). plainly o OverLength 0 x.queue None x.memory s) e
          ∙ sym (rw (eq-eqb p.answer 0 z, lt-leb p.value o.size l))

  -- ---- a token

  module _ (t : ℕ) where
    pub token_past : o.queue.n ≤ t → own_refused o WrongToken m s ≡ poll_token o t m s
    token_past l = sym (rw (le-ltb t o.queue.n l))

    pub token_below : (p : Outcome) → t < o.queue.n → p ≡ pop_used o.queue m t (own_list o t) → poll_popped o p t s ≡ poll_token o t m s
    token_below p l e = ap (λ x. poll_popped o x t s) e ∙ sym (rw (lt-ltb t o.queue.n l))

  -- ---- what peek told

  module _ (r : call_refusal o.queue m ≡ 0) (p : Outcome) (e : p ≡ peek_used o.queue m) where
    abbrev waits : Bool
    waits = eqb (used_idx_of o.queue m) o.queue.counts.last

    pub peek_none : (p.answer ≡ 0 → ⊥) → own_refused o 0 p.memory s ≡ poll_ready o m s
    peek_none z =
        by_test waits
        (λ w. let x : p ≡ unaltered o.queue m 3 0 1 = e ∙ peek_not_ready o.queue m r (eqb-true (used_idx_of o.queue m) o.queue.counts.last w) in
        ap (λ (y : Outcome). own_refused o 0 y.memory s) x ∙ sym (rw w))
        (λ w. absurd (z (ap (λ (y : Outcome). y.answer) (e ∙ peek_answers o.queue m r (eqb-false (used_idx_of o.queue m) o.queue.counts.last w)))))

    pub peek_some : p.answer ≡ 0 → poll_token o p.value p.memory s ≡ poll_ready o m s
    peek_some z =
        by_test waits
        (λ w. absurd (let x : p.answer ≡ 3 = ap (λ (y : Outcome). y.answer) (e ∙ peek_not_ready o.queue m r (eqb-true (used_idx_of o.queue m) o.queue.counts.last w)) in omega arith))
        (λ w. ap (λ (y : Outcome). poll_token o y.value y.memory s) (e ∙ peek_answers o.queue m r (eqb-false (used_idx_of o.queue m) o.queue.counts.last w)) ∙ sym (rw w))

  -- ---- poll and release by their refusal

  pub poll_no : (x : ℕ) → x ≡ poll_refusal o m s → (x ≡ 0 → ⊥) → own_refused o x m s ≡ poll o m s
  unfolding poll
  poll_no x e z = ap (λ y. own_refused o y m s) e ∙ sym (rw (ne_eqb (poll_refusal o m s) 0 (λ n. z (e ∙ n))))

  pub poll_yes : poll_refusal o m s ≡ 0 → poll_ready o m s ≡ poll o m s
  unfolding poll
  poll_yes e = sym (rw (eq-eqb (poll_refusal o m s) 0 e))

  pub release_no : (x : ℕ) → x ≡ release_refusal o m s → (x ≡ 0 → ⊥) → own_refused o x m s ≡ release o m s
  unfolding release
  release_no x e z = ap (λ y. own_refused o y m s) e ∙ sym (rw (ne_eqb (release_refusal o m s) 0 (λ n. z (e ∙ n))))

  pub release_yes : release_refusal o m s ≡ 0 → released o o.held m s ≡ release o m s
  unfolding release
  release_yes e = sym (rw (eq-eqb (release_refusal o m s) 0 e))

  -- and what it shows that there is none
  -- the held buffer is added again
  pub gives_back : (t l : ℕ) (a : Outcome) → a ≡ add o.queue m (own_list o t)
      → plainly o a.answer a.value a.queue None a.memory s ≡ released o (holds t l) m s
  gives_back t l a e = ap (λ (x : Outcome). plainly o x.answer x.value x.queue None x.memory s) e

  -- ---- what passes through

  pub notify_no : (own_broken o ≡ 0 → ⊥) → own_refused o BadRecord m s ≡ own_should_notify o m s
  unfolding own_should_notify own_well_formed
  notify_no z = sym (rw (ne_eqb (own_broken o) 0 z))

  pub notify_yes : (p : Outcome) → own_broken o ≡ 0 → p ≡ should_notify o.queue m → passed o p s ≡ own_should_notify o m s
  unfolding own_should_notify own_well_formed
  notify_yes p z e = ap (λ x. passed o x s) e ∙ sym (rw (eq-eqb (own_broken o) 0 z))

  pub set_no : (b : Bool) → (own_broken o ≡ 0 → ⊥) → own_refused o BadRecord m s ≡ own_set_dev_notify o m s b
  unfolding own_set_dev_notify own_well_formed
  set_no b z = sym (rw (ne_eqb (own_broken o) 0 z))

  pub set_yes : (b : Bool) (p : Outcome) → own_broken o ≡ 0 → p ≡ set_dev_notify o.queue m b → passed o p s ≡ own_set_dev_notify o m s b
  unfolding own_set_dev_notify own_well_formed
  set_yes b p z e = ap (λ x. passed o x s) e ∙ sym (rw (eq-eqb (own_broken o) 0 z))

-- ---- the view

module _ (o : Owning) (s : List ℕ) where
  pub view_broken : (own_broken o ≡ 0 → ⊥) → [] ≡ own_view o s
  unfolding own_view own_well_formed
  view_broken z = sym (rw (ne_eqb (own_broken o) 0 z))

  pub view_short : own_broken o ≡ 0 → length s < o.queue.n * o.size → [] ≡ own_view o s
  unfolding own_view
  view_short z l = sym (rw (own_well o z, lt-leb (o.queue.n * o.size) (length s) l))
