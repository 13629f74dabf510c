-- A poll looks which token waits, and then pops it. Between the two the device may write: the token is then any number, and the memory any other.
-- What comes of it is what a poll over that memory comes to, or the pop's refusal with the record as it was; and so a good record stays good.
use Rattle.std.specs.Prelude.{None, ◌≡◌, ◌⊎◌, cond, List, ℕ, ◌*◌, ◌≤◌, ◌<◌, ltb, length}
use Rattle.std.proofs.Common.{sym, ap, subst, ◌∙◌, inl, inr, arith, lt-ltb, ne_eqb, ltb-true}
use Rattle.lists.specs.Tests.{by_test, by_eq}
use Rattle.virtio.specs.Memory.{Memory}
use Rattle.rules.specs.Record.{Queue}
use Rattle.rules.specs.Answer.{NotReady, WrongToken}
use Rattle.rules.specs.Calls.{fits, call_refusal, matches, pop_used}
use Rattle.rules.specs.Owning.{Owning, Owned, own_list, own_refused, poll_refusal, poll_popped, poll_token, poll}
use Rattle.laws.specs.Allowed.{call_allowed}
use Rattle.laws.specs.StepsLeft.{passed}
use Rattle.laws.specs.Whole.{pop_refused}
use Rattle.laws.specs.Popped.{used_idx_of, used_id_of, pop_verdict, pop_not_ready, pop_fails}
use Rattle.laws.specs.OwnIs.{OwnGood}
use Rattle.laws.specs.OwnViews.{allowed_poll}
use Rattle.laws.specs.OwnPoll.{poll_named_lem}
use Rattle.laws.specs.OwnKeeps.{Keeps, as_was}
use Rattle.laws.proofs.OwnKeeps.{poll_keeps}

-- the answer r is a refusal's: a number that is not 0, value 0, no view, and record, memory and store as they were
pub record Declined (o : Owning) (m : Memory) (s : List ℕ) (r : Owned) : Type 0 where
  pub number : ℕ
  pub some : number ≡ 0 → ⊥
  pub is : r ≡ own_refused o number m s

module _ (o : Owning) (t : ℕ) (m : Memory) (s : List ℕ) where
  abbrev q : Queue
  q = o.queue

  -- a pop that is refused is answered as it is
  by_pop
      : (a k : ℕ)
      → t < o.queue.n
      → pop_used o.queue m t (own_list o t) ≡ record { answer = a; value = 0; steps = k; queue = o.queue; memory = m }
      → (a ≡ 0 → ⊥)
      → Declined o m s (poll_token o t m s)
  by_pop a k l e d = record {
    number = a;
    some = d;
    is =
        ap (λ c. cond c (poll_popped o (pop_used q m t (own_list o t)) t s) (own_refused o WrongToken m s)) (lt-ltb t q.n l)
        ∙ ap (λ x. poll_popped o x t s) e
        ∙ rw (ne_eqb a 0 d);
  }

  module _ (n : o.held ≡ None) (g : OwnGood o) (room : o.queue.n * o.size ≤ length s) where
    -- the pop is not refused: the waiting element names the token still
    as_poll : call_refusal o.queue m ≡ 0 → (used_idx_of o.queue m ≡ o.queue.counts.last → ⊥) → pop_verdict o.queue m t (own_list o t) ≡ 0 → poll_token o t m s ≡ poll o m s
    as_poll e d f =
        let r : poll_refusal o m s ≡ 0 = allowed_poll o m s (record { well = g.well; fit = (call_allowed q (fits q m) e).fits; room = room; none = n }) in
        ap (λ x. poll_token o x m s) (sym (passed q t (matches q t (own_list o t)) (used_id_of q m) f).0) ∙ sym (poll_named_lem o m s r d)

    -- THE LAW
    pub between_closed : (poll_token o t m s ≡ poll o m s) ⊎ Declined o m s (poll_token o t m s)
    between_closed =
        by_test (ltb t q.n)
        (λ l. let b : t < q.n = ltb-true t q.n l in
        by_eq (call_refusal q m) 0
        (λ e. by_eq (used_idx_of q m) q.counts.last
        (λ i. inr (by_pop NotReady 1 b (pop_not_ready q m t (own_list o t) e i) (omega arith)))
        (λ d. by_eq (pop_verdict q m t (own_list o t)) 0
        (λ f. inl (as_poll e d f))
        (λ f. inr (by_pop (pop_verdict q m t (own_list o t)) 3 b (pop_fails q m t (own_list o t) e d f) f))))
        (λ e. inr (by_pop (call_refusal q m) 0 b (pop_refused q m t (own_list o t) e) e)))
        (λ l. inr (record {
          number = WrongToken;
          some = omega arith;
          is = ap (λ c. cond c (poll_popped o (pop_used q m t (own_list o t)) t s) (own_refused o WrongToken m s)) l;
        }))

    either_keeps : (poll_token o t m s ≡ poll o m s) ⊎ Declined o m s (poll_token o t m s) → Keeps o s (poll_token o t m s)
    either_keeps (inl e) = subst (Keeps o s) (sym e) (poll_keeps o m s g)
    either_keeps (inr d) = as_was o m s g (poll_token o t m s) d.number d.is

    -- THE LAW: whatever was written in between, the record stays good, of the same size and over the same store, which stays
    pub between_keeps : Keeps o s (poll_token o t m s)
    between_keeps = either_keeps between_closed
