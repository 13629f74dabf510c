-- A list of more than 64 buffers, which no queue takes: of all that it holds, a call asks only whether its buffers are in order.
use Rattle.std.specs.Prelude.{◌≡◌, Bool, true, false, List, ℕ, ◌≤◌, ◌<◌, ltb, eqb, length}
use Rattle.std.proofs.Math.Path.{sym, ap}
use Rattle.std.proofs.Common.{◌∙◌, arith, ne_eqb, lt-ltb}
use Rattle.std.proofs.Math.Bool.{not}
use Rattle.lists.specs.Tests.{by_test, and_left, and_right}
use Rattle.virtio.specs.declared.Buffer.{Buffer}
use Rattle.virtio.specs.Memory.{Memory}
use Rattle.virtio.specs.Chain.{in_order}
use Rattle.rules.specs.Record.{Queue, size_of, buffers_of, outstanding, is_open, with_call}
use Rattle.rules.specs.declared.Open.TheVariants.{PopIdx}
use Rattle.rules.specs.WellFormed.{well_formed}
use Rattle.rules.specs.Meaning.{WellFormed, Out}
use Rattle.rules.specs.Answer.{Outcome, unless}
use Rattle.rules.specs.Calls.{fits, bad_list, full, opened, open_add, open_pop, add_refusal, call_refusal, matches, same_list}
use Rattle.laws.specs.WellFormedIs.{well_formed_means, out_means}
use Rattle.laws.specs.StepKeeps.{power_most}
use Rattle.laws.specs.FreeLaws.{size_most}
use Rattle.laws.specs.Added.{size_length}
use Rattle.laws.specs.OwnIs.{list_means}

-- an add asks if its list is in order, as `ordered` tells, or is refused before its own tests
abbrev pub AskedOrRefused : Bool → Queue → Memory → Type 0
AskedOrRefused ordered q m = ordered ≡ false → call_refusal q m ≡ 0 → ⊥

-- where a good record has no room, what comes after that test does not matter
refused_alike
    : (q : Queue) (m : Memory) (bs cs : List Buffer) (o o' : Outcome)
    → bad_list bs ≡ bad_list cs
    → (well_formed q ≡ true → full q (length bs) ≡ true)
    → (well_formed q ≡ true → full q (length cs) ≡ true)
    → unless (add_refusal q m bs) q m o ≡ unless (add_refusal q m cs) q m o'
refused_alike q m bs cs o o' e f g =
    by_test (well_formed q)
    (λ w. by_test (fits q m)
    (λ i. by_test (is_open q.call)
    (λ b. rw (w, i, b))
    (λ b. by_test (bad_list cs) (λ l. rw (w, i, b, e, l)) (λ l. rw (w, i, b, e, l, f w, g w))))
    (λ i. rw (w, i)))
    (λ w. rw w)

module _ (q : Queue) where
  small : well_formed q ≡ true → q.n ≤ 64
  small w = let s = (well_formed_means q w).size in power_most q.n s.0 s.1 s.2

  -- an outstanding chain has at most 64 buffers
  buffers_most : well_formed q ≡ true → (t : ℕ) → Out q t → length (buffers_of q t) ≤ 64
  buffers_most e t o =
      let w : WellFormed q = well_formed_means q e in
      let n : q.n ≤ 64 = small e in
      let k : size_of q t ≤ q.n = size_most q w t o in
      let l : length (buffers_of q t) ≡ size_of q t = size_length q t in
      omega arith

  module _ (bs : List Buffer) (long : 64 < length bs) where
    full_long : well_formed q ≡ true → full q (length bs) ≡ true
    full_long w =
        let n : q.n ≤ 64 = small w in
        let k : ltb q.n (length bs) ≡ true = lt-ltb q.n (length bs) (omega arith) in
        by_test (eqb q.counts.used q.n) (λ e. rw e) (λ e. rw (e, k))

    bad_long : bad_list bs ≡ not (in_order bs)
    bad_long = rw (ne_eqb (length bs) 0 (omega arith))

    matches_long : well_formed q ≡ true → (t : ℕ) → matches q t bs ≡ false
    matches_long w t = by_test (matches q t bs) (λ e. absurd (unlike e)) (λ e. e)
      where
        unlike : matches q t bs ≡ true → ⊥
        unlike e =
            let o : Out q t = out_means q t (and_left (outstanding q t) (same_list (buffers_of q t) bs) e) in
            let s : buffers_of q t ≡ bs = list_means (buffers_of q t) bs (and_right (outstanding q t) (same_list (buffers_of q t) bs) e) in
            let l : length (buffers_of q t) ≡ length bs = ap length s in
            let k : length (buffers_of q t) ≤ 64 = buffers_most w t o in
            omega arith

-- THE LAW: two such lists are answered alike, by an add where both are in order or neither is
module _ (q : Queue) (m : Memory) (bs cs : List Buffer) (long : 64 < length bs) (long' : 64 < length cs) where
  pub open_add_long : in_order bs ≡ in_order cs → open_add q m bs ≡ open_add q m cs
  unfolding open_add
  open_add_long o =
      refused_alike q m bs cs _ _ (bad_long q bs long ∙ (ap not o ∙ sym (bad_long q cs long'))) (full_long q bs long) (full_long q cs long')

  pub open_pop_long : (t : ℕ) → open_pop q m t bs ≡ open_pop q m t cs
  unfolding open_pop
  open_pop_long t =
      by_test (well_formed q)
      (λ w. ap (λ b. unless (call_refusal q m) q m (opened (with_call q (PopIdx t b)) m)) (matches_long q bs long w t ∙ sym (matches_long q cs long' w t)))
      (λ w. rw w)
