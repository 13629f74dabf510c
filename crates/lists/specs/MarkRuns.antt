-- A run of marks that lies in one word: the word's `or` with a mask of ones marks it, and its `and` with the mask tells whether one was marked before.
use Rattle.std.specs.Prelude.{◌≡◌, refl, ◌⊎◌, Bool, true, not, List, ℕ, zero, suc, ◌+◌, ◌*◌, ◌/◌, ◌%◌, ◌^◌, ◌≤◌, ◌<◌, min, eqb, ltb, length}
use Rattle.std.proofs.Common.{sym, ◌∙◌, inl, inr, true≢false, ne_eqb, ltb-true, ltb-false, length-set, ext_get_or}
use Rattle.std.proofs.Math.Path.{ap}
use Rattle.std.proofs.Math.Bool.{false}
use Rattle.std.proofs.lemmas.Bool.{false≢true, eqb-false}
use Rattle.std.proofs.Math.Nat.{zero-div}
use native.Mathlib.Omega.{arith}
use Rattle.std.specs.Int.Bits.{bit_and, bit_or}
use Rattle.std.proofs.Math.ListN.{get_or, set}
use Rattle.std.proofs.lemmas.List.{set-get_or}
use Rattle.lists.specs.Tests.{by_eq, by_test}
use Rattle.lists.specs.Digits.{digit, digit_and, digits_none, ones, ones_before, ones_inside, ones_behind}
use Rattle.lists.specs.Marks.{marked, marks_of, marks_length, mark_is, with_run, set_read, others_stay, mark_all, all_length, all_outside, all_inside}
use Rattle.lists.specs.Visited.{Met, MarkedRun}

-- a mark of a run is set, or none is
pub met_or_clear : (seen : List Bool) (d c : ℕ) → Met seen d c ⊎ ((i : ℕ) → d ≤ i → i < d + c → get_or seen i false ≡ false)
met_or_clear seen d zero = inr (λ i l u. absurd (omega arith))
met_or_clear seen d (suc c) = go (met_or_clear seen (suc d) c)
  where
    go : Met seen (suc d) c ⊎ ((i : ℕ) → suc d ≤ i → i < suc d + c → get_or seen i false ≡ false) → Met seen d (suc c) ⊎ ((i : ℕ) → d ≤ i → i < d + suc c → get_or seen i false ≡ false)
    go (inl m) = inl (let f : suc d ≤ m.at = m.from in let b : m.at < suc d + c = m.below in record { at = m.at; from = omega arith; below = omega arith; is = m.is })
    go (inr h) =
        by_test (get_or seen d false)
        (λ e. inl (record { at = d; from = omega arith; below = omega arith; is = e }))
        (λ e. inr (λ i l u. by_eq i d (λ z. ap (λ j. get_or seen j false) z ∙ e) (λ z. h i (omega arith) (omega arith))))

module _ (ws : List ℕ) (a o c : ℕ) (room : a < length ws) (fits : o + c ≤ 64) where
  -- the words say the marks with the run marked
  pub run_marked : marks_of (with_run ws a o c) ≡ mark_all (marks_of ws) (64 * a + o) c
  run_marked =
      let n : length (marks_of ws) ≡ 64 * length ws = marks_length ws in
      let k : length (with_run ws a o c) ≡ length ws = length-set ws a (bit_or (get_or ws a 0) (ones c o)) in
      let n' : length (marks_of (with_run ws a o c)) ≡ 64 * length (with_run ws a o c) = marks_length (with_run ws a o c) in
      let m : length (mark_all (marks_of ws) (64 * a + o) c) ≡ length (marks_of ws) = all_length (marks_of ws) (64 * a + o) c in
      ext_get_or false (marks_of (with_run ws a o c)) (mark_all (marks_of ws) (64 * a + o) c) (omega arith)
      (λ j u. mark_is (with_run ws a o c) j (omega arith) false ∙ each j (omega arith))
    where
      each : (j : ℕ) → j < 64 * length ws → marked (with_run ws a o c) j ≡ get_or (mark_all (marks_of ws) (64 * a + o) c) j false
      each j u =
          let n : length (marks_of ws) ≡ 64 * length ws = marks_length ws in
          by_test (ltb j (64 * a + o))
          (λ e. let l : j < 64 * a + o = ltb-true j (64 * a + o) e in
          others_stay ws a o c room fits j (inl l) ∙ sym (all_outside (marks_of ws) (64 * a + o) c j false (inl l) ∙ mark_is ws j u false))
          (λ e. let l : 64 * a + o ≤ j = ltb-false j (64 * a + o) e in
          by_test (ltb j (64 * a + o + c))
          (λ f. let v : j < 64 * a + o + c = ltb-true j (64 * a + o + c) f in
          set_read ws a o c room fits j l v ∙ sym (all_inside (marks_of ws) (64 * a + o) c j false l v (omega arith)))
          (λ f. let v : 64 * a + o + c ≤ j = ltb-false j (64 * a + o + c) f in
          others_stay ws a o c room fits j (inr v) ∙ sym (all_outside (marks_of ws) (64 * a + o) c j false (inr v) ∙ mark_is ws j u false)))

  -- the `and` is 0: none was marked
  pub run_clear : bit_and (get_or ws a 0) (ones c o) ≡ 0 → (i : ℕ) → 64 * a + o ≤ i → i < 64 * a + o + c → get_or (marks_of ws) i false ≡ false
  run_clear z i l u =
      let p : i / 64 ≡ a = omega arith in
      let b : digit (ones c o) (i % 64) ≡ 1 = ones_inside c o (i % 64) (omega arith) (omega arith) in
      let m : digit (bit_and (get_or ws a 0) (ones c o)) (i % 64) ≡ min (digit (get_or ws a 0) (i % 64)) (digit (ones c o) (i % 64)) = digit_and (get_or ws a 0) (ones c o) (i % 64) in
      let n : digit (bit_and (get_or ws a 0) (ones c o)) (i % 64) ≡ digit 0 (i % 64) = ap (λ x. digit x (i % 64)) z in
      let y : digit 0 (i % 64) ≡ 0 = ap (λ x. x % 2) (zero-div (2 ^ (i % 64))) in
      mark_is ws i (omega arith) false ∙ ap (λ x. eqb (digit (get_or ws x 0) (i % 64)) 1) p ∙ ne_eqb (digit (get_or ws a 0) (i % 64)) 1 (omega arith)

  -- it is not: one was
  pub run_met : (bit_and (get_or ws a 0) (ones c o) ≡ 0 → ⊥) → Met (marks_of ws) (64 * a + o) c
  run_met z = go (met_or_clear (marks_of ws) (64 * a + o) c)
    where
      none : ((i : ℕ) → 64 * a + o ≤ i → i < 64 * a + o + c → get_or (marks_of ws) i false ≡ false) → (k : ℕ) → digit (bit_and (get_or ws a 0) (ones c o)) k ≡ 0
      none h k =
          let m : digit (bit_and (get_or ws a 0) (ones c o)) k ≡ min (digit (get_or ws a 0) k) (digit (ones c o) k) = digit_and (get_or ws a 0) (ones c o) k in
          by_test (ltb k o)
          (λ e. let b : digit (ones c o) k ≡ 0 = ones_before c o k (ltb-true k o e) in omega arith)
          (λ e. let l : o ≤ k = ltb-false k o e in
          by_test (ltb k (o + c))
          (λ f. let u : k < o + c = ltb-true k (o + c) f in
          let q : (64 * a + k) / 64 ≡ a = omega arith in
          let r : (64 * a + k) % 64 ≡ k = omega arith in
          let s : eqb (digit (get_or ws ((64 * a + k) / 64) 0) ((64 * a + k) % 64)) 1 ≡ false = sym (mark_is ws (64 * a + k) (omega arith) false) ∙ h (64 * a + k) (omega arith) (omega arith) in
          let t : eqb (digit (get_or ws a 0) k) 1 ≡ false = rw (q, r) at s in
          let v : digit (get_or ws a 0) k ≡ 1 → ⊥ = eqb-false (digit (get_or ws a 0) k) 1 t in
          omega arith)
          (λ f. let b : digit (ones c o) k ≡ 0 = ones_behind c o k (ltb-false k (o + c) f) in omega arith))

      go : Met (marks_of ws) (64 * a + o) c ⊎ ((i : ℕ) → 64 * a + o ≤ i → i < 64 * a + o + c → get_or (marks_of ws) i false ≡ false) → Met (marks_of ws) (64 * a + o) c
      go (inl m) = m
      go (inr h) = absurd (z (digits_none (bit_and (get_or ws a 0) (ones c o)) (none h)))

  -- THE TWO ANSWERS, for the run from d on
  module _ (d : ℕ) (at : d ≡ 64 * a + o) where
    pub run_new : bit_and (get_or ws a 0) (ones c o) ≡ 0 → MarkedRun (marks_of ws) (marks_of (with_run ws a o c)) d c true
    run_new z = rw at (record { new = λ e. run_clear z; then = λ e. run_marked; met = λ e. absurd (true≢false e); stays = λ e. absurd (true≢false e) })

    pub run_again : (bit_and (get_or ws a 0) (ones c o) ≡ 0 → ⊥) → MarkedRun (marks_of ws) (marks_of ws) d c false
    run_again z = rw at (record { new = λ e. absurd (false≢true e); then = λ e. absurd (false≢true e); met = λ e. run_met z; stays = λ e. refl })

-- one mark, as a run of one
module _ (ws : List ℕ) (i : ℕ) (room : i < 64 * length ws) where
  abbrev there : ℕ
  there = 64 * (i / 64) + i % 64

  pub one_new : bit_and (get_or ws (i / 64) 0) (ones 1 (i % 64)) ≡ 0
      → (true ≡ not (get_or (marks_of ws) i false)) × (marks_of (set ws (i / 64) (bit_or (get_or ws (i / 64) 0) (ones 1 (i % 64)))) ≡ set (marks_of ws) i true)
  unfolding mark_all
  one_new z =
      let e : there ≡ i = omega arith in
      let was : get_or (marks_of ws) i false ≡ false = run_clear ws (i / 64) (i % 64) 1 (omega arith) (omega arith) z i (omega arith) (omega arith) in
      (rw was, run_marked ws (i / 64) (i % 64) 1 (omega arith) (omega arith) ∙ ap (λ j. set (marks_of ws) j true) e)

  pub one_again : (bit_and (get_or ws (i / 64) 0) (ones 1 (i % 64)) ≡ 0 → ⊥) → (false ≡ not (get_or (marks_of ws) i false)) × (marks_of ws ≡ set (marks_of ws) i true)
  one_again z =
      let m : Met (marks_of ws) there 1 = run_met ws (i / 64) (i % 64) 1 (omega arith) (omega arith) z in
      let f : there ≤ m.at = m.from in
      let b : m.at < there + 1 = m.below in
      let e : m.at ≡ i = omega arith in
      let was : get_or (marks_of ws) i false ≡ true = ap (λ j. get_or (marks_of ws) j false) (sym e) ∙ m.is in
      (rw was, sym (ap (λ b. set (marks_of ws) i b) (sym was) ∙ set-get_or (marks_of ws) i false))
