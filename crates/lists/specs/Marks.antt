-- The marks that a list of 64-bit words says, however many words there are: mark i is digit i % 64 of word i / 64. THE TWO LAWS, for any run of digits of a
-- word, a single one among them: one that is set is read back, and all others stay. And a run of marks, marked.
use Rattle.std.specs.Prelude.{◌≡◌, refl, ◌⊎◌, Bool, true, false, List, map, ℕ, zero, suc, ◌+◌, ◌*◌, ◌/◌, ◌%◌, ◌^◌, ◌≤◌, ◌<◌, max, eqb, length, get_or, set, replicate}
use Rattle.std.proofs.Common.{sym, ap, ◌∙◌, inl, inr, arith, eq-eqb, length-set, ext_get_or, get_or-set_same, get_or-set_other}
use Rattle.std.proofs.Math.Nat.{zero-div}
use Rattle.std.specs.Borrow.{MutBor}
use Rattle.std.specs.Int.Bits.{bit_or}
use Rattle.std.proofs.lemmas.List.{length-map, length-replicate}
use Rattle.lists.specs.Pick.{rising}
use Rattle.lists.specs.PickLaws.{get_d_rising_lem, get_d_same_lem, length_rising}
use Rattle.lists.specs.Tests.{by_eq}
use Rattle.lists.specs.Digits.{digit, digit_or, ones, ones_before, ones_inside, ones_behind}

-- mark i
abbrev pub marked : List ℕ → ℕ → Bool
marked ws i = eqb (digit (get_or ws (i / 64) 0) (i % 64)) 1

-- THE MARKS of words, and of lent words as they stand
unfoldable pub marks_of : List ℕ → List Bool
marks_of ws = map (marked ws) (rising (64 * length ws) 0)

abbrev pub marks_in : MutBor (List ℕ) → List Bool
marks_in seen = marks_of seen.now

-- there is a mark for each of 0..n-1
abbrev pub Marks : ℕ → MutBor (List ℕ) → Type 0
Marks n seen = n ≤ 64 * length seen.now

-- none of the words has a mark
abbrev pub Clear : MutBor (List ℕ) → Type 0
Clear seen = (i : ℕ) → get_or seen.now i 0 ≡ 0

pub marks_length : (ws : List ℕ) → length (marks_of ws) ≡ 64 * length ws
unfolding marks_of
marks_length ws = length-map (rising (64 * length ws) 0) (marked ws) ∙ length_rising (64 * length ws) 0

pub mark_is : (ws : List ℕ) (i : ℕ) → i < 64 * length ws → (d : Bool) → get_or (marks_of ws) i d ≡ marked ws i
unfolding marks_of
mark_is ws i l d = get_d_rising_lem (marked ws) d (64 * length ws) 0 i l ∙ ap (marked ws) (omega arith)

-- words that are all 0 say no mark
no_mark : (ws : List ℕ) (i : ℕ) → get_or ws (i / 64) 0 ≡ 0 → marked ws i ≡ false
no_mark ws i e = ap (λ x. eqb (digit x (i % 64)) 1) e ∙ ap (λ x. eqb (x % 2) 1) (zero-div (2 ^ (i % 64)))

pub no_marks : (ws : List ℕ) → ((i : ℕ) → get_or ws i 0 ≡ 0) → marks_of ws ≡ replicate (64 * length ws) false
no_marks ws h =
    let n : length (marks_of ws) ≡ 64 * length ws = marks_length ws in
    let m : length (replicate {A = Bool} (64 * length ws) false) ≡ 64 * length ws = length-replicate {A = Bool} (64 * length ws) false in
    ext_get_or false (marks_of ws) (replicate (64 * length ws) false) (n ∙ sym m)
    (λ i u. mark_is ws i (omega arith) false ∙ no_mark ws i (h (i / 64)) ∙ sym (get_d_same_lem false (64 * length ws) i))

-- ---- the c digits from o on of word a, set: THE TWO LAWS

abbrev pub with_run : List ℕ → ℕ → ℕ → ℕ → List ℕ
with_run ws a o c = set ws a (bit_or (get_or ws a 0) (ones c o))

module _ (ws : List ℕ) (a o c : ℕ) (room : a < length ws) (fits : o + c ≤ 64) where
  -- a mark that was set is read back
  pub set_read : (j : ℕ) → 64 * a + o ≤ j → j < 64 * a + o + c → marked (with_run ws a o c) j ≡ true
  set_read j l u =
      let p : j / 64 ≡ a = omega arith in
      let w : get_or (with_run ws a o c) (j / 64) 0 ≡ bit_or (get_or ws a 0) (ones c o) = ap (λ x. get_or (with_run ws a o c) x 0) p ∙ get_or-set_same ws a (bit_or (get_or ws a 0) (ones c o)) 0 room in
      let b : digit (ones c o) (j % 64) ≡ 1 = ones_inside c o (j % 64) (omega arith) (omega arith) in
      let m : digit (bit_or (get_or ws a 0) (ones c o)) (j % 64) ≡ max (digit (get_or ws a 0) (j % 64)) (digit (ones c o) (j % 64)) = digit_or (get_or ws a 0) (ones c o) (j % 64) in
      ap (λ x. eqb (digit x (j % 64)) 1) w ∙ eq-eqb (digit (bit_or (get_or ws a 0) (ones c o)) (j % 64)) 1 (omega arith)

  -- all others stay
  pub others_stay : (j : ℕ) → (j < 64 * a + o) ⊎ (64 * a + o + c ≤ j) → marked (with_run ws a o c) j ≡ marked ws j
  others_stay j h =
      by_eq (j / 64) a
      (λ e. let w : get_or (with_run ws a o c) (j / 64) 0 ≡ bit_or (get_or ws a 0) (ones c o) = ap (λ x. get_or (with_run ws a o c) x 0) e ∙ get_or-set_same ws a (bit_or (get_or ws a 0) (ones c o)) 0 room in
      let b : digit (ones c o) (j % 64) ≡ 0 = none h e in
      let m : digit (bit_or (get_or ws a 0) (ones c o)) (j % 64) ≡ max (digit (get_or ws a 0) (j % 64)) (digit (ones c o) (j % 64)) = digit_or (get_or ws a 0) (ones c o) (j % 64) in
      let s : digit (bit_or (get_or ws a 0) (ones c o)) (j % 64) ≡ digit (get_or ws a 0) (j % 64) = omega arith in
      ap (λ x. eqb (digit x (j % 64)) 1) w ∙ ap (λ x. eqb x 1) s ∙ ap (λ x. eqb (digit (get_or ws x 0) (j % 64)) 1) (sym e))
      (λ e. ap (λ x. eqb (digit x (j % 64)) 1) (get_or-set_other ws a (j / 64) (bit_or (get_or ws a 0) (ones c o)) 0 e))
    where
      none : (j < 64 * a + o) ⊎ (64 * a + o + c ≤ j) → j / 64 ≡ a → digit (ones c o) (j % 64) ≡ 0
      none (inl l) e = ones_before c o (j % 64) (omega arith)
      none (inr l) e = ones_behind c o (j % 64) (omega arith)

-- ---- the marks of d, d + 1, .., d + c - 1, marked

unfoldable pub mark_all : List Bool → ℕ → ℕ → List Bool
mark_all seen d zero = seen
mark_all seen d (suc c) = mark_all (set seen d true) (suc d) c

pub all_length : (seen : List Bool) (d c : ℕ) → length (mark_all seen d c) ≡ length seen
unfolding mark_all
all_length seen d zero = refl
all_length seen d (suc c) = all_length (set seen d true) (suc d) c ∙ length-set seen d true

pub all_outside : (seen : List Bool) (d c i : ℕ) (x : Bool) → (i < d) ⊎ (d + c ≤ i) → get_or (mark_all seen d c) i x ≡ get_or seen i x
unfolding mark_all
all_outside seen d zero i x h = refl
all_outside seen d (suc c) i x (inl h) =
    all_outside (set seen d true) (suc d) c i x (inl (omega arith)) ∙ get_or-set_other seen d i true x (omega arith)
all_outside seen d (suc c) i x (inr h) =
    all_outside (set seen d true) (suc d) c i x (inr (omega arith)) ∙ get_or-set_other seen d i true x (omega arith)

pub all_inside : (seen : List Bool) (d c i : ℕ) (x : Bool) → d ≤ i → i < d + c → i < length seen → get_or (mark_all seen d c) i x ≡ true
unfolding mark_all
all_inside seen d zero i x l u h = absurd (omega arith)
all_inside seen d (suc c) i x l u h =
    by_eq i d
    (λ e. all_outside (set seen d true) (suc d) c i x (inl (omega arith)) ∙ ap (λ j. get_or (set seen d true) j x) e ∙ get_or-set_same seen d true x (omega arith))
    (λ e. all_inside (set seen d true) (suc d) c i x (omega arith) (omega arith) (let k : length (set seen d true) ≡ length seen = length-set seen d true in omega arith))
