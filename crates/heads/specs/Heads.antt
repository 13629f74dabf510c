-- The numbers of a head's slot, and a test at each head as a loop makes it: the answer is the answer for the heads that are left.
use Rattle.std.specs.Prelude.{◌≡◌, Bool, true, false, not, ◌||◌, List, ℕ, suc, ◌+◌, ◌-◌, ◌*◌, ◌/◌, ◌%◌, ◌≤◌, ◌<◌, eqb, leb}
use Rattle.std.proofs.Common.{sym, ap, ◌∙◌, arith, mul-suc, mul-le-mul_left, lt-ltb, eq-eqb, ne_eqb, eqb-true, le-leb, leb-true, leb-false}
use Rattle.std.proofs.lemmas.Bool.{eqb-false}
use Rattle.lists.specs.Tests.{by_test}
use Rattle.lists.specs.Pick.{every}
use Rattle.lists.specs.PickLaws.{every_next, every_bad, every_none}
use Rattle.rules.specs.WellFormed.{listed, sound_list}
use Rattle.views.specs.Views.{at, heads, refers, described, buffers_at}

-- two tests that say the same are one
pub leb_same : (a b c d : ℕ) → (a ≤ b → c ≤ d) → (c ≤ d → a ≤ b) → leb a b ≡ leb c d
leb_same a b c d f g =
    by_test (leb a b)
    (λ s. s ∙ sym (le-leb c d (f (leb-true a b s))))
    (λ s. by_test (leb c d) (λ t. absurd (let h : a ≤ b = g (leb-true c d t) in omega (arith, leb-false a b s))) (λ t. s ∙ sym t))

pub whole_same : (len : ℕ) → eqb (len % 16) 0 ≡ eqb len (16 * (len / 16))
whole_same len =
    by_test (eqb (len % 16) 0)
    (λ s. s ∙ sym (eq-eqb len (16 * (len / 16)) (omega (arith, eqb-true (len % 16) 0 s))))
    (λ s. s ∙ sym (ne_eqb len (16 * (len / 16)) (λ e. eqb-false (len % 16) 0 s (omega arith))))

-- slot h of n, each of n entries, ends within n times n
pub slot_fits : (n h : ℕ) → h < n → n * h + n ≤ n * n
slot_fits n h l = rw mul-suc at (mul-le-mul_left {m = suc h} {n = n} n (omega arith))

-- h heads an outstanding chain, or it does not
pub heads_some : (n : ℕ) (noted : List ℕ) (h : ℕ) → h < n → (at noted h ≡ 0 → ⊥) → heads n noted h ≡ true
heads_some n noted h l z = rw (lt-ltb h n l, ne_eqb (at noted h) 0 z)

pub heads_none : (n : ℕ) (noted : List ℕ) (h : ℕ) → h < n → at noted h ≡ 0 → heads n noted h ≡ false
heads_none n noted h l z = rw (lt-ltb h n l, eq-eqb (at noted h) 0 z)

-- what the clauses test at h
abbrev pub listed_at : Bool → ℕ → ℕ → List ℕ → List ℕ → List ℕ → List ℕ → ℕ → Bool
listed_at indirect base n addr len flags noted h =
    not (heads n noted h)
    || (not (refers flags h)
    || listed indirect n (base + 16 * (n * h)) (described (at addr h) (at len h) (at flags h)))

abbrev pub sound_at : ℕ → List ℕ → List ℕ → List ℕ → List ℕ → List ℕ → List Bool → ℕ → Bool
sound_at n next flags len noted lens sides h =
    not (heads n noted h) || sound_list (buffers_at n next flags len noted lens sides h)

-- a turn of a loop that makes a test at each head, and its two ways out
module _ (p : ℕ → Bool) (n h : ℕ) (left : every p n 0 ≡ every p (n - h) h) where
  pub heads_turn : h < n → p h ≡ true → every p n 0 ≡ every p (n - (h + 1)) (h + 1)
  heads_turn l e =
      let m : n - h - 1 ≡ n - (h + 1) = omega arith in
      left ∙ every_next p (n - h) h (omega arith) e ∙ ap (λ k. every p k (h + 1)) m

  pub heads_stop : h < n → p h ≡ false → false ≡ every p n 0
  heads_stop l e = sym (left ∙ every_bad p (n - h) h (omega arith) e)

  pub heads_end : n ≤ h → true ≡ every p n 0
  heads_end l = sym (left ∙ every_none p (n - h) h (omega arith))
