-- Numbers that a function counts, told by what its calls ensure: `counts i a` says that it may give a as its i-th number.
use Rattle.std.specs.Prelude.{◌≡◌, ℕ, ◌+◌, ◌-◌, ◌≤◌, ◌<◌}
use Rattle.std.proofs.Common.{sym, ap, ◌∙◌, arith}
use Rattle.std.proofs.Math.Path.{subst}
use Rattle.lists.specs.Tests.{by_eq}
use Rattle.lists.specs.Runs.{Up, Down}

module _ (counts : ℕ → ℕ → Type 0) (next : ℕ → ℕ) where
  -- the i-th number links to the one after it
  abbrev pub Linked : ℕ → Type 0
  Linked i = (a : ℕ) × (b : ℕ) × counts i a × counts (i + 1) b × (next a ≡ b)

  -- a loop's turn: one more that links on
  pub linked_more : (i a b : ℕ) → 0 < i → ((j : ℕ) → j + 1 < i → Linked j) → counts (i - 1) a → counts i b → next a ≡ b → (j : ℕ) → j + 1 < i + 1 → Linked j
  linked_more i a b p h x y e j l =
      by_eq (j + 1) i
      (λ z. let k : i - 1 ≡ j = omega arith in (a, b, subst (λ m. counts m a) k x, subst (λ m. counts m b) (sym z) y, e))
      (λ z. h j (omega arith))

  -- counted up from d, the numbers rise; counted down from d, they fall
  module _ (most d c : ℕ) (some : 0 < c) (few : c ≤ most) (h : (j : ℕ) → j + 1 < c → Linked j) where
    pub counted_up : ((j a : ℕ) → counts j a → a ≡ d + j) → Up most next d c
    counted_up f = record {
      some = some;
      few = few;
      rises = λ i l u. let k = h (i - d) (omega arith) in
          let x : k.0 ≡ i = f (i - d) k.0 k.2 ∙ omega arith in
          let y : k.1 ≡ d + (i - d + 1) = f (i - d + 1) k.1 k.3 in
          ap next (sym x) ∙ k.4 ∙ omega arith;
    }

    pub counted_down : c ≤ d + 1 → ((j a : ℕ) → counts j a → a ≡ d - j) → Down most next d c
    counted_down b f = record {
      some = some;
      few = few;
      falls = λ i l u. let k = h (d - i) (omega arith) in
          let x : k.0 ≡ i = f (d - i) k.0 k.2 ∙ omega arith in
          let y : k.1 ≡ d - (d - i + 1) = f (d - i + 1) k.1 k.3 in
          let z : next i ≡ k.1 = ap next (sym x) ∙ k.4 in
          omega arith;
    }
