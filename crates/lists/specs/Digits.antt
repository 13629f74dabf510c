-- The binary digits of a number, and what or, and, a power of two and a run of ones make of them.
use Rattle.std.specs.Prelude.{◌≡◌, refl, ◌⊎◌, ℕ, suc, ◌+◌, ◌-◌, ◌*◌, ◌/◌, ◌%◌, ◌^◌, ◌≤◌, ◌<◌, min, max}
use Rattle.std.proofs.Common.{sym, ap, ◌∙◌, inl, inr, pow-suc, mul_assoc, arith, shl_exact, pow_pos, pow-add, shr-shr, pow_mono}
use Rattle.std.proofs.Math.Nat.{div-eq_of_lt}
use Rattle.std.proofs.Math.Arith.{bin_ind}
use Rattle.std.specs.Int.Bits.{bit_and, bit_or, and_step, or_step, shifted_even}
use Rattle.std.proofs.lemmas.Nat.{and_shr, or_shr, shl-shr}
use Rattle.std.proofs.Math.Pow.{high_ones, ones_split, high, ones_lt}
use Rattle.lists.specs.Tests.{by_eq}

-- digit k of w
abbrev pub digit : ℕ → ℕ → ℕ
digit w k = w / 2 ^ k % 2

digit_two : (w : ℕ) → (w % 2 ≡ 0) ⊎ (w % 2 ≡ 1)
digit_two w = by_eq (w % 2) 0 (λ e. inl e) (λ e. inr (omega arith))

max_odd : (x a b : ℕ) → (x * 2 + max (a % 2) (b % 2)) % 2 ≡ max (a % 2) (b % 2)
max_odd x a b = omega arith

pub digit_or : (a b k : ℕ) → digit (bit_or a b) k ≡ max (digit a k) (digit b k)
digit_or a b k =
    ap (λ x. x % 2) (or_shr a b k ∙ or_step (a / 2 ^ k) (b / 2 ^ k)) ∙ max_odd (bit_or (a / 2 ^ k / 2) (b / 2 ^ k / 2)) (a / 2 ^ k) (b / 2 ^ k)

min_odd : (x a b : ℕ) → (x * 2 + min (a % 2) (b % 2)) % 2 ≡ min (a % 2) (b % 2)
min_odd x a b = omega arith

pub digit_and : (a b k : ℕ) → digit (bit_and a b) k ≡ min (digit a k) (digit b k)
digit_and a b k =
    ap (λ x. x % 2) (and_shr a b k ∙ and_step (a / 2 ^ k) (b / 2 ^ k)) ∙ min_odd (bit_and (a / 2 ^ k / 2) (b / 2 ^ k / 2)) (a / 2 ^ k) (b / 2 ^ k)

-- a number with no digit set is 0
pub digits_none : (w : ℕ) → ((k : ℕ) → digit w k ≡ 0) → w ≡ 0
digits_none w h =
    bin_ind (λ w. ((k : ℕ) → digit w k ≡ 0) → w ≡ 0) (λ h. refl)
    (λ w ih h. let half : w / 2 ≡ 0 = ih (λ k. ap (λ x. x % 2) (shr-shr w 1 k ∙ ap (λ e. w / 2 ^ e) (omega arith)) ∙ h (suc k)) in
    let low : w / 2 ^ 0 % 2 ≡ 0 = h 0 in
    omega arith)
    w h

-- ---- c ones from digit o on

abbrev pub ones : ℕ → ℕ → ℕ
ones c o = (2 ^ c - 1) * 2 ^ o

-- a number shifted up: its digits below, and from there on
shifted_low : (a o j : ℕ) → j < o → digit (a * 2 ^ o) j ≡ 0
shifted_low a o j l =
    let m : ℕ = o - suc j in
    let e : o ≡ suc m + j = omega arith in
    let p : a * 2 ^ o ≡ a * 2 ^ suc m * 2 ^ j = ap (λ x. a * 2 ^ x) e ∙ ap (λ x. a * x) (pow-add 2 (suc m) j) ∙ sym (mul_assoc a (2 ^ suc m) (2 ^ j)) in
    ap (λ x. x / 2 ^ j % 2) p ∙ ap (λ x. x % 2) (shl-shr (a * 2 ^ suc m) j) ∙ shifted_even a m

shifted_high : (a o m : ℕ) → digit (a * 2 ^ o) (o + m) ≡ digit a m
shifted_high a o m =
    ap (λ x. x % 2) (sym (shr-shr (a * 2 ^ o) o m) ∙ ap (λ x. x / 2 ^ m) (shl-shr a o))

-- all ones: set below c, clear from c on
all_ones_low : (c m : ℕ) → m < c → digit (2 ^ c - 1) m ≡ 1
all_ones_low c m l =
    let t : ℕ = c - suc m in
    let e : c ≡ suc t + m = omega arith in
    let h : (2 ^ c - 1) / 2 ^ m ≡ 2 ^ suc t - 1 = ap (λ x. (2 ^ x - 1) / 2 ^ m) e ∙ ap (λ x. x / 2 ^ m) (ones_split (suc t) m) ∙ high (2 ^ suc t - 1) m (ones_lt m) in
    ap (λ x. x % 2) h ∙ (let p : 2 ^ suc t ≡ 2 ^ t * 2 = pow-suc 2 t in let q : 0 < 2 ^ t = pow_pos t in omega arith)

all_ones_high : (c m : ℕ) → c ≤ m → digit (2 ^ c - 1) m ≡ 0
all_ones_high c m l =
    let u : 2 ^ c - 1 < 2 ^ c = ones_lt c in
    let v : 2 ^ c ≤ 2 ^ m = pow_mono l in
    ap (λ x. x % 2) (div-eq_of_lt (let w : 2 ^ c - 1 < 2 ^ m = omega arith in w))

module _ (c o : ℕ) where
  pub ones_before : (j : ℕ) → j < o → digit (ones c o) j ≡ 0
  ones_before j l = shifted_low (2 ^ c - 1) o j l

  pub ones_inside : (j : ℕ) → o ≤ j → j < o + c → digit (ones c o) j ≡ 1
  ones_inside j l u =
      let e : j ≡ o + (j - o) = omega arith in
      ap (digit (ones c o)) e ∙ shifted_high (2 ^ c - 1) o (j - o) ∙ all_ones_low c (j - o) (omega arith)

  pub ones_behind : (j : ℕ) → o + c ≤ j → digit (ones c o) j ≡ 0
  ones_behind j l =
      let e : j ≡ o + (j - o) = omega arith in
      ap (digit (ones c o)) e ∙ shifted_high (2 ^ c - 1) o (j - o) ∙ all_ones_high c (j - o) (omega arith)

  -- the mask as code makes it, from its first and its last digit
  pub ones_made : (g : ℕ) → o + c ≡ suc g → 2 ^ o ≤ 2 ^ g → 2 ^ g - 2 ^ o + 2 ^ g ≡ ones c o
  ones_made g e l =
      let p : 2 ^ (c + o) - 2 ^ o ≡ ones c o = high_ones c o in
      let s : c + o ≡ suc g = omega arith in
      let q : 2 ^ (c + o) ≡ 2 ^ g * 2 = ap (λ x. 2 ^ x) s ∙ pow-suc 2 g in
      sym (sym p ∙ (omega arith))

-- `1 << o` in 64 bits
pub bit_made : (o : ℕ) → o < 64 → (1 * 2 ^ o) % 2 ^ 64 ≡ 1 * 2 ^ o
bit_made o l = shl_exact 1 o 64 (omega arith) (omega arith)
