-- That a number takes one count of digits.
use Rattle.std.proofs.Common.{ℕ, ◌+◌, ◌-◌, ◌*◌, ◌/◌, ◌^◌, ◌≤◌, ◌<◌, ◌≡◌, sym, ap, subst, ◌∙◌, arith, pow-suc, suc}
use Rattle.std.proofs.Math.Nat.{one-le-pow, pow-le-pow_right, div-div-eq-div-mul, le-div_iff_mul-le, div-lt_iff_lt-mul, lt_of_not-le, le_of_suc-le-suc}
use Rattle.io.specs.Digits.{IsDigitCount}

-- where `most` digits hold n, the fewest are no more
not_above : (n k most : ℕ) → IsDigitCount 10 1 n k → 1 ≤ most → n < 10 ^ most → most < k → ⊥
not_above n k most fewest within holds over =
    let p : 10 ^ (k - 1) ≤ n = fewest.2 (omega arith) in
    let q : 10 ^ most ≤ 10 ^ (k - 1) = pow-le-pow_right {n = 10} (omega arith) {i = most} {j = k - 1} (omega arith) in
    omega (arith, p, q)

-- a number takes one count of digits
pub digit_count_one : (n j k : ℕ) → IsDigitCount 10 1 n j → IsDigitCount 10 1 n k → j ≡ k
digit_count_one n j k f h =
    let low : j ≤ k = le_of_suc-le-suc (lt_of_not-le (λ (over : suc k ≤ j). not_above n j k f (omega (arith, h)) h.1 over)) in
    let high : k ≤ j = le_of_suc-le-suc (lt_of_not-le (λ (over : suc j ≤ k). not_above n k j h (omega (arith, f)) f.1 over)) in
    omega (arith, low, high)
