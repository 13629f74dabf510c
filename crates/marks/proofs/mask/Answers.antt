-- `marks::mask` meets its contract: c ones are what a shift leaves of 64, and the shift back up loses none of them.
use Rattle.std.proofs.Common.{◌≡◌, ℕ, ◌+◌, ◌-◌, ◌/◌, ◌^◌, ap, ◌∙◌, arith, shl_exact}
use Rattle.std.proofs.Math.Pow.{high, ones_split, ones_lt}
use Rattle.marks.proofs.mask.Goals as goal

pub returns : goal.returns
returns c =
    let o : ℕ = c.args.o in
    let n : ℕ = c.args.c in
    let all : n + (64 - n) ≡ 64 = omega arith in
    let low : (2 ^ (n + (64 - n)) - 1) / 2 ^ (64 - n) ≡ 2 ^ n - 1 = ap (λ x. x / 2 ^ (64 - n)) (ones_split n (64 - n)) ∙ high (2 ^ n - 1) (64 - n) (ones_lt (64 - n)) in
    let left : 18446744073709551615 / 2 ^ (64 - n) ≡ 2 ^ n - 1 = rw all at low in
    rw left (shl_exact n o 64 (ones_lt n) (omega arith))
