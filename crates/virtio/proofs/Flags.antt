-- The test of a flag by its bit is the test that the rules make by division.
use Rattle.std.proofs.Common.{◌≡◌, ℕ, zero, suc, ◌*◌, ◌/◌, ◌%◌, ◌^◌, ◌<◌, refl, sym, ◌∙◌, arith, Bool, true, false, eq-eqb, ne_eqb, bit_and, not, eqb}
use Rattle.std.proofs.Math.Nat.{zero-mul}
use Rattle.std.proofs.lemmas.Bool.{eqb-true}
use Rattle.std.proofs.lemmas.Nat.{pow_pos}
use Rattle.std.proofs.lemmas.Nat.Bits.{and_pow}
use Rattle.virtio.specs.declared.Desc.{Desc}
use Rattle.virtio.specs.Desc.{has_indirect}

of_bit : (b p : ℕ) → 0 < p → b < 2 → not (eqb (b * p) 0) ≡ eqb b 1
of_bit zero p h l = rw (zero-mul p) refl
of_bit (suc zero) p h l = rw (ne_eqb (1 * p) 0 (λ e. omega arith)) refl
of_bit (suc (suc b)) p h l = absurd (omega arith)

pub flag_set : (n k : ℕ) → not (eqb (bit_and n (2 ^ k)) 0) ≡ eqb (n / 2 ^ k % 2) 1
flag_set n k = rw (and_pow n k) (of_bit (n / 2 ^ k % 2) (2 ^ k) (pow_pos k) (omega arith))

-- what the test tells of the flags' number
pub indirect_bit : (d : Desc) (r : Bool) → r ≡ has_indirect d → r ≡ true → d.flags / 4 % 2 ≡ 1
indirect_bit d r e t = eqb-true (d.flags / 4 % 2) 1 (sym e ∙ t)

pub direct_bit : (d : Desc) (r : Bool) → r ≡ has_indirect d → r ≡ false → d.flags / 4 % 2 ≡ 1 → ⊥
direct_bit d r e f g = cc (eq-eqb (d.flags / 4 % 2) 1 g)
