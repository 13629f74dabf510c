-- `access::with_next` meets its contract: a number with its lowest bit set.
use Rattle.std.proofs.Common.{◌≡◌, ℕ, ◌+◌, ◌*◌, ◌/◌, ◌%◌, arith, bit_and, bit_or}
use Rattle.std.specs.Int.Bits.{or_add_and}
use Rattle.std.proofs.lemmas.Nat.{and_mask}
use Rattle.access.proofs.with_next.Goals as goal

set_lowest : (a : ℕ) → bit_or a 1 ≡ a / 2 * 2 + 1
set_lowest a =
    let both : bit_or a 1 + bit_and a 1 ≡ a + 1 = or_add_and a 1 in
    let low : bit_and a 1 ≡ a % 2 = and_mask a 1 in
    omega arith

pub returns : goal.returns
returns c = λ i. record { addr = c.args.d.addr; len = c.args.d.len; flags = set_lowest c.args.d.flags i; next = c.args.d.next }
