-- `fields::load` meets its contract. The loop goes down: number is the field of the WIDTH - i bytes from at + i on.
use Rattle.std.proofs.Common.{◌≡◌, ℕ, ◌+◌, ◌-◌, ◌^◌, ◌≤◌, arith}
use native.Mathlib.Nat.{pow-le-pow_right}
use Rattle.lists.specs.Bytes.{get_next, get_none, pow_next}
use Rattle.fields.proofs.load.Goals as goal

-- seven bytes leave room for an eighth
below7 : (m : ℕ) → m ≤ 7 → 256 ^ m ≤ 2 ^ 56
below7 m h = pow-le-pow_right (omega arith) h

pub loop-i-init : goal.loop-i-init
loop-i-init g c =
    let i = c.WIDTH-i.result in
    let left = g.T.Field.WIDTH - i in
    let none = get_none left c.args.s.now (c.args.at + i) (omega arith) in
    let nothing : left ≡ 0 = omega arith in
    let one : 256 ^ left ≡ 1 = rw nothing in
    omega arith

pub overflow_mul-number : goal.overflow_mul-number
overflow_mul-number g c =
    omega (arith, g.met.T.Field.narrow, below7 (g.T.Field.WIDTH - c.loop-i.i) (omega (arith, g.met.T.Field.narrow)))

pub overflow_add-number : goal.overflow_add-number
overflow_add-number g c =
    omega (arith, below7 (g.T.Field.WIDTH - c.loop-i.i) (omega (arith, g.met.T.Field.narrow)), c.type_inv.s (c.args.at + (c.loop-i.i - 1)))

pub loop-i-preserved : goal.loop-i-preserved
loop-i-preserved g c =
    let i = c.loop-i.i in
    let left = g.T.Field.WIDTH - i in
    let more = g.T.Field.WIDTH - (i - 1) in
    let at = c.args.at in
    let next = get_next more left c.args.s.now (at + (i - 1)) (at + i) (omega arith) (omega arith) in
    let pow = pow_next more left (omega arith) in
    omega (arith, c.type_inv.s (at + (i - 1)))
