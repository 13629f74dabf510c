-- `layout::used_ring` meets its contract. The part that each arm takes ends inside what its region needs, and is the rules' part for that layout.
-- Assumes nothing.
use native.Mathlib.Omega.{arith}
use Rattle.virtio.specs.Sizes.{used_small, used_in_one, used_in_two}
use Rattle.layout.proofs.used_ring.Goals as goal

pub overflow_add-to : goal.overflow_add-to
overflow_add-to c =
    let a = c.args in
    omega (arith, used_small a.legacy a.n (omega arith))

pub slice_bounds-result-end : goal.slice_bounds-result-end
slice_bounds-result-end c =
    let a = c.args in
    omega (arith, used_in_one a.legacy a.n c.if-legacy.true)

pub slice_bounds-result-end-else-legacy : goal.slice_bounds-result-end-else-legacy
slice_bounds-result-end-else-legacy c =
    let a = c.args in
    omega (arith, used_in_two a.legacy a.n c.if-legacy.false)
