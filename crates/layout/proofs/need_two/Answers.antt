-- `layout::need_two` meets its contract: each arm's value is the line of `need_two` for that layout, which the branch's test picks.
-- Assumes nothing.
use native.Mathlib.Omega.{arith}
use Rattle.virtio.specs.Layout.{need_two}
use Rattle.layout.proofs.need_two.Goals as goal

pub returns-then-legacy : goal.returns-then-legacy
unfolding need_two
returns-then-legacy c = rw c.if-legacy.true (omega arith)

pub returns-else-legacy : goal.returns-else-legacy
unfolding need_two
returns-else-legacy c = rw c.if-legacy.false (omega arith)
