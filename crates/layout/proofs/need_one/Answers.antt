-- `layout::need_one` meets its contract: each arm's value is the line of `need_one` for that layout, which the branch's test picks.
-- Assumes nothing.
use native.Mathlib.Omega.{arith}
use Rattle.virtio.specs.Layout.{need_one}
use Rattle.layout.proofs.need_one.Goals as goal

pub returns-then-legacy : goal.returns-then-legacy
unfolding need_one
returns-then-legacy c = rw c.if-legacy.true (cc)

pub returns-else-legacy : goal.returns-else-legacy
unfolding need_one
returns-else-legacy c = rw c.if-legacy.false (omega arith)
