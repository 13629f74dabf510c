-- `layout::used_at` meets its contract: each arm's value is the line of `used_at` for that layout, which the branch's test picks.
-- Assumes nothing.
use native.Mathlib.Omega.{arith}
use Rattle.virtio.specs.Layout.{used_at}
use Rattle.layout.proofs.used_at.Goals as goal

pub returns-then-legacy : goal.returns-then-legacy
unfolding used_at
returns-then-legacy c = rw c.if-legacy.true (omega arith)

pub returns-else-legacy : goal.returns-else-legacy
unfolding used_at
returns-else-legacy c = rw c.if-legacy.false (omega arith)
