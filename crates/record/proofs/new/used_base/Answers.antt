-- `record::new::used_base` meets its contract: the layout picks the region and the offset.
-- Assumes nothing.
use native.Mathlib.Omega.{arith}
use Rattle.virtio.specs.Layout.{used_at}
use Rattle.record.proofs.new.used_base.Goals as goal

pub overflow_add-result : goal.overflow_add-result
overflow_add-result c = omega (arith, rw c.if-a.true at c.requires.a_bound)

pub overflow_add-result-else-a : goal.overflow_add-result-else-a
unfolding used_at
overflow_add-result-else-a c = omega arith

pub returns-then-a : goal.returns-then-a
returns-then-a c = rw (c.if-a.true, c.used_at.ensures)

pub returns-else-a : goal.returns-else-a
returns-else-a c = rw (c.if-a.false, c.used_at-else-a.ensures)
