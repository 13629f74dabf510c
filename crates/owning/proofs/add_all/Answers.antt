-- The answer is `add_own` of the queue. The loop's invariant: it is `add_own` of what the adds so far came to.
use mathlib.Core.Path.{sym, ◌∙◌}
use native.Mathlib.Omega.{arith}
use Rattle.virtio.specs.Memory.{Memory}
use Rattle.access.specs.Accesses.{memory}
use Rattle.record.specs.Abs.{abs}
use Rattle.record.specs.Asked.{answer_of}
use Rattle.owning.specs.Making.{adds_turn, adds_end}
use Rattle.owning.proofs.add_all.Goals as goal

pub loop-i-preserved : goal.loop-i-preserved
loop-i-preserved c =
    let m : Memory = memory c.loop-i.one c.args.two.now c.loop-i.pool in (
      c.add.auto.one ∙ c.loop-i.invariant.0,
      c.add.auto.pool ∙ c.loop-i.invariant.1,
      c.loop-i.invariant.2 ∙ adds_turn c.args.own.base c.args.own.size c.args.queue.core.n c.loop-i.i (abs c.loop-i.q) m (answer_of c.add.result _) c.loop-i-test.true (rw c.buffer.ensures at c.add.ensures),
    )

pub returns : goal.returns
returns c =
    let m : Memory = memory c.loop-i.one c.args.two.now c.loop-i.pool in
    sym (c.loop-i.invariant.2 ∙ adds_end c.args.own.base c.args.own.size c.args.queue.core.n c.loop-i.i (abs c.loop-i.q) m (omega arith))
