-- The answer is `add_own` of the queue. The loop's invariant: it is `add_own` of what the adds so far came to.
use mathlib.Core.Path.{◌≡◌}
use Prim.Native.Nat.{◌-◌}
use lib.ListN.{length}
use Rattle.rules.specs.Owning.{add_own}
use Rattle.access.specs.Accesses.{memory}
use Rattle.record.specs.Abs.{abs}
use Rattle.owning.proofs.add_all.Given as goal

abbrev pub invariant-loop-i : goal.invariant-loop-i
invariant-loop-i l =
    (length l.one ≡ length l.initial.one)
    × (length l.pool ≡ length l.initial.pool)
    × (add_own l.own.base l.own.size l.fn.queue.core.n 0 (abs l.initial.q) (memory l.initial.one l.two l.initial.pool) ≡ add_own l.own.base l.own.size (l.fn.queue.core.n - l.i) l.i (abs l.q) (memory l.one l.two l.pool))
