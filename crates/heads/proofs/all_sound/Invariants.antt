-- `heads::all_sound` meets its contract. The loop's invariant: the buffers that are left may be looked at, and the answer is whether they are sound.
use Rattle.std.proofs.Common.{◌-◌}
use Rattle.heads.specs.Look.{Seen, Left}
use Rattle.heads.proofs.all_sound.Given as goal

abbrev pub invariant-loop : goal.invariant-loop
invariant-loop g l =
    Seen (goal.F-pre g l.look) (goal.F-post g l.look) (l.k - l.counter) l.at × Left (goal.F-post g l.look) l.k l.from l.written (l.k - l.counter) l.at
