-- `fields::load` meets its contract. The loop goes down: number is the field of the WIDTH - i bytes from at + i on.
use Rattle.std.proofs.Common.{◌≡◌, ◌+◌, ◌-◌, ◌^◌, ◌≤◌, ◌<◌}
use Rattle.lists.specs.Bytes.{get_le}
use Rattle.fields.proofs.load.Given as goal

abbrev pub invariant-loop-i : goal.invariant-loop-i
invariant-loop-i g l =
    (l.i ≤ g.T.Field.WIDTH) × (l.number ≡ get_le (g.T.Field.WIDTH - l.i) l.s (l.at + l.i)) × (l.number < 256 ^ (g.T.Field.WIDTH - l.i))
