-- `fields::store` meets its contract. The loop goes up: what is left to do is to put rest in the WIDTH - i bytes from at + i on.
use Rattle.std.proofs.Common.{◌≡◌, ◌+◌, ◌-◌}
use Rattle.lists.specs.Bytes.{put_le}
use Rattle.fields.proofs.store.Given as goal

abbrev pub invariant-loop-i : goal.invariant-loop-i
invariant-loop-i g l =
    put_le g.T.Field.WIDTH l.initial.s l.at (g.T.Field.number l.fn.v) ≡ put_le (g.T.Field.WIDTH - l.i) l.s (l.at + l.i) l.rest
