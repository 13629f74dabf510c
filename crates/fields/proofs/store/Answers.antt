-- `fields::store` meets its contract. The loop goes up: what is left to do is to put rest in the WIDTH - i bytes from at + i on.
use Rattle.std.proofs.Common.{◌+◌, ◌-◌, ◌∙◌, sym, arith}
use Rattle.lists.specs.Bytes.{put_next, put_none}
use Rattle.fields.proofs.store.Goals as goal

pub loop-i-preserved : goal.loop-i-preserved
loop-i-preserved g c =
    let i = c.loop-i.i in
    let width = g.T.Field.WIDTH in
    let at = c.args.at in
    let step = put_next (width - i) (width - (i + 1)) c.loop-i.s (at + i) (at + (i + 1)) c.loop-i.rest (omega arith) (omega arith) in
    cc

pub returns : goal.returns
returns g c =
    sym (c.loop-i.invariant ∙ put_none (g.T.Field.WIDTH - c.loop-i.i) c.loop-i.s (c.args.at + c.loop-i.i) c.loop-i.rest (omega arith))
