-- `fresh::link_nexts` meets its contract. The loop goes up: what is left to do is to store the nexts from i on.
use Rattle.std.proofs.Common.{◌∙◌, sym, arith}
use Rattle.fresh.specs.Nexts.{set_next, set_none}
use Rattle.fresh.proofs.link_nexts.Goals as goal

pub loop-i-preserved : goal.loop-i-preserved
loop-i-preserved c =
    let l = c.loop-i in
    l.invariant ∙ set_next l.halves c.args.n l.i (omega arith) ∙ rw (c.from.ensures, c.next_of.ensures)

pub returns : goal.returns
returns c =
    let l = c.loop-i in
    sym (l.invariant ∙ set_none l.halves c.args.n l.i (omega arith))
