-- `fresh::link_table` meets its contract. The loop goes up: what is left to do is to store the descriptors from i on.
use Rattle.std.proofs.Common.{◌∙◌, sym, arith}
use Rattle.fresh.specs.Nexts.{link_next, link_none}
use Rattle.fresh.proofs.link_table.Goals as goal

pub loop-i-preserved : goal.loop-i-preserved
loop-i-preserved c =
    let l = c.loop-i in
    l.invariant ∙ link_next l.s c.args.n l.i (omega arith) ∙ rw (c.store_desc.ensures, c.from.ensures, c.next_of.ensures)

pub returns : goal.returns
returns c =
    let l = c.loop-i in
    sym (l.invariant ∙ link_none l.s c.args.n l.i (omega arith))
