-- `free_list::run_length` meets its contract. The loop's invariant: each of the first i numbers but the last links to the next.
use Rattle.std.proofs.Common.{◌-◌, arith}
use Rattle.views.specs.Views.{at}
use Rattle.free_list.specs.Linked.{linked_more}
use Rattle.free_list.proofs.run_length.Goals as goal

pub bounds-next-ith : goal.bounds-next-ith
bounds-next-ith g c = (c.requires.within (c.loop-i.i - 1) (omega arith)).1 c.ith.result c.ith.ensures

pub loop-i-preserved : goal.loop-i-preserved
loop-i-preserved g c =
    (omega arith, linked_more _ (at c.args.next.now) c.loop-i.i c.ith.result c.ith-in-loop-i.result (omega arith) c.loop-i.invariant.1 c.ith.ensures c.ith-in-loop-i.ensures c.if-next-ith.false)

pub returns-clause-linked : goal.returns-clause-linked
returns-clause-linked g c = λ j l. c.loop-i.invariant.1 j (omega arith)
