-- `free_list::free_walk` meets its contract. The loop's invariant: whatever is known of the walk still to come is known of the whole walk.
use mathlib.Core.Path.{refl, ◌∙◌, subst}
use mathlib.Core.Bool.{Bool, true, false}
use mathlib.Core.List.{List}
use native.Mathlib.Omega.{arith}
use Rattle.std.proofs.Common.{rules}
use Rattle.lists.specs.Asked.{bounded_none, bounded_on, bounded_stop, bounded_out}
use Rattle.lists.specs.Marks.{marks_of}
use Rattle.lists.specs.Visited.{MarkedRun}
use Rattle.views.specs.Views.{at}
use Rattle.free_list.proofs.free_walk.Goals as goal

pub runs-init : goal.runs-init
runs-init c = (omega arith, refl, λ after r f. f)

pub mark_run-requires : goal.mark_run-requires
mark_run-requires c = let r = c.first_run-run.ensures in record { c_nonzero = (r.some, r.share); marks = (let below = r.below in omega arith) }

pub returns-then-not-mark_run : goal.returns-then-not-mark_run
returns-then-not-mark_run c =
    let l = c.runs in
    let p = c.first_run-run in
    let m = c.mark_run in
    let last : List Bool = marks_of m.new.seen in
    let old : MarkedRun (marks_of l.seen) last p.result.low p.result.count false = subst (MarkedRun (marks_of l.seen) last p.result.low p.result.count) (search rules) m.ensures in
    l.invariant.2 last false (bounded_stop c.args.n (at c.args.next.now) l.more l.d p.result.low p.result.count p.result.last p.ensures (marks_of l.seen) last last old)

pub bounds-next-run : goal.bounds-next-run
bounds-next-run c = let r = c.first_run-run.ensures in let below = r.last_below in omega arith

pub returns-then-n-x : goal.returns-then-n-x
returns-then-n-x c =
    let l = c.runs in
    let p = c.first_run-run in
    let last : List Bool = marks_of c.mark_run.new.seen in
    l.invariant.2 last false (bounded_out c.args.n (at c.args.next.now) l.more l.d p.result.low p.result.count p.result.last p.ensures (marks_of l.seen) last c.if-n-x.true)

pub overflow_sub-more : goal.overflow_sub-more
overflow_sub-more c = let r = c.first_run-run.ensures in let few = r.few in omega arith

pub runs-smaller : goal.runs-smaller
runs-smaller c = let r = c.first_run-run.ensures in let few = r.few in let some = r.some in omega arith

pub runs-preserved : goal.runs-preserved
runs-preserved c =
    let l = c.runs in
    let p = c.first_run-run in
    let m = c.mark_run in
    let seen : List Bool = marks_of m.new.seen in
    let new : MarkedRun (marks_of l.seen) seen p.result.low p.result.count true = subst (MarkedRun (marks_of l.seen) seen p.result.low p.result.count) (search rules) m.ensures in (
      omega arith,
      m.auto.seen ∙ l.invariant.1,
      λ after r f. l.invariant.2 after r
          (bounded_on c.args.n (at c.args.next.now) l.more l.d p.result.low p.result.count p.result.last p.ensures (marks_of l.seen) seen after r new (omega arith) f),
    )

pub returns : goal.returns
returns c =
    let l = c.runs in
    l.invariant.2 (marks_of l.seen) true (bounded_none c.args.n (at c.args.next.now) (marks_of l.seen) l.more l.d (omega arith))
