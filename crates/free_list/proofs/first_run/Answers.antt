-- `free_list::first_run` meets its contract: a run down, or a run up, is the beginning of the walk.
use Rattle.std.proofs.Common.{ℕ, arith, rules}
use Rattle.lists.specs.Runs.{begins_up, begins_down}
use Rattle.views.specs.Views.{at}
use Rattle.free_list.specs.Linked.{counted_up, counted_down}
use Rattle.free_list.proofs.first_run.Goals as goal

pub returns-then-next-d : goal.returns-then-next-d
returns-then-next-d c =
    let r = c.run_length-count in
    let next : ℕ → ℕ = at c.args.next.now in
    begins_down c.args.n next c.args.k c.args.d c.min.result r.result (omega arith) (omega arith) (omega arith)
    (counted_down _ next c.min.result c.args.d r.result r.ensures.counted.0 r.ensures.counted.1 r.ensures.linked (omega arith) (λ j a h. search rules))

pub returns : goal.returns
returns c =
    let r = c.run_length-count-2 in
    let next : ℕ → ℕ = at c.args.next.now in
    begins_up c.args.n next c.args.k c.args.d c.min-2.result r.result (omega arith) (omega arith) (omega arith) (omega arith)
    (counted_up _ next c.min-2.result c.args.d r.result r.ensures.counted.0 r.ensures.counted.1 r.ensures.linked (λ j a h. search rules))
