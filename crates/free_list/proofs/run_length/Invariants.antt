-- `free_list::run_length` meets its contract. The loop's invariant: each of the first i numbers but the last links to the next.
use Rattle.std.proofs.Common.{ℕ, ◌+◌, ◌≤◌, ◌<◌}
use Rattle.views.specs.Views.{at}
use Rattle.free_list.specs.Linked.{Linked}
use Rattle.free_list.proofs.run_length.Given as goal

abbrev pub invariant-loop-i : goal.invariant-loop-i
invariant-loop-i g l = (l.i ≤ l.most) × ((j : ℕ) → j + 1 < l.i → Linked (goal.F-post g l.ith) (at l.next) j)
