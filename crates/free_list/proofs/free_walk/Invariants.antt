-- `free_list::free_walk` meets its contract. The loop's invariant: whatever is known of the walk still to come is known of the whole walk.
use mathlib.Core.Path.{◌≡◌}
use mathlib.Core.Bool.{Bool}
use mathlib.Core.List.{List}
use Prim.Native.Nat.{◌<◌}
use lib.ListN.{length}
use Rattle.lists.specs.Asked.{Bounded}
use Rattle.lists.specs.Marks.{marks_of}
use Rattle.views.specs.Views.{at}
use Rattle.free_list.proofs.free_walk.Given as goal

abbrev pub invariant-runs : goal.invariant-runs
invariant-runs l =
    (l.d < l.n) × (length l.seen ≡ length l.initial.seen) × ((after : List Bool) (r : Bool) → Bounded l.n (at l.next) (marks_of l.seen) after l.more l.d r → Bounded l.n (at l.next) (marks_of l.initial.seen) after l.k l.i r)

abbrev pub decreases-runs : goal.decreases-runs
decreases-runs l = l.more
