-- The answer is whether the free list is 0, 1, .. n-1. The loop's invariant: it is whether the rest of the list goes on so.
use mathlib.Core.Path.{◌≡◌}
use Prim.Native.Nat.{◌<◌}
use Rattle.lists.specs.Pick.{rising, same}
use Rattle.rules.specs.Record.{free_list}
use Rattle.views.specs.Tables.{queue_of}
use Rattle.tables.specs.Lent.{tables_read}
use Rattle.owns.specs.Turns.{order_rest}
use Rattle.owns.proofs.in_free_order.Given as goal

abbrev pub invariant-loop-i : goal.invariant-loop-i
invariant-loop-i l =
    (l.at < l.fn.c.n) × (same (free_list (queue_of l.fn.c (tables_read l.t))) (rising l.fn.c.n 0) ≡ order_rest (queue_of l.fn.c (tables_read l.t)) l.at l.i)
