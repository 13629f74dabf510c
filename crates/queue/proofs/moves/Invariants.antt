-- `queue::moves` meets its contract: the whole run is what is left of it from where the loop stands.
use Rattle.std.proofs.Common.{◌-◌}
use Rattle.rules.specs.Calls.{opened}
use Rattle.views.specs.Tables.{queue_of}
use Rattle.tables.specs.Lent.{tables_held}
use Rattle.access.specs.Accesses.{memory}
use Rattle.queue.specs.Steps.{Running}
use Rattle.queue.proofs.moves.Given as goal

abbrev pub invariant-loop : goal.invariant-loop
invariant-loop l =
    Running l.initial.t (opened (queue_of l.fn.c (tables_held l.initial.t)) (memory l.initial.one l.two l.initial.pool)) l.budget l.done (l.budget - l.counter) l.t l.one l.two l.pool
