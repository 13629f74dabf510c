-- `opens::comparison::same_listed` meets its contract: where the lengths are one, whether the lists are is whether what is left of them is.
use Rattle.std.proofs.Common.{◌≡◌, ◌+◌, ◌-◌, drop}
use Rattle.lists.specs.Pick.{run_of}
use Rattle.virtio.specs.Desc.{no_buffer}
use Rattle.rules.specs.Calls.{same_list}
use Rattle.tables.specs.Lent.{tables_read}
use Rattle.opens.proofs.comparison.same_listed.Given as goal

abbrev pub invariant-loop-j : goal.invariant-loop-j
invariant-loop-j l =
    same_list (run_of no_buffer (tables_read l.tables).kept l.from l.count) l.list ≡ same_list (run_of no_buffer (tables_read l.tables).kept (l.from + l.j) (l.count - l.j)) (drop l.j l.list)
