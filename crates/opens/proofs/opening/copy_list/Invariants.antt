-- `opens::opening::copy_list` meets its contract: what copying the list makes of the tables is what copying the rest makes of them.
use Rattle.std.proofs.Common.{◌≡◌, ◌+◌, drop}
use Rattle.tables.specs.Lent.{tables_held, SameLoan}
use Rattle.opens.specs.Given.{with_copied}
use Rattle.opens.proofs.opening.copy_list.Given as goal

abbrev pub invariant-loop-j : goal.invariant-loop-j
invariant-loop-j l = record {
  same_loan : SameLoan l.initial.tables l.tables;
  copied : with_copied (tables_held l.initial.tables) l.from l.list ≡ with_copied (tables_held l.tables) (l.from + l.j) (drop l.j l.list);
}
