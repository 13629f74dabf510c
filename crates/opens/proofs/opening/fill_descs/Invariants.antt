-- `opens::opening::fill_descs` meets its contract: what filling the list makes of the tables, and where it ends, is what filling the rest from i on makes of
-- them.
use Rattle.std.proofs.Common.{◌<◌, ◌-◌, length, drop}
use Rattle.tables.specs.Lent.{tables_held, SameLoan}
use Rattle.opens.specs.Stores.{Filling}
use Rattle.opens.proofs.opening.fill_descs.Given as goal

abbrev pub invariant-loop-j : goal.invariant-loop-j
invariant-loop-j l = record {
  inside : l.i < l.n;
  same_loan : SameLoan l.initial.tables l.tables;
  filling : Filling (tables_held l.initial.tables) (tables_held l.tables) (length l.list) l.head (length l.list - l.j) l.i l.list (drop l.j l.list);
}
