-- `react::freeing::clear_entries` meets its contract: what all entries become is what the rest become from where the loop stands.
use Rattle.std.proofs.Common.{◌≡◌, ◌+◌, ◌-◌}
use Rattle.tables.specs.Lent.{tables_held, SameLoan}
use Rattle.react.specs.Reactions.{cleared}
use Rattle.react.proofs.freeing.clear_entries.Given as goal

abbrev pub invariant-loop-i : goal.invariant-loop-i
invariant-loop-i l = record {
  same : SameLoan l.initial.t l.t;
  rest : cleared (tables_held l.initial.t) l.from l.count ≡ cleared (tables_held l.t) (l.from + l.i) (l.count - l.i);
}
