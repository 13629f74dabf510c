-- `opens::comparison::same_direct` meets its contract: where the lengths are one, whether the lists are is whether what is left of them is.
use Rattle.std.proofs.Common.{◌≡◌, ◌<◌, ◌-◌, drop}
use Rattle.rules.specs.Calls.{same_list}
use Rattle.tables.specs.Lent.{tables_read}
use Rattle.opens.specs.Given.{direct_in}
use Rattle.opens.proofs.comparison.same_direct.Given as goal

abbrev pub invariant-loop-buffer : goal.invariant-loop-buffer
invariant-loop-buffer l = record {
  inside : l.i < l.n;
  rest : same_list (direct_in (tables_read l.tables) l.count l.head) l.list ≡ same_list (direct_in (tables_read l.tables) (l.count - l.buffer-index) l.i) (drop l.buffer-index l.list);
}
