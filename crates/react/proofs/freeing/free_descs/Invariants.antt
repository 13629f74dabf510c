-- `react::freeing::free_descs` meets its contract: what all of the chain becomes is what the rest of it becomes from where the loop stands.
use Rattle.std.proofs.Common.{◌≡◌, ℕ, ◌+◌, ◌-◌, ◌<◌}
use Rattle.tables.specs.Lent.{tables_held, SameLoan}
use Rattle.react.specs.Reactions.{links, unchained}
use Rattle.react.proofs.freeing.free_descs.Given as goal

abbrev pub invariant-loop : goal.invariant-loop
invariant-loop l = record {
  same : SameLoan l.initial.t l.t;
  inside : l.i < l.n;
  linked : (j : ℕ) → j < l.n → links (tables_held l.t).shadow j < l.n;
  rest : unchained (tables_held l.initial.t) l.head l.k l.free ≡ unchained (tables_held l.t) l.i (l.k - l.counter + 1) l.free;
}
