-- `tables::TablesRef::hop` meets its contract: what is k links on from i is what is as many as are left on from where the loop stands.
use Rattle.std.proofs.Common.{◌≡◌, ℕ, ◌-◌, ◌<◌, get_or}
use Rattle.lists.specs.Walk.{hop}
use Rattle.virtio.specs.Desc.{no_desc}
use Rattle.tables.specs.declared.TablesRef.{TablesRef}
use Rattle.tables.specs.Lent.{tables_read}
use Rattle.tables.proofs.TablesRef.hop.Given as goal

-- what descriptor j links to
abbrev pub linked : TablesRef → ℕ → ℕ
linked t j = (get_or (tables_read t).shadow j no_desc).next

abbrev pub invariant-loop : goal.invariant-loop
invariant-loop l = record {
  inside : l.at < l.n;
  rest : hop (linked l.self) l.k l.i ≡ hop (linked l.self) (l.k - l.counter) l.at;
}
