-- `tables::TablesRef::entry_at` meets its contract: the words at j, as the tables have them.
use native.Mathlib.Omega.{arith}
use Rattle.tables.specs.Stores.{entry_load}
use Rattle.tables.proofs.TablesRef.entry_at.Goals as goal

pub returns : goal.returns
returns c =
    let s : _ = c.args.self.now in
    entry_load s.room s.words.now s.lens.now s.halves.now s.sides.now c.args.j (omega arith)
