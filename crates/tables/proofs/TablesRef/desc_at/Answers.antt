-- `tables::TablesRef::desc_at` meets its contract: the words at i, as the tables have them.
use native.Mathlib.Omega.{arith}
use Rattle.tables.specs.Stores.{desc_load}
use Rattle.tables.proofs.TablesRef.desc_at.Goals as goal

pub returns : goal.returns
returns c =
    let s : _ = c.args.self.now in
    desc_load s.room s.words.now s.lens.now s.halves.now s.sides.now c.args.i (omega arith)
