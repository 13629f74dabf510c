-- `tables::TablesRef::next_at` meets its contract: the word at i, as the tables have it.
use native.Mathlib.Omega.{arith}
use Rattle.tables.specs.Stores.{next_load}
use Rattle.tables.proofs.TablesRef.next_at.Goals as goal

pub returns : goal.returns
returns c =
    let s : _ = c.args.self.now in
    next_load s.room s.words.now s.lens.now s.halves.now s.sides.now c.args.i (omega arith)
