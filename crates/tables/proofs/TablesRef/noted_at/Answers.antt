-- `tables::TablesRef::noted_at` meets its contract: the word of h, as the tables have it.
use native.Mathlib.Omega.{arith}
use Rattle.tables.specs.Stores.{noted_load}
use Rattle.tables.proofs.TablesRef.noted_at.Goals as goal

pub returns : goal.returns
returns c =
    let s : _ = c.args.self.now in
    noted_load s.room s.words.now s.lens.now s.halves.now s.sides.now c.args.h (omega arith)
