-- `tables::TablesMut::put_noted` meets its contract: a store to the word of h, as the tables have it.
use native.Mathlib.Omega.{arith}
use Rattle.tables.specs.Stores.{noted_store}
use Rattle.tables.proofs.TablesMut.put_noted.Goals as goal

pub returns-clause-stored : goal.returns-clause-stored
returns-clause-stored c =
    let s : _ = c.args.self.now in
    noted_store s.room s.words.now s.lens.now s.halves.now s.sides.now c.args.h c.args.k (omega arith)
