-- `tables::TablesMut::put_desc` meets its contract: stores to the words at i, as the tables have them.
use native.Mathlib.Omega.{arith}
use Rattle.tables.specs.Stores.{desc_store}
use Rattle.tables.proofs.TablesMut.put_desc.Goals as goal

pub returns-clause-stored : goal.returns-clause-stored
returns-clause-stored c =
    let s : _ = c.args.self.now in
    desc_store s.room s.words.now s.lens.now s.halves.now s.sides.now c.args.i c.args.d (omega arith) (omega arith) (omega arith) (omega arith)
