-- `tables::TablesMut::put_entry` meets its contract: stores to the words at j, as the tables have them.
use native.Mathlib.Omega.{arith}
use Rattle.tables.specs.Stores.{entry_store}
use Rattle.tables.proofs.TablesMut.put_entry.Goals as goal

pub returns-clause-stored : goal.returns-clause-stored
returns-clause-stored c =
    let s : _ = c.args.self.now in
    entry_store s.room s.words.now s.lens.now s.halves.now s.sides.now c.args.j c.args.b (omega arith) (omega arith) (omega arith) (omega arith)
