-- `tables::TablesRef::size_at` meets its contract: by the descriptor that was loaded, or by the noted length.
use Rattle.std.proofs.Math.ListN.{get_or}
use Rattle.virtio.specs.Desc.{no_desc}
use Rattle.virtio.proofs.Flags.{indirect_bit, direct_bit}
use Rattle.tables.specs.Lent.{tables_read}
use Rattle.tables.specs.Stores.{size_listed, size_noted}
use Rattle.tables.proofs.TablesRef.size_at.Goals as goal

pub returns-then-is_indirect : goal.returns-then-is_indirect
returns-then-is_indirect c =
    let t : _ = tables_read c.args.self.now in
    size_listed c.desc_at-d.result (get_or t.shadow c.args.h no_desc) (get_or t.noted c.args.h 0) c.desc_at-d.ensures (indirect_bit c.desc_at-d.result c.is_indirect.result c.is_indirect.ensures c.if-is_indirect.true)

pub returns-else-is_indirect : goal.returns-else-is_indirect
returns-else-is_indirect c =
    let t : _ = tables_read c.args.self.now in
    size_noted c.desc_at-d.result (get_or t.shadow c.args.h no_desc) (get_or t.noted c.args.h 0) c.noted_at.result c.desc_at-d.ensures (direct_bit c.desc_at-d.result c.is_indirect.result c.is_indirect.ensures c.if-is_indirect.false) c.noted_at.ensures
