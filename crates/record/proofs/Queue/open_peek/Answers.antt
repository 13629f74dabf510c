-- `record::Queue::open_peek` meets its contract: the tables are lent with room for 64 descriptors, and an allowed size is no more.
use Rattle.record.specs.Lent.{lends_room}
use Rattle.record.proofs.Queue.open_peek.Goals as goal

pub open_peek-done-requires : goal.open_peek-done-requires
open_peek-done-requires c = lends_room c.args.self _ c.tables.ensures.has_room
