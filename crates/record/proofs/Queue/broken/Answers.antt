-- `record::Queue::broken` meets its contract: the tables are lent with room for 64 descriptors, and an allowed size is no more.
use Rattle.record.specs.Lent.{lends_room}
use Rattle.record.proofs.Queue.broken.Goals as goal

pub broken-requires : goal.broken-requires
broken-requires c = lends_room c.args.self _ c.tables.ensures.has_room
