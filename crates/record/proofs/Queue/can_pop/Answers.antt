-- `record::Queue::can_pop` meets its contract: the tables are lent with room for 64 descriptors, and an allowed size is no more.
use Rattle.record.specs.Lent.{lends_room}
use Rattle.record.proofs.Queue.can_pop.Goals as goal

pub can_pop-done-requires : goal.can_pop-done-requires
can_pop-done-requires c = lends_room c.args.self _ c.tables.ensures.has_room
