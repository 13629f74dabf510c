-- `record::Queue::should_notify` meets its contract: the tables are lent with room for 64 descriptors, and an allowed size is no more.
use Rattle.record.specs.Lent.{lends_room}
use Rattle.record.proofs.Queue.should_notify.Goals as goal

pub should_notify-done-requires : goal.should_notify-done-requires
should_notify-done-requires c = lends_room c.args.self _ c.tables.ensures.has_room
