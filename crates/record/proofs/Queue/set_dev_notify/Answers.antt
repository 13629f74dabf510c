-- `record::Queue::set_dev_notify` meets its contract: the tables are lent with room for 64 descriptors, and an allowed size is no more.
use Rattle.record.specs.Lent.{lends_room}
use Rattle.record.proofs.Queue.set_dev_notify.Goals as goal

pub set_dev_notify-done-requires : goal.set_dev_notify-done-requires
set_dev_notify-done-requires c = lends_room c.args.self _ c.tables.ensures.has_room
