-- The queue's tables are lent with room for 64 descriptors, and an allowed size is no more.
use Rattle.record.specs.Lent.{lends_room}
use Rattle.owning.proofs.Owning.broken.Goals as goal

pub own_broken-requires : goal.own_broken-requires
own_broken-requires c = lends_room c.args.self.queue _ c.tables.ensures.has_room
