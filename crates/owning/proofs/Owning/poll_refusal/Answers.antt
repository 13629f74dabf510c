-- The queue's tables are lent with room for 64 descriptors, and an allowed size is no more.
use Rattle.record.specs.Lent.{lends_room}
use Rattle.owning.proofs.Owning.poll_refusal.Goals as goal

pub poll_refusal-requires : goal.poll_refusal-requires
poll_refusal-requires c = lends_room c.args.self.now.queue _ c.tables.ensures.has_room
