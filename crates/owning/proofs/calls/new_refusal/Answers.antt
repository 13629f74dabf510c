-- The queue's tables are lent with room for 64 descriptors, and an allowed size is no more.
use Rattle.record.specs.Lent.{lends_room}
use Rattle.owning.proofs.calls.new_refusal.Goals as goal

pub new_refusal-requires : goal.new_refusal-requires
new_refusal-requires c = lends_room c.args.queue.now _ c.tables.ensures.has_room
