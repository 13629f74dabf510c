-- `record::Queue::peek_used` meets its contract: the tables are lent with room for 64 descriptors, and an allowed size is no more.
use Rattle.std.specs.Prelude.{refl}
use Rattle.record.specs.Lent.{lends_room}
use Rattle.record.proofs.Queue.peek_used.Goals as goal

pub peek_used-done-requires : goal.peek_used-done-requires
peek_used-done-requires c = lends_room c.args.self _ refl
