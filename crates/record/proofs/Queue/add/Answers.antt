-- `record::Queue::add` meets its contract: the tables are lent with room for 64 descriptors, and an allowed size is no more.
use Rattle.std.specs.Prelude.{refl}
use Rattle.record.specs.Lent.{lends_room}
use Rattle.record.proofs.Queue.add.Goals as goal

pub add-done-requires : goal.add-done-requires
add-done-requires c = lends_room c.args.self _ refl
