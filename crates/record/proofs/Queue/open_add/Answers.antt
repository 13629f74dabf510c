-- `record::Queue::open_add` meets its contract: the tables are lent with room for 64 descriptors, and an allowed size is no more.
use Rattle.std.specs.Prelude.{refl}
use Rattle.record.specs.Lent.{lends_room}
use Rattle.record.proofs.Queue.open_add.Goals as goal

pub open_add-done-requires : goal.open_add-done-requires
open_add-done-requires c = lends_room c.args.self _ refl
