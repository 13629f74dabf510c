-- `record::Queue::run` meets its contract: the tables are lent with room for 64 descriptors, and an allowed size is no more.
use Rattle.std.specs.Prelude.{refl}
use Rattle.record.specs.Lent.{lends_room}
use Rattle.record.proofs.Queue.run.Goals as goal

pub run-done-requires : goal.run-done-requires
run-done-requires c = lends_room c.args.self _ refl
