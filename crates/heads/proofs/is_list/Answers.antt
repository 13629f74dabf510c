-- `heads::is_list` meets its contract: the flag is bit 2.
use Rattle.std.specs.Prelude.{slice_index}
use Rattle.virtio.proofs.Flags.{flag_set}
use Rattle.heads.proofs.is_list.Goals as goal

pub returns : goal.returns
returns c = flag_set (slice_index c.args.f.now.flags.now c.args.h) 2
