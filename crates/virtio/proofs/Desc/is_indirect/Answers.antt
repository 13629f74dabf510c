-- `virtio::Desc::is_indirect` meets its contract: the flag is bit 2.
use Rattle.virtio.proofs.Flags.{flag_set}
use Rattle.virtio.proofs.Desc.is_indirect.Goals as goal

pub returns : goal.returns
returns c = flag_set c.args.self.flags 2
