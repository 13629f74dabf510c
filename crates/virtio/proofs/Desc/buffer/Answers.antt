-- `virtio::Desc::buffer` meets its contract: an output's flag is bit 1.
use Rattle.virtio.proofs.Flags.{flag_set}
use Rattle.virtio.proofs.Desc.buffer.Goals as goal

pub returns : goal.returns
returns c = λ i. record { addr = c.args.self.addr; len = c.args.self.len; output = flag_set c.args.self.flags 1 i }
