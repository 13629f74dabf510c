-- Its address and size are those of the buffers that the record has.
use Rattle.owning.proofs.Owning.buffer.Goals as goal

pub buffer-requires : goal.buffer-requires
buffer-requires c = rw c.buffers.ensures c.requires
