-- `opens::given::copy_given` meets its contract: the buffers before `i` are copied.
use Rattle.std.proofs.Common.{◌≡◌, ℕ, ◌<◌, get_or, length}
use Rattle.virtio.specs.Desc.{no_buffer}
use Rattle.opens.specs.Given.{given}
use Rattle.opens.proofs.given.copy_given.Given as goal

abbrev pub invariant-loop-i : goal.invariant-loop-i
invariant-loop-i l = record {
  copied : (k : ℕ) → k < l.i → get_or l.room k no_buffer ≡ get_or (given l.addrs l.lens l.sides) k no_buffer;
  as_long : length l.room ≡ length l.initial.room;
}
