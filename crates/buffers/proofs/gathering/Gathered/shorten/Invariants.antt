-- `buffers::gathering::Gathered::shorten` meets its contract: the buffers before `b` are inputs, and the others as they were.
use Rattle.std.proofs.Common.{◌≡◌, ℕ, ◌<◌, ◌≤◌, get_or, length}
use Rattle.virtio.specs.Desc.{no_buffer}
use Rattle.buffers.specs.Gather.{as_input}
use Rattle.buffers.proofs.gathering.Gathered.shorten.Given as goal

abbrev pub invariant-loop-b : goal.invariant-loop-b
invariant-loop-b l = record {
  inputs : (k : ℕ) → k < l.b-index → get_or l.b-items k no_buffer ≡ as_input (get_or l.fn.self.list k no_buffer);
  others : (k : ℕ) → l.b-index ≤ k → get_or l.b-items k no_buffer ≡ get_or l.fn.self.list k no_buffer;
  as_long : length l.b-items ≡ length l.fn.self.list;
}
