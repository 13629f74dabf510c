-- `buffers::gathering::gather` meets its contract: at `i`, the first `i` buffers are copied, or passed by.
use Rattle.std.proofs.Common.{◌≡◌}
use Rattle.opens.specs.Given.{given}
use Rattle.buffers.specs.Gather.{filled}
use Rattle.buffers.proofs.gathering.gather.Given as goal

abbrev pub invariant-loop-i : goal.invariant-loop-i
invariant-loop-i l = l.g ≡ filled (given l.addrs l.sizes l.outs) l.i

abbrev pub invariant-loop-i-2 : goal.invariant-loop-i-2
invariant-loop-i-2 l = l.g ≡ filled (given l.addrs l.sizes l.outs) l.i
