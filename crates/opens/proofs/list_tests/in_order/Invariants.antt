-- `opens::list_tests::in_order` meets its contract: what is asked of the whole list is what is asked of it from the index on; behind an output, that every
-- buffer is one.
use Rattle.std.proofs.Common.{◌≡◌, drop}
use Rattle.std.specs.Prelude.{cond}
use Rattle.virtio.specs.Chain.{all_outputs, in_order}
use Rattle.opens.proofs.list_tests.in_order.Given as goal

abbrev pub invariant-loop-buffer : goal.invariant-loop-buffer
invariant-loop-buffer l =
    in_order l.list ≡ cond l.written (all_outputs (drop l.buffer-index l.list)) (in_order (drop l.buffer-index l.list))
