-- `buffers::gathering::Gathered::shorten` meets its contract: all buffers are inputs, and then the first has the side that is asked for.
use Rattle.std.proofs.Common.{◌≡◌, get_or, set, sym, ◌∙◌, arith, ext_get_or}
use Rattle.std.proofs.Math.ListN.{get_or-map}
use Rattle.std.specs.Prelude.{map}
use Rattle.std.proofs.lemmas.List.{length-map}
use Rattle.virtio.specs.Desc.{no_buffer}
use Rattle.buffers.specs.Gather.{as_input, shortened_cut}
use Rattle.buffers.specs.declared.gathering.Gathered.{Gathered}
use Rattle.buffers.proofs.gathering.Gathered.shorten.Goals as goal

pub returns-after-loop-b-clause-is : goal.returns-after-loop-b-clause-is
returns-after-loop-b-clause-is c =
    let g : Gathered = c.args.self.now in
    let one : get_or c.loop-b.b-items 0 no_buffer ≡ as_input (get_or g.list 0 no_buffer) = c.loop-b.invariant.inputs 0 (omega arith) in
    let all : c.loop-b.b-items ≡ map as_input g.list = ext_get_or no_buffer c.loop-b.b-items (map as_input g.list) (simp length-map c.loop-b.invariant.as_long)
    (λ k l. c.loop-b.invariant.inputs k (omega arith) ∙ sym (get_or-map as_input g.list k no_buffer)) in
    (λ i. record {
      count = 65;
      list = set (all i) 0 (record { addr = (one i).addr; len = (one i).len; output = g.mixed });
      written = g.written;
      mixed = g.mixed;
    })
    ∙ shortened_cut g (omega arith)
