-- `buffers::gathering::stand_in_for_longer` meets its contract: 65 buffers are all that the copy of a longer list then has.
use Rattle.std.proofs.Common.{◌≡◌, length, List, ◌<◌, ap, sym, ◌∙◌, arith}
use Rattle.virtio.specs.declared.Buffer.{Buffer}
use Rattle.opens.specs.Given.{given}
use Rattle.opens.specs.Turns.{given_length}
use Rattle.buffers.specs.declared.gathering.Gathered.{Gathered}
use Rattle.buffers.specs.Gather.{gathered, shortened, shortened_cut, filled_count}
use Rattle.buffers.proofs.Stands.{long_is}
use Rattle.buffers.proofs.gathering.stand_in_for_longer.Goals as goal

pub returns : goal.returns
returns c =
    let xs : List Buffer = given c.args.addrs.now c.args.sizes.now c.args.outs.now in
    let n : length xs ≡ length c.args.addrs.now = given_length c.args.addrs.now c.args.sizes.now c.args.outs.now in
    let k : (gathered xs).count ≡ length xs = filled_count xs (length xs) in
    ap (λ (g : Gathered). g.list) (c.shorten.ensures.is ∙ (ap shortened c.gather-g.ensures ∙ sym (shortened_cut (gathered xs) (omega arith))))
    ∙ sym (long_is xs (omega arith))
