-- `buffers::gathering::stand_in` meets its contract: a short list stands for itself, and for a longer one 65 buffers do, which are in order as it is where that
-- is asked.
use Rattle.std.proofs.Common.{◌≡◌, List, length, take, ap, sym, ◌∙◌, arith, true≢false, length-take-le}
use Rattle.std.proofs.lemmas.List.{take_all}
use Rattle.virtio.specs.declared.Buffer.{Buffer}
use Rattle.virtio.specs.Chain.{in_order}
use Rattle.opens.specs.Given.{given}
use Rattle.opens.specs.Turns.{given_length}
use Rattle.buffers.proofs.Stands.{long_length, long_order}
use Rattle.buffers.proofs.gathering.stand_in.Goals as goal

pub returns-then-addrs-le64-clause-list : goal.returns-then-addrs-le64-clause-list
returns-then-addrs-le64-clause-list c =
    let n : length (given c.args.addrs.now c.args.sizes.now c.args.outs.now) ≡ length c.args.addrs.now = given_length _ _ _ in
    record { short = λ l. c.copy_given.ensures; long = λ l. absurd (omega arith); order = λ l o. absurd (omega arith) }

pub returns-then-ordered-clause-list : goal.returns-then-ordered-clause-list
returns-then-ordered-clause-list c =
    let xs : List Buffer = given c.args.addrs.now c.args.sizes.now c.args.outs.now in
    let n : length xs ≡ length c.args.addrs.now = given_length c.args.addrs.now c.args.sizes.now c.args.outs.now in
    let all : take 65 c.stand_in_for_longer.result ≡ c.stand_in_for_longer.result = take_all 65 c.stand_in_for_longer.result (omega arith) in record {
      short = λ l. absurd (omega arith);
      long = λ l. let k : length (take 65 c.stand_in_for_longer.result) ≡ length c.stand_in_for_longer.result = ap length all in omega (arith, ap length c.stand_in_for_longer.ensures, long_length xs l);
      order = λ l o. ap in_order (all ∙ c.stand_in_for_longer.ensures) ∙ long_order xs l;
    }

pub returns-else-ordered-clause-list : goal.returns-else-ordered-clause-list
returns-else-ordered-clause-list c =
    let xs : List Buffer = given c.args.addrs.now c.args.sizes.now c.args.outs.now in
    let n : length xs ≡ length c.args.addrs.now = given_length c.args.addrs.now c.args.sizes.now c.args.outs.now in record {
      short = λ l. absurd (omega arith);
      long = λ l. let k : length (take 65 c.args.room.now) ≡ 65 = length-take-le 65 c.args.room.now (omega arith) in omega arith;
      order = λ l o. absurd (true≢false (sym o ∙ c.if-ordered.false));
    }
