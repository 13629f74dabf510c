-- `opens::given::copy_given` meets its contract: a turn stores one more buffer, and behind the last one all are there.
use Rattle.std.proofs.Common.{◌≡◌, List, ℕ, ◌<◌, length, get_or, take, sym, ◌∙◌, arith, length-set, length-take-le, get_or-take, ext_get_or}
use Rattle.std.proofs.lemmas.List.{get_or-set_same, get_or-set_other}
use Rattle.lists.specs.Tests.{by_eq}
use Rattle.virtio.specs.declared.Buffer.{Buffer}
use Rattle.virtio.specs.Desc.{no_buffer}
use Rattle.opens.specs.Given.{given}
use Rattle.opens.specs.Turns.{given_length}
use Rattle.opens.proofs.given.copy_given.Goals as goal

pub loop-i-preserved : goal.loop-i-preserved
loop-i-preserved c =
    let l = c.loop-i in
    let b : Buffer = c.buffer_at.result in
    record {
      copied = λ k h. by_eq k l.i
          (λ e. rw e (get_or-set_same l.room l.i b no_buffer (omega (arith, l.invariant.as_long)) ∙ c.buffer_at.ensures))
          (λ e. get_or-set_other l.room l.i k b no_buffer e ∙ l.invariant.copied k (omega arith));
      as_long = length-set l.room l.i b ∙ l.invariant.as_long;
    }

pub returns : goal.returns
returns c =
    let l = c.loop-i in
    let n : ℕ = length c.args.addrs.now in
    let xs : List Buffer = given c.args.addrs.now c.args.lens.now c.args.sides.now in
    let m : length xs ≡ n = given_length c.args.addrs.now c.args.lens.now c.args.sides.now in
    let k : length (take n l.room) ≡ n = length-take-le n l.room (omega (arith, l.invariant.as_long)) in
    ext_get_or no_buffer (take n l.room) xs (k ∙ sym m)
    (λ i h. get_or-take n l.room i no_buffer (omega arith) ∙ l.invariant.copied i (omega arith))
