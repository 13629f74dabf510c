-- `buffers::gathering::gather` meets its contract, by what a turn of each loop copies or passes by.
use Rattle.std.proofs.Common.{◌≡◌, length, List, ℕ, ◌≤◌, ap, ap₂, sym, ◌∙◌, add-one, arith}
use Rattle.virtio.specs.declared.Buffer.{Buffer}
use Rattle.opens.specs.Given.{given}
use Rattle.opens.specs.Turns.{given_length}
use Rattle.buffers.specs.declared.gathering.Gathered.{Gathered}
use Rattle.buffers.specs.Gather.{none_of, kept, passed, filled, filled_none, filled_next}
use Rattle.buffers.proofs.Reach.{filled_done, passed_by, behind, few_most}
use Rattle.buffers.proofs.gathering.gather.Goals as goal

pub loop-i-init : goal.loop-i-init
loop-i-init c = c.none-g.ensures ∙ (ap none_of (sym (given_length _ _ _)) ∙ filled_none _)

pub loop-i-preserved : goal.loop-i-preserved
loop-i-preserved c =
    let xs : List Buffer = given c.args.addrs.now c.args.sizes.now c.args.outs.now in
    c.keep.ensures
    ∙ (ap₂ (λ g b. kept g c.loop-i.i b) c.loop-i.invariant c.buffer_at.ensures
    ∙ (filled_next xs c.loop-i.i ∙ ap (filled xs) (sym (add-one c.loop-i.i))))

pub returns-then-g : goal.returns-then-g
returns-then-g c =
    let xs : List Buffer = given c.args.addrs.now c.args.sizes.now c.args.outs.now in
    let n : length xs ≡ length c.args.addrs.now = given_length c.args.addrs.now c.args.sizes.now c.args.outs.now in
    let l : 65 ≤ c.loop-i-2.i = behind (length c.args.addrs.now) c.few-i.result c.loop-i-2.i c.few-i.ensures (omega (arith, c.loop-i-2.auto.i)) (omega arith) in
    c.loop-i-2.invariant ∙ filled_done xs c.loop-i-2.i (omega arith) l (ap (λ (g : Gathered). g.mixed) (sym c.loop-i-2.invariant) ∙ c.if-g.true)

pub loop-i-2-preserved : goal.loop-i-2-preserved
loop-i-2-preserved c =
    let xs : List Buffer = given c.args.addrs.now c.args.sizes.now c.args.outs.now in
    let i : ℕ = c.loop-i-2.i in
    let l : 65 ≤ i = behind (length c.args.addrs.now) c.few-i.result i c.few-i.ensures (omega (arith, c.loop-i-2.auto.i)) (omega arith) in
    c.pass.ensures
    ∙ (ap₂ passed c.loop-i-2.invariant (ap (λ (b : Buffer). b.output) c.buffer_at-in-loop-i-2.ensures)
    ∙ (passed_by xs i l ∙ ap (filled xs) (sym (add-one i))))

pub returns : goal.returns
returns c =
    let xs : List Buffer = given c.args.addrs.now c.args.sizes.now c.args.outs.now in
    let most : c.few-i.result ≤ length c.args.addrs.now = few_most (length c.args.addrs.now) c.few-i.result c.few-i.ensures in
    c.loop-i-2.invariant ∙ ap (filled xs) (omega (arith, most, given_length c.args.addrs.now c.args.sizes.now c.args.outs.now))
