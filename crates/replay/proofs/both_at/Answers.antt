-- `replay::both_at` meets its contract: the outputs' line is read behind the inputs, of which there are at most 65.
use mathlib.Core.Path.{◌≡◌, ap, subst, sym, ◌∙◌}
use mathlib.Core.List.{List, []}
use Prim.Native.Nat.{ℕ}
use native.Mathlib.Omega.{arith}
use Rattle.std.specs.Prelude.{Result, Some}
use Rattle.std.specs.Result.{result_ok}
use Rattle.text.specs.declared.Side.{Side}
use Rattle.text.specs.Held.{Lists}
use Rattle.text.specs.Turns.{lists_few}
use Rattle.replay.specs.Words.{word_in}
use Rattle.replay.specs.Sides.{inputs, BothRead, both_read, holds_none_lem}
use Rattle.replay.proofs.both_at.Goals as goal

pub side_at-requires-2 : goal.side_at-requires-2
side_at-requires-2 c =
    let s : List ℕ = c.args.src.now in
    let f : Side = c.in_ok-ins.ins in
    let ins : Lists c.side_at.result c.side_at.new.list (inputs s c.args.at) = c.side_at.ensures [] (holds_none_lem c.args.list.now) in
    let fine : c.side_at.result ≡ Some f = c.ok_or.ensures.ok_part ∙ ap result_ok c.in_ok-ins.was in
    omega (arith, lists_few c.side_at.result f c.side_at.new.list word_in _ s c.args.at [] c.side_at.array_long ins fine)

pub returns : goal.returns
returns c =
    let s : List ℕ = c.args.src.now in
    let f : Side = c.in_ok-ins.ins in
    let ins : Lists c.side_at.result c.side_at.new.list (inputs s c.args.at) = c.side_at.ensures [] (holds_none_lem c.args.list.now) in
    let fine : c.side_at.result ≡ Some f = c.ok_or.ensures.ok_part ∙ ap result_ok c.in_ok-ins.was in
    subst (λ (r : Result Side ℕ). BothRead r c.side_at-2.new.list s c.args.at) (sym c.ok_or-2.ensures.value)
    (both_read ins f fine c.side_at-2.result (c.side_at-2.ensures (inputs s c.args.at).buffers (ins.holds f fine)))
