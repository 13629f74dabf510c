-- `replay_main::whole` meets its contract: in room for the longest, all of a replay's text is written. Assumes nothing.
use mathlib.Core.Path.{◌≡◌, sym, ap, ◌∙◌}
use mathlib.Core.List.{List}
use Prim.Native.Nat.{ℕ, ◌≤◌}
use native.Mathlib.Omega.{arith}
use borrow.Author.Rules.{rules}
use lib.ListN.{length, take, length-take}
use Rattle.replay.specs.Length.{longest, all_written}
use Rattle.replay_main.proofs.whole.Goals as goal

pub returns : goal.returns
returns c =
    let room : longest ≤ length c.args.out.now = search rules in
    let all = all_written c.args.src.now room c.replay.ensures in
    let out : List ℕ = c.replay.new.out in
    let count : ℕ = c.replay.result in
    let counted : count ≡ length (take count out) = all.0 ∙ ap length (sym all.1) in record { prefix_len = (omega (arith, counted, length-take count out), counted); out_after = all.1 }
