-- `put` meets its contract: with room for it the text grows by the byte, and with none it already fills all that there is.
use mathlib.Core.List.{List}
use Prim.Native.Nat.{ℕ, ◌<◌, ◌≤◌}
use native.Mathlib.Omega.{arith}
use lib.ListN.{length}
use Rattle.print.specs.Laws.{put_room, put_full}
use Rattle.print.proofs.put.Goals as goal

pub returns-then-at-out : goal.returns-then-at-out
returns-then-at-out c =
    let out : List ℕ = c.args.out.now in
    let room : c.args.at < length out = omega arith in
    λ before text w. put_room before out c.args.at text c.args.b w room

pub returns-else-at-out : goal.returns-else-at-out
returns-else-at-out c =
    let out : List ℕ = c.args.out.now in
    let full : length out ≤ c.args.at = omega arith in
    λ before text w. put_full before out c.args.at text c.args.b w full
