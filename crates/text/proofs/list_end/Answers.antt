-- `text::list_end` meets its contract: by whether the line ends there.
use mathlib.Core.Path.{◌≡◌, sym, ◌∙◌}
use mathlib.Core.Bool.{true}
use Prim.Native.Nat.{◌+◌, ◌≤◌}
use native.Mathlib.Omega.{arith}
use lib.ListN.{length}
use Rattle.text.specs.Words.{newline}
use Rattle.text.specs.Text.{stands}
use Rattle.text.specs.Laws.{stands_fits}
use Rattle.text.proofs.list_end.Goals as goal

pub overflow_add-result : goal.overflow_add-result
overflow_add-result c =
    let s : _ = c.args in
    let e : stands newline s.src.now s.at ≡ true = sym c.stands.ensures ∙ c.if-stands.true in
    let f : s.at + 1 ≤ length s.src.now = stands_fits newline s.src.now s.at e (omega arith) in
    omega arith
