-- `replay::size_at` meets its contract: the size that was read is within its width.
use mathlib.Core.Path.{sym, ◌∙◌}
use native.Mathlib.Omega.{arith}
use Rattle.text.specs.Text.{read}
use Rattle.text.specs.Laws.{told_some}
use Rattle.replay.specs.Words.{word_size}
use Rattle.replay.specs.Laws.{value_within}
use Rattle.replay.proofs.size_at.Goals as goal

pub overflow_cast-size : goal.overflow_cast-size
overflow_cast-size c =
    let n : _ = c.in_ok-size.size in
    let e : _ = told_some _ n (rw c.from.ensures at (sym c.field.ensures ∙ c.in_ok-size.was)) in
    let low : _ = value_within word_size 65535 c.args.src.now 0 (read n.value n.at) (sym e) in
    omega (arith, low)
