-- `text::digits` meets its contract: what the digits from the start on say is what those from i on say after the number so far.
use mathlib.Core.Path.{◌≡◌}
use lib.ListN.{drop}
use Rattle.text.specs.Text.{digits_in}
use Rattle.text.proofs.digits.Given as goal

abbrev pub invariant-loop-i : goal.invariant-loop-i
invariant-loop-i l = digits_in l.most (drop l.i l.src) l.i l.value ≡ digits_in l.most (drop l.at l.src) l.at 0
