-- `Page::report` meets its contract: its five lines are written one after the other.
use mathlib.Core.List.{◌++◌}
use Rattle.print.specs.Page.{says_then}
use Rattle.print.proofs.Page.report.Goals as goal

pub returns : goal.returns
returns c = says_then _ _ (says_then _ _ (says_then _ _ (says_then _ _ c.text.ensures c.field.ensures) c.field-2.ensures) c.field-3.ensures) c.field-4.ensures
