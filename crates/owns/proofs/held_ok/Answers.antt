-- The answer is the held clause: with nothing held all are out.
use mathlib.Core.Path.{◌∙◌}
use Rattle.views.specs.Tables.{queue_of}
use Rattle.tables.specs.Lent.{tables_read}
use Rattle.owns.specs.Turns.{but_nothing}
use Rattle.owns.proofs.held_ok.Goals as goal

pub returns-in-None : goal.returns-in-None
returns-in-None c =
    rw c.in-None.is (c.all_out_but.ensures ∙ but_nothing (queue_of c.args.c (tables_read c.args.t.now)))
