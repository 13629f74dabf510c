-- `queue::finish` meets its contract: a refusal stays, and an opened call takes n + 4 steps at most.
use Rattle.std.proofs.Common.{ap, ◌∙◌, ◌+◌}
use Rattle.rules.specs.Refused.{result_number}
use Rattle.rules.specs.Calls.{opened, moves}
use Rattle.views.specs.Tables.{queue_of}
use Rattle.tables.specs.Lent.{tables_held}
use Rattle.access.specs.Accesses.{memory}
use Rattle.queue.specs.Going.{whole_no, whole_yes}
use Rattle.queue.proofs.finish.Goals as goal

pub returns-in-Err-clause-moved : goal.returns-in-Err-clause-moved
returns-in-Err-clause-moved c =
    let s : _ = c.args in
    whole_no s.n s.opened (tables_held s.t.now) (memory s.one.now s.two.now s.pool.now) _ c.in-Err.is

pub returns-in-Ok-clause-moved : goal.returns-in-Ok-clause-moved
returns-in-Ok-clause-moved c =
    let s : _ = c.args in
    let o : _ = opened (queue_of s.opened.core (tables_held s.t.now)) (memory s.one.now s.two.now s.pool.now) in
    c.moves.ensures.moved
    ∙ ap (λ k. moves (k + 4) o) c.from.ensures
    ∙ whole_yes s.n s.opened (tables_held s.t.now) (memory s.one.now s.two.now s.pool.now) (ap result_number c.in-Ok.is) (c.requires.opened (ap result_number c.in-Ok.is))
