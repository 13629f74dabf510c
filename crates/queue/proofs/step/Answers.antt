-- `queue::step` meets its contract: an access, done, and the reaction to what it gave.
use Rattle.std.proofs.Common.{ap, ◌∙◌}
use Rattle.rules.specs.Record.{Queue}
use Rattle.rules.specs.Step.{access}
use Rattle.views.specs.Tables.{queue_of}
use Rattle.tables.specs.Lent.{tables_held, reads_tables}
use Rattle.access.specs.Accesses.{memory, access_of}
use Rattle.queue.specs.Steps.{step_is}
use Rattle.queue.proofs.step.Goals as goal

pub returns-clause-moved : goal.returns-clause-moved
returns-clause-moved c =
    let s : _ = c.args in
    let q : Queue = queue_of s.c (tables_held s.t.now) in
    step_is q (memory s.one.now s.two.now s.pool.now) _ _ (access_of c.next_access-access.result) c.perform-number.result c.react.result
    (c.next_access-access.ensures.0 ∙ ap (λ u. access (queue_of s.c u) s.c.call) (reads_tables s.t.now c.read.result c.read.ensures))
    (c.perform-number.ensures (tables_held s.t.now)).0 (c.perform-number.ensures (tables_held s.t.now)).1 c.react.ensures.reacted
