-- `queue::pop_used` meets its contract: its opening, finished.
use Rattle.std.proofs.Common.{◌≡◌, ap, ◌∙◌, arith}
use Rattle.rules.specs.Calls.{whole, open_pop}
use Rattle.views.specs.Tables.{queue_of}
use Rattle.tables.specs.Lent.{tables_held}
use Rattle.access.specs.Accesses.{memory}
use Rattle.asks.specs.Outcomes.{done_of}
use Rattle.queue.specs.Going.{pop_going, pop_held}
use Rattle.queue.proofs.pop_used.Goals.{After-open_pop-opened}
use Rattle.queue.proofs.pop_used.Goals as goal

-- it was opened over the tables that are held
held : (c : After-open_pop-opened) → done_of c.open_pop-opened.result (tables_held c.args.t.now) (memory c.args.one.now c.args.two.now c.args.pool.now)
    ≡ open_pop (queue_of c.args.c (tables_held c.args.t.now)) (memory c.args.one.now c.args.two.now c.args.pool.now) c.args.token c.args.list.now
held c =
    let s : _ = c.args in
    pop_held s.c s.t.now c.read.result c.read.ensures (memory s.one.now s.two.now s.pool.now) c.open_pop-opened.result s.token s.list.now c.open_pop-opened.ensures

pub finish-requires : goal.finish-requires
finish-requires c =
    let s : _ = c.args in
    pop_going s.c s.t.now s.one.now s.two.now s.pool.now c.open_pop-opened.result c.requires (record { avail = omega arith; last = omega arith }) s.token s.list.now (held (goal.at.finish-requires c).After-open_pop-opened)

pub returns-clause-done : goal.returns-clause-done
returns-clause-done c =
    c.finish.ensures.moved ∙ ap (whole c.args.c.n) (held (goal.at.returns-clause-done c).After-open_pop-opened)
