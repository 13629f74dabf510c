-- `queue::open_pop` meets its contract: refused, or opened with the token and whether the list matched.
use Rattle.std.proofs.Common.{sym, ap, ◌∙◌}
use Rattle.virtio.specs.Memory.{Memory}
use Rattle.rules.specs.declared.Open.TheVariants.{PopIdx}
use Rattle.rules.specs.Record.{Queue, with_call}
use Rattle.rules.specs.Calls.{call_refusal, opened, matches}
use Rattle.views.specs.Tables.{queue_of}
use Rattle.tables.specs.Lent.{tables_read}
use Rattle.access.specs.Accesses.{memory}
use Rattle.asks.specs.Outcomes.{done_of}
use Rattle.asks.specs.Refused.{says_no, says_yes}
use Rattle.queue.specs.Opened.{pop_opening}
use Rattle.queue.proofs.open_pop.Goals as goal

pub returns-in-Err : goal.returns-in-Err
returns-in-Err c =
    let s : _ = c.args in
    let q : Queue = queue_of s.c (tables_read s.t.now) in
    let m : Memory = memory s.one.now s.two.now s.pool.now in
    says_no s.c (tables_read s.t.now) m (opened (with_call q (PopIdx s.token (matches q s.token s.list.now))) m) (call_refusal q m) c.in-Err.refusal c.refused.result c.refused.ensures c.in-Err.ensures.number
    ∙ sym (pop_opening q m s.token s.list.now)

pub returns-in-Ok : goal.returns-in-Ok
returns-in-Ok c =
    let s : _ = c.args in
    let q : Queue = queue_of s.c (tables_read s.t.now) in
    let m : Memory = memory s.one.now s.two.now s.pool.now in
    says_yes q m (opened (with_call q (PopIdx s.token (matches q s.token s.list.now))) m) (done_of c.opened.result (tables_read s.t.now) m) (call_refusal q m) (sym c.in-Ok.ensures.number)
    (ap (λ y. done_of y (tables_read s.t.now) m) c.opened.ensures ∙ ap (λ b. opened (with_call q (PopIdx s.token b)) m) c.matches-matched.ensures)
    ∙ sym (pop_opening q m s.token s.list.now)
