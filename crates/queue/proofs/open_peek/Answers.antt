-- `queue::open_peek` meets its contract: refused, or opened.
use Rattle.std.proofs.Common.{sym, ap, ◌∙◌}
use Rattle.virtio.specs.Memory.{Memory}
use Rattle.rules.specs.declared.Open.TheVariants.{PeekIdx}
use Rattle.rules.specs.Record.{Queue, with_call}
use Rattle.rules.specs.Calls.{call_refusal, opened}
use Rattle.views.specs.Tables.{queue_of}
use Rattle.tables.specs.Lent.{tables_read}
use Rattle.access.specs.Accesses.{memory}
use Rattle.asks.specs.Outcomes.{done_of}
use Rattle.asks.specs.Refused.{says_no, says_yes}
use Rattle.queue.specs.Opened.{peek_opening}
use Rattle.queue.proofs.open_peek.Goals as goal

pub returns-in-Err : goal.returns-in-Err
returns-in-Err c =
    let s : _ = c.args in
    let q : Queue = queue_of s.c (tables_read s.t.now) in
    let m : Memory = memory s.one.now s.two.now s.pool.now in
    says_no s.c (tables_read s.t.now) m (opened (with_call q PeekIdx) m) (call_refusal q m) c.in-Err.refusal c.refused.result c.refused.ensures c.in-Err.ensures.number
    ∙ sym (peek_opening q m)

pub returns-in-Ok : goal.returns-in-Ok
returns-in-Ok c =
    let s : _ = c.args in
    let q : Queue = queue_of s.c (tables_read s.t.now) in
    let m : Memory = memory s.one.now s.two.now s.pool.now in
    says_yes q m (opened (with_call q PeekIdx) m) (done_of c.opened.result (tables_read s.t.now) m) (call_refusal q m) (sym c.in-Ok.ensures.number)
    (ap (λ y. done_of y (tables_read s.t.now) m) c.opened.ensures)
    ∙ sym (peek_opening q m)
