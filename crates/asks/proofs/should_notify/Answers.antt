-- `asks::should_notify` meets its contract: refused, or one load of the event index or of the flags.
use Rattle.std.proofs.Common.{sym, ap, ◌∙◌, ◌%◌}
use Rattle.std.specs.Prelude.{leb, eqb}
use Rattle.lists.specs.Pick.{one_if}
use Rattle.tables.specs.Lent.{tables_read}
use Rattle.access.specs.Accesses.{memory}
use Rattle.asks.specs.Singles.{number_of, should_notify_no, by_event_lem, by_flags}
use Rattle.asks.proofs.should_notify.Goals as goal

pub returns-in-Err : goal.returns-in-Err
returns-in-Err c =
    let s : _ = c.args in
    should_notify_no s.c (tables_read s.t.now) (memory s.one.now s.two.now s.pool.now) c.refused.result c.in-Err.refusal c.refused.ensures c.in-Err.ensures.number

pub returns-in-Ok : goal.returns-in-Ok
returns-in-Ok c =
    let s : _ = c.args in
    by_event_lem s.c (tables_read s.t.now) (memory s.one.now s.two.now s.pool.now) c.answered.result (sym c.in-Ok.ensures.number) c.load_used-event.result c.from.result c.answered.ensures c.if-c.true (c.load_used-event.ensures s.pool.now) (c.from.ensures ∙ number_of (leb c.after.result s.c.avail_idx) ∙ ap (λ k. one_if (leb k s.c.avail_idx)) c.after.ensures)

pub returns-in-Ok-2 : goal.returns-in-Ok-2
returns-in-Ok-2 c =
    let s : _ = c.args in
    by_flags s.c (tables_read s.t.now) (memory s.one.now s.two.now s.pool.now) c.answered-in-Ok-2.result (sym c.in-Ok-2.ensures.number) c.load_used-flags.result c.from-in-Ok-2.result c.answered-in-Ok-2.ensures c.if-c.false (c.load_used-flags.ensures s.pool.now) (c.from-in-Ok-2.ensures ∙ number_of (eqb (c.load_used-flags.result % 2) 0))
