-- `asks::set_dev_notify` meets its contract: refused, or with event indices nothing, else one store of the flags.
use Rattle.std.proofs.Common.{sym, arith}
use Rattle.tables.specs.Lent.{tables_read}
use Rattle.access.specs.Accesses.{memory}
use Rattle.virtio.specs.Sizes.{front_inside}
use Rattle.asks.specs.Singles.{set_dev_notify_no, flags_left, flags_stored}
use Rattle.asks.proofs.set_dev_notify.Goals as goal

pub returns-in-Err : goal.returns-in-Err
returns-in-Err c =
    let s : _ = c.args in
    set_dev_notify_no s.c (tables_read s.t.now) (memory s.one.now s.two.now s.pool.now) c.refused.result c.in-Err.refusal c.refused.ensures c.in-Err.ensures.number s.wanted

pub returns-in-Ok : goal.returns-in-Ok
returns-in-Ok c =
    let s : _ = c.args in
    flags_left s.c (tables_read s.t.now) (memory s.one.now s.two.now s.pool.now) c.answered.result (sym c.in-Ok.ensures.number) s.wanted c.answered.ensures c.if-c.true

pub store-requires : goal.store-requires
store-requires c =
    omega (arith, c.in-Ok-2.ensures.fitting.one_of, c.avail_at.ensures, front_inside c.args.c.modes.legacy c.args.c.n)

pub returns-in-Ok-2 : goal.returns-in-Ok-2
returns-in-Ok-2 c =
    let s : _ = c.args in
    flags_stored s.c (tables_read s.t.now) (memory s.one.now s.two.now s.pool.now) c.answered-in-Ok-2.result (sym c.in-Ok-2.ensures.number) s.wanted c.store.new.s c.avail_at.result c.not_wanted.result c.answered-in-Ok-2.ensures c.if-c.false c.avail_at.ensures c.not_wanted.ensures c.store.ensures
