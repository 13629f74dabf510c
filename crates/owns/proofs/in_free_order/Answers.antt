-- The answer is whether the free list is 0, 1, .. n-1. The loop's invariant: it is whether the rest of the list goes on so.
use mathlib.Core.Path.{sym, ap, subst, ◌∙◌}
use Prim.Native.Nat.{ℕ, ◌+◌, ◌<◌}
use native.Mathlib.Omega.{arith}
use Rattle.views.specs.Tables.{queue_of}
use Rattle.tables.specs.Lent.{tables_read}
use Rattle.owns.specs.Turns.{order_rest, order_used, order_start, order_turn, order_stop, order_end}
use Rattle.owns.proofs.in_free_order.Goals as goal

pub returns-then-c-ne0 : goal.returns-then-c-ne0
returns-then-c-ne0 c =
    order_used (queue_of c.args.c (tables_read c.args.t.now)) c.requires.good.well.used c.if-c-ne0.true

pub loop-i-init : goal.loop-i-init
loop-i-init c =
    (c.requires.good.well.free, order_start (queue_of c.args.c (tables_read c.args.t.now)) c.if-c-ne0.false)

pub returns-then-at-i : goal.returns-then-at-i
returns-then-at-i c =
    sym (c.loop-i.invariant.1 ∙ order_stop (queue_of c.args.c (tables_read c.args.t.now)) c.loop-i.at c.loop-i.i c.loop-i-test.true c.if-at-i.true)

pub loop-i-preserved : goal.loop-i-preserved
loop-i-preserved c =
    let at : ℕ = c.loop-i.at in
    let i : ℕ = c.loop-i.i in
    let b : c.next_at-at.result < c.args.c.n = subst (λ x. x < c.args.c.n) (sym c.next_at-at.ensures) (c.requires.good.well.nexts at c.loop-i.invariant.0) in
    (b, c.loop-i.invariant.1 ∙ order_turn (queue_of c.args.c (tables_read c.args.t.now)) at i c.loop-i-test.true c.if-at-i.false ∙ ap (λ x. order_rest (queue_of c.args.c (tables_read c.args.t.now)) x (i + 1)) (sym c.next_at-at.ensures))

pub returns : goal.returns
returns c =
    sym (c.loop-i.invariant.1 ∙ order_end (queue_of c.args.c (tables_read c.args.t.now)) c.loop-i.at c.loop-i.i (omega arith))
