-- Where no call of the queue is refused its record is well formed, and so ready.
use Rattle.std.proofs.Common.{arith, sym}
use Rattle.views.specs.Tables.{queue_of}
use Rattle.tables.specs.Lent.{tables_read}
use Rattle.laws.specs.Allowed.{call_allowed}
use Rattle.refusals.specs.Checked.{ready_read}
use Rattle.owns.proofs.new_refusal.Goals as goal

pub in_free_order-requires : goal.in_free_order-requires
in_free_order-requires c =
    ready_read c.args.c c.args.t.now c.requires (record { avail = omega arith; last = omega arith }) (call_allowed (queue_of c.args.c (tables_read c.args.t.now)) c.args.fit (sym c.in_ok-may_call.ensures)).well
