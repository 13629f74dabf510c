-- `asks::may_begin` meets its contract: where a call is not refused the record was checked.
use Rattle.std.proofs.Common.{arith}
use Rattle.rules.specs.Calls.{call_tests}
use Rattle.lists.specs.Pick.{first}
use Rattle.views.specs.Tables.{queue_of}
use Rattle.tables.specs.Lent.{tables_read}
use Rattle.tables.specs.Ready.{ReadyRead}
use Rattle.laws.specs.Allowed.{call_allowed}
use Rattle.refusals.specs.Checked.{ready_read}
use Rattle.refusals.specs.Told.{where_ok}
use Rattle.asks.proofs.may_begin.Goals as goal

pub returns-clause-ready : goal.returns-clause-ready
returns-clause-ready c =
    let s : _ = c.args in
    let q : _ = queue_of s.c (tables_read s.t.now) in
    where_ok (ReadyRead s.c s.t.now) c.may_call.result (first (call_tests q c.fits.result)) c.may_call.ensures
    (λ z. ready_read s.c s.t.now c.requires (record { avail = omega arith; last = omega arith }) (call_allowed q c.fits.result z).well)
