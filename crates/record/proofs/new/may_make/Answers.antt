-- `record::new::may_make` meets its contract: the tests stand in the order of `new_refusal`, and each refusal is that of the first that holds.
use Rattle.std.proofs.Common.{arith}
use Rattle.record.specs.Fine.{size_large}
use Rattle.record.proofs.new.may_make.Goals as goal
use Rattle.record.proofs.new.may_make.Goals.{then-a-gt64-via-then-a-gt64, then-a-gt64-via-else-a-gt64+then-not-size_ok}

pub returns-then-a-gt64 : goal.returns-then-a-gt64
returns-then-a-gt64 c =
    elim c.then-a-gt64.branch [
      | then-a-gt64-via-then-a-gt64 w ↦ simp (size_large c.args.a.n (omega arith))
      | then-a-gt64-via-else-a-gt64+then-not-size_ok w ↦ simp (← w.size_ok.ensures, w.if-not-size_ok.true)
    ]
