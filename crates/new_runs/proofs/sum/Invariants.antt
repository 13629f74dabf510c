-- `new_runs::sum` stays in bounds: the total is below the modulus at each turn.
use Rattle.std.proofs.Common.{◌<◌}
use Rattle.new_runs.proofs.sum.Given as goal

abbrev pub invariant-loop-byte : goal.invariant-loop-byte
invariant-loop-byte l = l.total < 1000000007
