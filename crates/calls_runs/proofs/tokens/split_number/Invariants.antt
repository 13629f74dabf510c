-- `calls_runs::tokens::split_number` ends: each digit leaves a shorter text.
use Rattle.std.proofs.Common.{length}
use Rattle.calls_runs.proofs.tokens.split_number.Given as goal

abbrev pub invariant-loop-rest : goal.invariant-loop-rest
invariant-loop-rest l = Unit {0}

abbrev pub decreases-loop-rest : goal.decreases-loop-rest
decreases-loop-rest l = length l.rest
