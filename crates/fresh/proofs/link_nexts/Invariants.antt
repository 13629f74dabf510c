-- `fresh::link_nexts` meets its contract. The loop goes up: what is left to do is to store the nexts from i on.
use Rattle.std.proofs.Common.{◌≡◌, ◌-◌}
use Rattle.std.proofs.lemmas.List.Edits.{sets}
use Rattle.rules.specs.New.{nexts_from}
use Rattle.fresh.proofs.link_nexts.Given as goal

abbrev pub invariant-loop-i : goal.invariant-loop-i
invariant-loop-i l = sets l.initial.halves 0 (nexts_from l.n 0) ≡ sets l.halves l.i (nexts_from (l.n - l.i) l.i)
