-- The answer is `size_ok`: each size that is matched is in its list, and no other is.
use Rattle.std.proofs.Common.{rules}
use Rattle.lists.specs.Once.{mem}
use Rattle.rules.specs.WellFormed.{size_ok}
use Rattle.heads.proofs.size_ok.Goals as goal

pub returns-in_default : goal.returns-in_default
unfolding size_ok mem
returns-in_default c = search rules

pub returns-in-1 : goal.returns-in-1
unfolding size_ok mem
returns-in-1 c = search rules

pub returns-in-1-2 : goal.returns-in-1-2
unfolding size_ok mem
returns-in-1-2 c = search rules

pub returns-in_default-2 : goal.returns-in_default-2
unfolding size_ok mem
returns-in_default-2 c = search rules
