-- `driven::start` is the method `new`, whose contract is all that demand 3 asks of a made queue.
use Rattle.driven.proofs.Driven.{starts}
use Rattle.driven.proofs.start.Goals as goal

pub returns : goal.returns
returns c = starts _ _ _ _ c.new.ensures
