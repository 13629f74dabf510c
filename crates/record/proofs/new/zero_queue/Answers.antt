-- `record::new::zero_queue` meets its contract: words that are all 0 say the tables of the all-zero record.
-- Assumes nothing.
use mathlib.Core.Path.{ap}
use Rattle.views.specs.Tables.{queue_of}
use Rattle.views.specs.Fresh.{zero_tables}
use Rattle.record.specs.Abs.{zero_core}
use Rattle.record.proofs.new.zero_queue.Goals as goal

pub returns : goal.returns
returns c = ap (queue_of zero_core) (zero_tables 64)
