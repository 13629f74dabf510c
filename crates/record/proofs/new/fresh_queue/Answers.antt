-- `record::new::fresh_queue` meets its contract: words that are 0 but for n linked nexts say the fresh tables.
use Rattle.std.proofs.Common.{◌≡◌, ap, ◌∙◌, arith}
use Rattle.rules.specs.declared.Open.TheVariants.{Idle}
use Rattle.rules.specs.New.{zero_counts, fresh_queue}
use Rattle.views.specs.Fresh.{blank_tables, fresh_tables}
use Rattle.record.specs.declared.Ask.{Ask}
use Rattle.record.specs.Asked.{ask_of}
use Rattle.record.proofs.new.fresh_queue.Goals as goal

pub returns : goal.returns
returns c =
    let a : Ask = c.args.a in
    let tables : blank_tables 64 c.link_nexts.new.halves ≡ (fresh_queue (ask_of a)).tables =
    ap (blank_tables 64) c.link_nexts.ensures ∙ fresh_tables 64 a.n (omega arith) in
    λ i. record {
      n = a.n;
      modes = a.modes;
      base = c.pool_base.ensures i;
      counts = zero_counts;
      tables = tables i;
      call = Idle;
    }
