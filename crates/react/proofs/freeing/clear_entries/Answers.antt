-- `react::freeing::clear_entries` meets its contract: what all entries become is what the rest become from where the loop stands.
use Rattle.std.proofs.Common.{◌∙◌}
use Rattle.tables.specs.Lent.{tables_held, same_loan_trans}
use Rattle.react.specs.Freeing.{clear_turn}
use Rattle.react.proofs.freeing.clear_entries.Goals as goal

pub loop-i-preserved : goal.loop-i-preserved
loop-i-preserved c = record {
  same = same_loan_trans _ _ _ c.loop-i.invariant.same c.put_entry.ensures.same_loan;
  rest =
      c.loop-i.invariant.rest
      ∙ clear_turn (tables_held c.loop-i.t) (tables_held c.put_entry.new.self) c.args.from c.loop-i.i c.args.count c.put_entry.ensures.stored c.loop-i-test.true;
}
