-- `owning::Owning::new` meets its contract: refused by its number, or the store cleared and each token's buffer added.
use mathlib.Core.Path.{sym, ap, ◌∙◌}
use Rattle.lists.specs.Pick.{first}
use Rattle.rules.specs.Refused.{refusal_number, refusal_some}
use Rattle.rules.specs.Owning.{own_new_tests}
use Rattle.access.specs.Accesses.{memory}
use Rattle.record.specs.Abs.{abs}
use Rattle.owning.specs.Making.{new_no, new_yes}
use Rattle.owning.proofs.Owning.new.Goals as goal

pub returns-in-Err : goal.returns-in-Err
returns-in-Err c =
    c.not_made.ensures (memory c.args.one.now c.args.two.now c.args.pool.now) c.args.store.now
    ∙ new_no (abs c.args.queue) c.args.base c.args.size (memory c.args.one.now c.args.two.now c.args.pool.now) c.args.store.now (refusal_number c.in-Err.why) (c.in-Err.ensures ∙ ap (λ f. first (own_new_tests (abs c.args.queue) c.args.size f)) c.new_fits-fit.ensures) (refusal_some c.in-Err.why)

pub returns : goal.returns
returns c =
    new_yes (abs c.args.queue) c.args.base c.args.size (memory c.args.one.now c.args.two.now c.args.pool.now) c.args.store.now _ _ (sym (c.in_default.ensures ∙ ap (λ f. first (own_new_tests (abs c.args.queue) c.args.size f)) c.new_fits-fit.ensures)) c.add_all-after.ensures c.clear.ensures
