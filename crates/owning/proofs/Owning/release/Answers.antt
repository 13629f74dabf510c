-- `owning::Owning::release` meets its contract: refused by its number, or gone on with.
use mathlib.Core.Path.{sym, ap, ◌∙◌}
use Rattle.access.specs.Accesses.{memory}
use Rattle.owning.specs.Owned.{own_of}
use Rattle.lists.specs.Pick.{first}
use Rattle.rules.specs.Refused.{refusal_number, refusal_some}
use Rattle.rules.specs.Owning.{release_tests}
use Rattle.owning.specs.Cases.{release_no, release_yes}
use Rattle.owning.proofs.Owning.release.Goals as goal

pub returns-in-Err : goal.returns-in-Err
returns-in-Err c =
    c.refused.ensures (memory c.args.one.now c.args.two.now c.args.pool.now) c.args.store.now
    ∙ release_no (own_of c.args.self) (memory c.args.one.now c.args.two.now c.args.pool.now) c.args.store.now (refusal_number c.in-Err.why) (c.in-Err.ensures ∙ ap (λ f. first (release_tests (own_of c.args.self) f)) c.own_fits-fit.ensures) (refusal_some c.in-Err.why)

pub returns : goal.returns
returns c =
    c.give_back_held.ensures c.args.store.now
    ∙ release_yes (own_of c.args.self) (memory c.args.one.now c.args.two.now c.args.pool.now) c.args.store.now (sym (c.in_default.ensures ∙ ap (λ f. first (release_tests (own_of c.args.self) f)) c.own_fits-fit.ensures))
