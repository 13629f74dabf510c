-- `owning::Owning::poll` meets its contract: refused by its number, or gone on with.
use mathlib.Core.Path.{sym, ap, ◌∙◌}
use Rattle.access.specs.Accesses.{memory}
use Rattle.owning.specs.Owned.{own_of}
use Rattle.lists.specs.Pick.{first}
use Rattle.rules.specs.Refused.{refusal_number, refusal_some}
use Rattle.rules.specs.Owning.{poll_tests}
use Rattle.owning.specs.Cases.{poll_no, poll_yes}
use Rattle.owning.proofs.Owning.poll.Goals as goal

pub returns-in-Err : goal.returns-in-Err
returns-in-Err c =
    c.refused.ensures (memory c.args.one.now c.args.two.now c.args.pool.now) c.args.store.now
    ∙ poll_no (own_of c.args.self) (memory c.args.one.now c.args.two.now c.args.pool.now) c.args.store.now (refusal_number c.in-Err.why) (c.in-Err.ensures ∙ ap (λ f. first (poll_tests (own_of c.args.self) f)) c.own_fits-fit.ensures) (refusal_some c.in-Err.why)

pub returns : goal.returns
returns c =
    c.poll_ready.ensures c.args.store.now
    ∙ poll_yes (own_of c.args.self) (memory c.args.one.now c.args.two.now c.args.pool.now) c.args.store.now (sym (c.in_default.ensures ∙ ap (λ f. first (poll_tests (own_of c.args.self) f)) c.own_fits-fit.ensures))
