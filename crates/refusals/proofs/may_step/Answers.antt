-- `refusals::may_step` meets its contract: the record's check, then the regions.
use Rattle.std.proofs.Common.{◌≡◌, sym, ◌∙◌}
use Rattle.std.proofs.lemmas.Result.{err_from_is_err_and}
use Rattle.rules.specs.WellFormed.{well_formed}
use Rattle.views.specs.Tables.{queue_of}
use Rattle.tables.specs.Lent.{tables_read}
use Rattle.refusals.specs.Told.{told_well}
use Rattle.refusals.specs.Refusals.{step_stops, step_goes}
use Rattle.refusals.proofs.may_step.Goals.{After-is_ok}
use Rattle.refusals.proofs.may_step.Goals as goal

-- what the code was told of the record
told : (c : After-is_ok) → c.is_ok.result ≡ well_formed (queue_of c.args.c (tables_read c.args.t.now))
told c = let q : _ = queue_of c.args.c (tables_read c.args.t.now) in c.is_ok.ensures.value ∙ told_well q c.broken.result c.broken.ensures

pub returns-in_err-refuse_unless : goal.returns-in_err-refuse_unless
returns-in_err-refuse_unless c =
    let q : _ = queue_of c.args.c (tables_read c.args.t.now) in
    let p = err_from_is_err_and c.from_residual.result c.from_residual.ensures.1 in
    rw (p.1, p.2) (step_stops q c.args.fit c.is_ok.result (told (goal.at.returns-in_err-refuse_unless c).After-is_ok) _ c.in_err-refuse_unless.ensures)

pub returns : goal.returns
returns c =
    let q : _ = queue_of c.args.c (tables_read c.args.t.now) in
    step_goes q c.args.fit c.is_ok.result (told (goal.at.returns c).After-is_ok) _ (sym c.in_ok-refuse_unless.ensures) c.refuse_unless-2.ensures
