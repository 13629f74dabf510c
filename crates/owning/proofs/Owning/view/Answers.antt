-- The answer is `own_view`: nothing of a broken record or of a short store, else the held part.
use mathlib.Core.Path.{◌≡◌, sym, ◌∙◌}
use Rattle.rules.specs.Owning.{own_broken}
use Rattle.laws.specs.OwnViews.{held_viewed}
use Rattle.owns.specs.Numbers.{told_bad, told_well}
use Rattle.owns.specs.Refused.{own_well}
use Rattle.owning.specs.Owned.{own_of}
use Rattle.owning.specs.Cases.{view_broken, view_short}
use Rattle.owning.proofs.Owning.view.Goals.{Else-is_err}
use Rattle.owning.proofs.Owning.view.Goals as goal

-- the record is whole, past the first test
whole : (c : Else-is_err) → own_broken (own_of c.args.self) ≡ 0
whole c = told_well (own_of c.args.self) c.broken.result c.broken.ensures (sym c.is_err.ensures.value ∙ c.if-is_err.false)

pub returns-then-is_err : goal.returns-then-is_err
returns-then-is_err c =
    view_broken (own_of c.args.self) c.args.store.now (told_bad (own_of c.args.self) c.broken.result c.broken.ensures (sym c.is_err.ensures.value ∙ c.if-is_err.true))

pub returns-then-store-self : goal.returns-then-store-self
returns-then-store-self c =
    view_short (own_of c.args.self) c.args.store.now (whole (goal.at.returns-then-store-self c).Else-is_err) c.if-store-self.true

pub held_part-requires-clause-self_value : goal.held_part-requires-clause-self_value
held_part-requires-clause-self_value c = own_well (own_of c.args.self) (whole (goal.at.held_part-requires-clause-self_value c).Else-is_err)

pub returns : goal.returns
returns c =
    c.held_part.ensures ∙ sym (held_viewed (own_of c.args.self) c.args.store.now (own_well (own_of c.args.self) (whole (goal.at.returns c).Else-is_err)) c.if-store-self.false)
