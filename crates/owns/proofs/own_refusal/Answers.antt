-- `owns::own_refusal` meets its contract: the record's check, then memory and store.
use mathlib.Core.Path.{◌≡◌, sym, ◌∙◌}
use Rattle.std.proofs.Common.{rules}
use Rattle.rules.specs.Owning.{own_broken}
use Rattle.owns.specs.Numbers.{told_bad, told_well}
use Rattle.owns.specs.Owns.{owning_in}
use Rattle.owns.specs.Refused.{lent_bad, lent_short, lent_told}
use Rattle.owns.proofs.own_refusal.Goals.{Else-is_err}
use Rattle.owns.proofs.own_refusal.Goals as goal

-- past the first test it is not broken
sound : (c : Else-is_err) → own_broken (owning_in c.args.c c.args.t.now c.args.own) ≡ 0
sound c = told_well (owning_in c.args.c c.args.t.now c.args.own) c.own_broken.result c.own_broken.ensures (sym c.is_err.ensures.value ∙ c.if-is_err.false)

pub returns-then-is_err : goal.returns-then-is_err
returns-then-is_err c =
    lent_bad (owning_in c.args.c c.args.t.now c.args.own) c.args.fit (told_bad (owning_in c.args.c c.args.t.now c.args.own) c.own_broken.result c.own_broken.ensures (sym c.is_err.ensures.value ∙ c.if-is_err.true))

pub returns-then-not-fit : goal.returns-then-not-fit
returns-then-not-fit c =
    lent_short (owning_in c.args.c c.args.t.now c.args.own) c.args.fit (sound (goal.at.returns-then-not-fit c).Else-is_err) (search rules)

pub returns : goal.returns
returns c =
    lent_told (owning_in c.args.c c.args.t.now c.args.own) c.args.fit (sound (goal.at.returns c).Else-is_err) (search rules)
