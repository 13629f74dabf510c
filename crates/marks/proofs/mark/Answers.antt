-- `marks::mark` meets its contract: a run of one.
use Rattle.std.proofs.Common.{◌≡◌, ◌+◌, ◌≤◌, ◌<◌, refl, sym, ap, ◌∙◌, arith, Bool, true, false, not, List, ℕ, get_or, set}
use Rattle.std.proofs.lemmas.List.{set-get_or}
use Rattle.lists.specs.Marks.{mark_all}
use Rattle.lists.specs.Visited.{Met, MarkedRun}
use Rattle.marks.proofs.mark.Goals as goal

one : (before after : List Bool) (i : ℕ) (r : Bool) → MarkedRun before after i 1 r → (r ≡ not (get_or before i false)) × (after ≡ set before i true)
unfolding mark_all
one before after i true run =
    let was : get_or before i false ≡ false = run.new refl i (omega arith) (omega arith) in
    (rw was, run.then refl)
one before after i false run =
    let met : Met before i 1 = run.met refl in
    let from : i ≤ met.at = met.from in
    let below : met.at < i + 1 = met.below in
    let e : met.at ≡ i = omega arith in
    let was : get_or before i false ≡ true = ap (λ j. get_or before j false) (sym e) ∙ met.is in
    (rw was, run.stays refl ∙ sym (ap (λ b. set before i b) (sym was) ∙ set-get_or before i false))

pub returns : goal.returns
returns c = one _ _ c.args.i c.mark_run.result c.mark_run.ensures
