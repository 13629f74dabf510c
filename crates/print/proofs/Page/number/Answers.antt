-- `Page::number` meets its contract: the digits that io makes of the number are its decimal.
use Rattle.std.proofs.Common.{◌≡◌, ◌∙◌, subst, List, ◌++◌, ℕ, ◌<◌, ◌^◌, arith, take}
use Rattle.print.specs.Page.{Says}
use Rattle.print.specs.Print.{decimal}
use Rattle.print.specs.Laws.{decimal_is_lem}
use Rattle.print.proofs.Page.number.Goals as goal

pub returns : goal.returns
returns c =
    let n : ℕ = c.args.value in
    let r : ℕ = c.decimal-count.result in
    let narrow : n < 2 ^ 64 = omega arith in
    let same : take r c.decimal-count.new.out ≡ decimal n = c.decimal-count.ensures.digits ∙ decimal_is_lem n r narrow c.decimal-count.ensures.len in
    subst (λ (t : List ℕ). Says c.args.self.now c.text.new.self t) same c.text.ensures
