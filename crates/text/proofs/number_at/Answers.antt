-- `text::number_at` meets its contract: by the first byte.
use mathlib.Core.Path.{◌≡◌, sym, ap, ◌∙◌}
use mathlib.Core.Bool.{true, false}
use lib.ListN.{get_or}
use Rattle.text.specs.Text.{digit, told}
use Rattle.text.specs.Laws.{number_over, number_zero, number_digits, number_bad}
use Rattle.text.proofs.number_at.Goals as goal

pub returns-in_err-first : goal.returns-in_err-first
returns-in_err-first c =
    let s : _ = c.args in
    c.from_residual.ensures ∙ ap told (sym (number_over s.most s.src.now s.at c.in_err-first.ensures.lookup.3))

pub returns-then-first-eq48 : goal.returns-then-first-eq48
returns-then-first-eq48 c =
    let s : _ = c.args in
    let here : _ = c.in_ok-first.ensures.lookup.3 in
    ap told (sym (number_zero s.most s.src.now s.at here.0 (sym (here.1 0) ∙ c.if-first-eq48.true)))

pub returns-then-is_ascii_digit : goal.returns-then-is_ascii_digit
returns-then-is_ascii_digit c =
    let s : _ = c.args in
    let here : _ = c.in_ok-first.ensures.lookup.3 in
    let e : digit (get_or s.src.now s.at 0) ≡ true = ap digit (sym (here.1 0)) ∙ sym c.is_ascii_digit.ensures.value ∙ c.if-is_ascii_digit.true in
    c.digits.ensures
    ∙ ap told (sym (number_digits s.most s.src.now s.at here.0 (λ e. c.if-first-eq48.false (here.1 0 ∙ e)) e))

pub returns-else-is_ascii_digit : goal.returns-else-is_ascii_digit
returns-else-is_ascii_digit c =
    let s : _ = c.args in
    let here : _ = c.in_ok-first.ensures.lookup.3 in
    let e : digit (get_or s.src.now s.at 0) ≡ false = ap digit (sym (here.1 0)) ∙ sym c.is_ascii_digit.ensures.value ∙ c.if-is_ascii_digit.false in
    ap told (sym (number_bad s.most s.src.now s.at here.0 (λ e. c.if-first-eq48.false (here.1 0 ∙ e)) e))
