-- `text::digits` meets its contract: what the digits from the start on say is what those from i on say after the number so far.
use mathlib.Core.Path.{◌≡◌, refl, sym, ap, ◌∙◌}
use mathlib.Core.Bool.{true, false}
use Prim.Native.Nat.{ℕ, ◌+◌, ◌-◌, ◌*◌}
use native.Mathlib.Omega.{arith}
use lib.Dec.{leb}
use lib.ListN.{length, get_or}
use Rattle.std.proofs.lemmas.Option.{cond_some}
use Rattle.text.specs.Text.{digit, told, read}
use Rattle.text.specs.Laws.{cond_none, digits_over, digits_stop, digits_wide, digits_next}
use Rattle.text.proofs.digits.Goals as goal

pub returns-then-not-is_ascii_digit : goal.returns-then-not-is_ascii_digit
returns-then-not-is_ascii_digit c =
    let s : _ = c.args in
    let l : _ = c.loop-i in
    let t : _ = c.is_ascii_digit in
    let e : digit (get_or s.src.now l.i 0) ≡ false = sym t.ensures.value ∙ c.if-not-is_ascii_digit.true in
    ap told (sym (digits_stop s.most s.src.now l.i l.value (omega arith) e) ∙ l.invariant)

pub returns-in_err-value : goal.returns-in_err-value
returns-in_err-value c =
    let s : _ = c.args in
    let l : _ = c.loop-i in
    let t : _ = c.is_ascii_digit in
    let e : digit (get_or s.src.now l.i 0) ≡ true = sym t.ensures.value ∙ c.if-not-is_ascii_digit.false in
    let b : ℕ = get_or s.src.now l.i 0 in
    let f : leb (l.value * 10 + (b - 48)) s.most ≡ false = cond_none _ _ (rw c.from.ensures at (sym c.with_digit.ensures ∙ c.in_err-value.was)) in
    c.from_residual.ensures ∙ ap told (sym (digits_wide s.most s.src.now l.i l.value b refl (omega arith) e f) ∙ l.invariant)

pub loop-i-preserved : goal.loop-i-preserved
loop-i-preserved c =
    let s : _ = c.args in
    let l : _ = c.loop-i in
    let t : _ = c.is_ascii_digit in
    let e : digit (get_or s.src.now l.i 0) ≡ true = sym t.ensures.value ∙ c.if-not-is_ascii_digit.false in
    let b : ℕ = get_or s.src.now l.i 0 in
    let f : _ = cond_some _ _ _ (rw c.from.ensures at (sym c.with_digit.ensures ∙ c.in_ok-value.was)) in
    rw (← f.1) (sym (digits_next s.most s.src.now l.i l.value b refl (omega arith) e f.0) ∙ l.invariant)

pub returns : goal.returns
returns c =
    let s : _ = c.args in
    let l : _ = c.loop-i in
    let n : length s.src.now ≡ l.i = omega arith in
    ap (λ k. told (read l.value k)) n ∙ ap told (sym (digits_over s.most s.src.now l.i l.value (omega arith)) ∙ l.invariant)
