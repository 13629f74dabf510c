use Rattle.std.proofs.Common.{subst, ap, ◌∙◌}
use Rattle.std.specs.Prelude.{ℕ}
use Rattle.std.specs.Io.KnownBytes.{Appends}
use Rattle.std.proofs.lemmas.Result.{on_ok_weaker}
use Rattle.io.specs.Digits.{last_digits}
use Rattle.console.proofs.Count.{digit_count_one}
use Rattle.console.proofs.print_decimal.Goals as goal

pub returns : goal.returns
returns g c =
    let n = c.args.n in
    let d = c.decimal-k in
    on_ok_weaker c.write_all.result
    (λ wrote k f.
    subst (Appends _ _)
    (d.ensures.digits ∙ ap (λ (j : ℕ). last_digits 10 j n) (digit_count_one n d.result k d.ensures.len f))
    wrote)
    c.write_all.ensures.bytes
