-- `opens::given::buffer_at` meets its contract: its fields are those of buffer i, and 0 past a slice's end.
use Rattle.std.proofs.Common.{◌≡◌, ℕ, List, length, ltb, eqb, not, true, false, sym, ap, ◌∙◌, arith, ltb-true, ltb-false, get_or, Bor}
use Rattle.std.specs.Prelude.{Option, None, Some, IfSome, is_some, unwrap_or}
use Rattle.std.specs.Option.{option_copied}
use Rattle.std.proofs.lemmas.Option.{slice_get-get_or}
use Rattle.std.proofs.Math.ListN.{get_or-eq_default}
use Rattle.opens.specs.Turns.{given_at}
use Rattle.opens.proofs.given.buffer_at.Goals as goal

found_at : (xs : List ℕ) (i : ℕ) (r : Option (Bor ℕ)) → is_some r ≡ ltb i (length xs) → IfSome r (λ x. x.now ≡ get_or xs i x.now) → unwrap_or (option_copied r) 0 ≡ get_or xs i 0
found_at xs i None e f = sym (get_or-eq_default xs 0 (ltb-false i (length xs) (sym e)))
found_at xs i (Some x) e f =
    let a = slice_get-get_or xs i x.now (ltb-true i (length xs) (sym e)) in
    let b = slice_get-get_or xs i 0 (ltb-true i (length xs) (sym e)) in
    cc

pub returns : goal.returns
returns c =
    let s : _ = c.args in
    let len : c.unwrap_or.result ≡ get_or s.lens.now s.i 0 = c.unwrap_or.ensures ∙ (ap (λ r. unwrap_or r 0) c.copied.ensures ∙ found_at s.lens.now s.i c.get.result c.get.ensures.lookup.0 c.get.ensures.lookup.1) in
    let side : c.unwrap_or-2.result ≡ get_or s.sides.now s.i 0 = c.unwrap_or-2.ensures ∙ (ap (λ r. unwrap_or r 0) c.copied-2.ensures ∙ found_at s.sides.now s.i c.get-2.result c.get-2.ensures.lookup.0 c.get-2.ensures.lookup.1) in
    (λ j. record { addr = get_or s.addrs.now s.i 0; len = len j; output = not (eqb (side j) 0) })
    ∙ given_at s.addrs.now s.lens.now s.sides.now s.i (omega arith)
