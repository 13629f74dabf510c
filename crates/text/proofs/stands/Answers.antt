-- `text::stands` meets its contract: the library tests the text behind this place, which is empty past the end.
use mathlib.Core.Path.{◌≡◌, refl, ap, ◌∙◌}
use mathlib.Core.List.{List}
use Prim.Native.Nat.{ℕ}
use lib.Dec.{eqb}
use lib.ListN.{drop}
use Rattle.std.specs.List.{starts_with}
use Rattle.text.specs.Laws.{rest_is, starts_by}
use Rattle.text.proofs.stands.Goals as goal

pub returns : goal.returns
returns c =
    let s : _ = c.args in
    let rest : c.unwrap_or.result.now ≡ drop s.at s.src.now =
    ap (λ r. r.now) c.unwrap_or.ensures ∙ rest_is s.src.now s.at c.get.result _ c.get.ensures.lookup refl in
    c.starts_with.ensures.value
    ∙ ap (λ (t : List ℕ). starts_with eqb t s.word.now) rest
    ∙ starts_by s.word.now (drop s.at s.src.now)
