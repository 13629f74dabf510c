-- `chains::nexts_below` meets its contract: what `all` tells of the slice is what `every` says of the table.
use Rattle.std.proofs.Common.{rules, ◌≡◌, ◌∙◌, sym, ltb, take}
use Rattle.std.specs.List.{list_all}
use Rattle.std.proofs.lemmas.Iterator.{YieldsList-from_slice}
use Rattle.std.proofs.lemmas.Iterator.Search.{all_from_yields_List}
use borrow.Author.Tests.{tests}
use Rattle.views.specs.Over.{every_below}
use Rattle.chains.proofs.nexts_below.Goals as goal

pub returns : goal.returns
returns c =
    let f = c.args.f.now in
    let h : c.all.result ≡ list_all (λ x. ltb x f.n) (take f.n f.next.now) = all_from_yields_List (λ x. ltb x f.n) _ _ _ c.all.ensures.ran (YieldsList-from_slice (take f.n f.next.now) cc) (λ x b q k. search (rules, tests)) in
    h ∙ sym (every_below f.n f.next.now f.next_of)
