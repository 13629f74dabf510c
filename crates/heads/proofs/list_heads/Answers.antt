-- `heads::list_heads` meets its contract: what `all` tells of the numbers below n is what `every` says of them.
use Rattle.std.proofs.Common.{rules, arith, ◌≡◌, ◌∙◌, sym}
use Rattle.std.specs.List.{list_all, range_with_len}
use Rattle.std.proofs.lemmas.Iterator.{YieldsList-from_range}
use Rattle.std.proofs.lemmas.Iterator.Search.{all_from_yields_List}
use borrow.Author.Tests.{tests}
use Rattle.views.specs.Over.{every_ranged}
use Rattle.heads.specs.Heads.{listed_at}
use Rattle.heads.proofs.list_heads.Goals as goal

pub returns : goal.returns
returns c =
    let f = c.args.f.now in
    let p = listed_at c.args.indirect c.args.base f.n f.addr.now f.len.now f.flags.now f.noted.now in
    let h : c.all.result ≡ list_all p (range_with_len 0 f.n) = all_from_yields_List p _ _ _ c.all.ensures.ran (YieldsList-from_range 0 f.n f.n (search rules) (omega arith)) (λ x b q k. search (rules, tests)) in
    h ∙ sym (every_ranged p f.n 0)
