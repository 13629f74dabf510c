-- `opens::list_tests::none_empty` meets its contract: the iterator's `all` asks of each buffer what the rule asks.
use Rattle.std.proofs.Common.{◌∙◌, tests, rules}
use Rattle.std.proofs.lemmas.Iterator.{YieldsList-from_slice}
use Rattle.std.proofs.lemmas.Iterator.Search.{all_from_yields_List}
use Rattle.opens.specs.Turns.{filled_length, none_empty_all}
use Rattle.opens.proofs.list_tests.none_empty.Goals as goal

pub returns : goal.returns
returns c =
    all_from_yields_List filled_length _ _ _ c.all.ensures.ran (YieldsList-from_slice c.args.list.now cc) (λ x b q k. search (rules, tests)) ∙ none_empty_all c.args.list.now
