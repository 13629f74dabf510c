-- The answer is whether `own_at` holds at each number below n: the iterator asks at these numbers.
use Rattle.std.proofs.Common.{◌∙◌, refl, rules, tests}
use native.Mathlib.Nat.{sub-zero}
use Rattle.std.proofs.lemmas.Iterator.{serves_from_Range, YieldsList-from_range}
use Rattle.std.proofs.lemmas.Iterator.Search.{all_from_yields_List}
use Rattle.views.specs.Tables.{queue_of}
use Rattle.tables.specs.Lent.{tables_read}
use Rattle.owns.specs.Turns.{own_at, every_listed}
use Rattle.owns.proofs.all_own.Goals as goal

pub all-requires-clause-callable : goal.all-requires-clause-callable
all-requires-clause-callable c = serves_from_Range (λ x q k. search rules) (λ x low high. search rules)

pub returns : goal.returns
returns c =
    all_from_yields_List (own_at (queue_of c.args.c (tables_read c.args.t.now)) c.args.own.base c.args.own.size) _ _ _ c.all.ensures.ran (YieldsList-from_range 0 c.args.c.n c.args.c.n refl (rw sub-zero)) (λ x b q k. search (rules, tests))
    ∙ every_listed (own_at (queue_of c.args.c (tables_read c.args.t.now)) c.args.own.base c.args.own.size) c.args.c.n 0
