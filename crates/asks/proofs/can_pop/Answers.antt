-- `asks::can_pop` meets its contract: refused, or one load of the used ring's idx.
use Rattle.std.proofs.Common.{sym, ◌∙◌}
use Rattle.std.specs.Prelude.{not, eqb}
use Rattle.tables.specs.Lent.{tables_read}
use Rattle.access.specs.Accesses.{memory}
use Rattle.asks.specs.Singles.{number_of, can_pop_no, can_pop_yes}
use Rattle.asks.proofs.can_pop.Goals as goal

pub returns-in-Err : goal.returns-in-Err
returns-in-Err c =
    let s : _ = c.args in
    can_pop_no s.c (tables_read s.t.now) (memory s.one.now s.two.now s.pool.now) c.refused.result c.in-Err.refusal c.refused.ensures c.in-Err.ensures.number

pub returns-in-Ok : goal.returns-in-Ok
returns-in-Ok c =
    let s : _ = c.args in
    can_pop_yes s.c (tables_read s.t.now) (memory s.one.now s.two.now s.pool.now) c.answered.result (sym c.in-Ok.ensures.number) c.load_used-idx.result c.from.result c.answered.ensures (c.load_used-idx.ensures s.pool.now) (c.from.ensures ∙ number_of (not (eqb c.load_used-idx.result s.c.last_used_idx)))
