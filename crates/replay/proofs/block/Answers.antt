-- `replay::block` meets its contract: its first line says which block it is, and the place behind that line is in the text.
use mathlib.Core.Path.{◌≡◌, refl, sym, ◌∙◌}
use native.Mathlib.Omega.{arith}
use Rattle.access.specs.Accesses.{memory}
use Rattle.replay.specs.Words.{line_add, line_used, line_pop}
use Rattle.replay.specs.Replay.{Play, wrong, block as block_is}
use Rattle.replay.specs.Plays.{play_of, Plays, LeadsTo}
use Rattle.replay.specs.Laws.{stands_long}
use Rattle.replay.specs.Blocks.{at_play, leads_as, block_add, block_used, block_pop, block_wrong}
use Rattle.replay.proofs.block.Goals as goal

pub overflow_add-p : goal.overflow_add-p
overflow_add-p c =
    omega (arith, stands_long line_add c.args.src.now c.args.p.at (sym c.stands.ensures ∙ c.if-stands.true))

pub returns-then-stands-clause-by_index : goal.returns-then-stands-clause-by_index
returns-then-stands-clause-by_index c before q h =
    let a : _ = c.args in
    let f : _ = c.add_block in
    at_play
    (λ (x : Play). LeadsTo before f.new.page a.p (memory f.new.one a.two.now f.new.pool) x f.result (block_is a.src.now x))
    h
    (λ text w.
    let x : Play = play_of a.p (memory a.one.now a.two.now a.pool.now) text in
    leads_as before f.new.page a.p (memory f.new.one a.two.now f.new.pool) x f.result
    (block_add a.src.now x (sym c.stands.ensures ∙ c.if-stands.true))
    (f.ensures.by_index before x (record { same = refl; wrote = w })))

pub overflow_add-p-then-stands-2 : goal.overflow_add-p-then-stands-2
overflow_add-p-then-stands-2 c =
    omega (arith, stands_long line_used c.args.src.now c.args.p.at (sym c.stands-2.ensures ∙ c.if-stands-2.true))

pub returns-then-stands-2-clause-by_index : goal.returns-then-stands-2-clause-by_index
returns-then-stands-2-clause-by_index c before q h =
    let a : _ = c.args in
    let f : _ = c.used_block in
    at_play
    (λ (x : Play). LeadsTo before a.page.now a.p (memory a.one.now f.new.two a.pool.now) x f.result (block_is a.src.now x))
    h
    (λ text w.
    let x : Play = play_of a.p (memory a.one.now a.two.now a.pool.now) text in
    leads_as before a.page.now a.p (memory a.one.now f.new.two a.pool.now) x f.result
    (block_used a.src.now x (sym c.stands.ensures ∙ c.if-stands.false) (sym c.stands-2.ensures ∙ c.if-stands-2.true))
    (f.ensures.by_index before a.one.now a.pool.now a.page.now x (record { same = refl; wrote = w })))

pub overflow_add-p-then-stands-3 : goal.overflow_add-p-then-stands-3
overflow_add-p-then-stands-3 c =
    omega (arith, stands_long line_pop c.args.src.now c.args.p.at (sym c.stands-3.ensures ∙ c.if-stands-3.true))

pub returns-then-stands-3-clause-by_index : goal.returns-then-stands-3-clause-by_index
returns-then-stands-3-clause-by_index c before q h =
    let a : _ = c.args in
    let f : _ = c.pop_block in
    at_play
    (λ (x : Play). LeadsTo before f.new.page a.p (memory f.new.one a.two.now f.new.pool) x f.result (block_is a.src.now x))
    h
    (λ text w.
    let x : Play = play_of a.p (memory a.one.now a.two.now a.pool.now) text in
    leads_as before f.new.page a.p (memory f.new.one a.two.now f.new.pool) x f.result
    (block_pop
    a.src.now
    x
    (sym c.stands.ensures ∙ c.if-stands.false)
    (sym c.stands-2.ensures ∙ c.if-stands-2.false)
    (sym c.stands-3.ensures ∙ c.if-stands-3.true))
    (f.ensures.by_index before x (record { same = refl; wrote = w })))

pub returns-clause-by_index : goal.returns-clause-by_index
returns-clause-by_index c before q h =
    let a : _ = c.args in
    at_play
    (λ (x : Play). Plays before a.page.now a.p (memory a.one.now a.two.now a.pool.now) x × (block_is a.src.now x ≡ wrong x 0))
    h
    (λ text w.
    let x : Play = play_of a.p (memory a.one.now a.two.now a.pool.now) text in (
      record { same = refl; wrote = w },
      block_wrong
          a.src.now
          x
          (sym c.stands.ensures ∙ c.if-stands.false)
          (sym c.stands-2.ensures ∙ c.if-stands-2.false)
          (sym c.stands-3.ensures ∙ c.if-stands-3.false),
    ))
