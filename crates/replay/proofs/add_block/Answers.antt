-- `replay::add_block` meets its contract: by its two lists it is a wrong line, or the record's add and what `called` prints of it.
use mathlib.Core.Path.{refl, sym, ap, ◌∙◌}
use Rattle.std.proofs.lemmas.Result.{err_from_is_err_and}
use Rattle.virtio.specs.Memory.{Memory}
use Rattle.rules.specs.Answer.{Outcome}
use Rattle.access.specs.Accesses.{memory}
use Rattle.text.specs.declared.Side.{Side}
use Rattle.replay.specs.Words.{line_add}
use Rattle.replay.specs.Replay.{Play, called, add_block}
use Rattle.replay.specs.Plays.{play_of, Plays}
use Rattle.replay.specs.Blocks.{at_play, is_played, add_bad, add_good}
use Rattle.replay.proofs.add_block.Goals as goal

pub returns-in_err-both-clause-by_index : goal.returns-in_err-both-clause-by_index
returns-in_err-both-clause-by_index c before q h =
    let a : _ = c.args in
    let p = err_from_is_err_and c.from_residual.result c.from_residual.ensures.1 in
    rw (p.1, p.2) (h, add_bad a.src.now q a.at c.both_at.result c.both_at.ensures _ c.in_err-both.was)

pub returns-clause-by_index : goal.returns-clause-by_index
returns-clause-by_index c before q h =
    let a : _ = c.args in
    let both : Side = c.in_ok-both.both in
    let start : Memory = memory a.one.now a.two.now a.pool.now in
    let after : Memory = memory c.add-r.new.one a.two.now c.add-r.new.pool in
    at_play
    (λ (x : Play). Plays before c.called.new.page c.called.result after (add_block a.src.now x a.at))
    h
    (λ text w.
    let x : Play = play_of a.p start text in
    is_played
    (add_good a.src.now x a.at c.both_at.result c.both_at.ensures both c.in_ok-both.was
    ∙ ap (λ (o : Outcome). called x line_add o both.at 3) (sym c.add-r.ensures))
    (c.called.ensures.by_index before start after x (record { same = refl; wrote = w })))
