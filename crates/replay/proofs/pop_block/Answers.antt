-- `replay::pop_block` meets its contract: by its token and two lists it is a wrong line, or the record's pop and what `called` prints of it.
use mathlib.Core.Path.{◌≡◌, refl, sym, ap, ◌∙◌}
use Prim.Native.Nat.{◌+◌, ◌-◌, ◌^◌}
use native.Mathlib.Omega.{arith}
use Rattle.virtio.specs.Memory.{Memory}
use Rattle.rules.specs.Answer.{Outcome}
use Rattle.access.specs.Accesses.{memory}
use Rattle.text.specs.declared.Number.{Number}
use Rattle.text.specs.declared.Side.{Side}
use Rattle.text.specs.Text.{read, field}
use Rattle.text.specs.Laws.{told_none, told_some}
use Rattle.replay.specs.Words.{line_pop, word_token}
use Rattle.replay.specs.Replay.{Play, called, pop_block}
use Rattle.replay.specs.Plays.{play_of, Plays}
use Rattle.replay.specs.Laws.{value_within}
use Rattle.std.proofs.lemmas.Result.{err_from_is_err_and}
use Rattle.std.specs.Result.{result_ok}
use Rattle.replay.specs.Blocks.{line_of, later_ok, later_err, leads_wrong, at_play, is_played, pop_no_token, pop_bad, pop_good}
use borrow.Author.Rules.{rules}
use Rattle.replay.proofs.pop_block.Goals.{In_ok-token}
use Rattle.replay.proofs.pop_block.Goals as goal

-- the token that was read
token_read : (c : In_ok-token) → field word_token (2 ^ 32 - 1) c.args.src.now c.args.at ≡ read c.in_ok-token.token.value c.in_ok-token.token.at
token_read c = told_some _ c.in_ok-token.token (rw c.from.ensures at (sym c.field.ensures ∙ c.ok_or.ensures.ok_part ∙ ap result_ok c.in_ok-token.was))

pub returns-in_err-token-clause-by_index : goal.returns-in_err-token-clause-by_index
returns-in_err-token-clause-by_index c before q h =
    let a : _ = c.args in
    let line : _ = line_of c.field.result 1 c.in_err-token.field-0.0 (sym c.ok_or.ensures.value ∙ c.in_err-token.was) in
    let none : _ = told_none _ (rw c.from.ensures at (sym c.field.ensures ∙ line.0)) in
    leads_wrong before a.page.now a.p (memory a.one.now a.two.now a.pool.now) q c.from_residual.result
    (err_from_is_err_and c.from_residual.result c.from_residual.ensures.1) line.1 h
    (pop_no_token a.src.now q a.at (field word_token (2 ^ 32 - 1) a.src.now a.at) refl none)

pub returns-in_err-both-clause-by_index : goal.returns-in_err-both-clause-by_index
returns-in_err-both-clause-by_index c before q h =
    let a : _ = c.args in
    let t : Number = c.in_ok-token.token in
    let e : _ = token_read (goal.at.returns-in_err-both-clause-by_index c).In_ok-token in
    let line : _ = later_err c.both_at.result c.map_err.result (search rules) c.in_err-both.field-0.0 c.in_err-both.was in
    leads_wrong before a.page.now a.p (memory a.one.now a.two.now a.pool.now) q c.from_residual-in_err-both.result {line = 1 + line.0}
    (err_from_is_err_and c.from_residual-in_err-both.result c.from_residual-in_err-both.ensures.1) line.2 h
    (pop_bad a.src.now q a.at (read t.value t.at) (sym e) refl c.both_at.result c.both_at.ensures line.0 line.1)

pub overflow_cast-id : goal.overflow_cast-id
overflow_cast-id c =
    let t : Number = c.in_ok-token.token in
    let e : _ = token_read (goal.at.overflow_cast-id c).In_ok-token in
    let low : _ = value_within word_token (2 ^ 32 - 1) c.args.src.now c.args.at (read t.value t.at) (sym e) in
    omega (arith, low)

pub returns-clause-by_index : goal.returns-clause-by_index
returns-clause-by_index c before q h =
    let a : _ = c.args in
    let t : Number = c.in_ok-token.token in
    let e : _ = token_read (goal.at.returns-clause-by_index c).In_ok-token in
    let both : Side = c.in_ok-both.both in
    let start : Memory = memory a.one.now a.two.now a.pool.now in
    let after : Memory = memory c.pop_used-r.new.one a.two.now c.pop_used-r.new.pool in
    let is : _ = later_ok c.both_at.result c.map_err.result (search rules) both c.in_ok-both.was in
    at_play
    (λ (x : Play). Plays before c.called.new.page c.called.result after (pop_block a.src.now x a.at))
    h
    (λ text w.
    let x : Play = play_of a.p start text in
    is_played
    (pop_good a.src.now x a.at (read t.value t.at) (sym e) refl c.both_at.result c.both_at.ensures both is
    ∙ ap (λ (o : Outcome). called x line_pop o both.at 4) (sym c.pop_used-r.ensures))
    (c.called.ensures.by_index before start after x (record { same = refl; wrote = w })))
