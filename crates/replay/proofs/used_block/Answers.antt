-- `replay::used_block` meets its contract: a line is wrong, or the memory is what `complete` leaves.
use mathlib.Core.Path.{◌≡◌, refl, sym, ap, ◌∙◌}
use Prim.Native.Nat.{◌+◌, ◌-◌, ◌^◌}
use native.Mathlib.Omega.{arith}
use Rattle.std.proofs.lemmas.Result.{err_from_is_err_and}
use Rattle.std.specs.Result.{result_ok}
use Rattle.access.specs.Accesses.{memory}
use Rattle.text.specs.declared.Number.{Number}
use Rattle.text.specs.Text.{read, field}
use Rattle.text.specs.Laws.{told_none, told_some}
use Rattle.replay.specs.declared.Played.{Played}
use Rattle.replay.specs.Words.{word_id, word_len}
use Rattle.replay.specs.Replay.{Play, used_block}
use Rattle.replay.specs.Plays.{play_of, Plays}
use Rattle.replay.specs.Laws.{value_within}
use Rattle.replay.specs.Blocks.{at_play, is_played, line_of, leads_wrong, used_no_id, used_no_len, used_gave, gave_plays}
use Rattle.replay.proofs.used_block.Goals.{In_ok-id, In_ok-len}
use Rattle.replay.proofs.used_block.Goals as goal

-- the id and the length that were read
id_read : (c : In_ok-id) → field word_id (2 ^ 32 - 1) c.args.src.now c.args.at ≡ read c.in_ok-id.id.value c.in_ok-id.id.at
id_read c = told_some _ c.in_ok-id.id (rw c.from.ensures at (sym c.field.ensures ∙ c.ok_or.ensures.ok_part ∙ ap result_ok c.in_ok-id.was))

len_read : (c : In_ok-len) → field word_len (2 ^ 32 - 1) c.args.src.now c.in_ok-id.id.at ≡ read c.in_ok-len.len.value c.in_ok-len.len.at
len_read c = told_some _ c.in_ok-len.len (rw c.from-2.ensures at (sym c.field-2.ensures ∙ c.ok_or-2.ensures.ok_part ∙ ap result_ok c.in_ok-len.was))

pub returns-in_err-id-clause-by_index : goal.returns-in_err-id-clause-by_index
returns-in_err-id-clause-by_index c before one pool page q h =
    let a : _ = c.args in
    let line : _ = line_of c.field.result 1 c.in_err-id.field-0.0 (sym c.ok_or.ensures.value ∙ c.in_err-id.was) in
    let none : _ = told_none _ (rw c.from.ensures at (sym c.field.ensures ∙ line.0)) in
    leads_wrong before page a.p (memory one a.two.now pool) q c.from_residual.result
    (err_from_is_err_and c.from_residual.result c.from_residual.ensures.1) line.1 h
    (used_no_id a.src.now q a.at (field word_id (2 ^ 32 - 1) a.src.now a.at) refl none)

pub returns-in_err-len-clause-by_index : goal.returns-in_err-len-clause-by_index
returns-in_err-len-clause-by_index c before one pool page q h =
    let a : _ = c.args in
    let id : Number = c.in_ok-id.id in
    let e : _ = id_read (goal.at.returns-in_err-len-clause-by_index c).In_ok-id in
    let line : _ = line_of c.field-2.result 2 c.in_err-len.field-0.0 (sym c.ok_or-2.ensures.value ∙ c.in_err-len.was) in
    let none : _ = told_none _ (rw c.from-2.ensures at (sym c.field-2.ensures ∙ line.0)) in
    leads_wrong before page a.p (memory one a.two.now pool) q c.from_residual-in_err-len.result
    (err_from_is_err_and c.from_residual-in_err-len.result c.from_residual-in_err-len.ensures.1) line.1 h
    (used_no_len a.src.now q a.at (read id.value id.at) (sym e) (field word_len (2 ^ 32 - 1) a.src.now id.at) refl refl none)

pub overflow_cast-id : goal.overflow_cast-id
overflow_cast-id c =
    let id : Number = c.in_ok-id.id in
    let e : _ = id_read (goal.at.overflow_cast-id c).In_ok-id in
    let low : _ = value_within word_id (2 ^ 32 - 1) c.args.src.now c.args.at (read id.value id.at) (sym e) in
    omega (arith, low)

pub overflow_cast-len : goal.overflow_cast-len
overflow_cast-len c =
    let len : Number = c.in_ok-len.len in
    let f : _ = len_read (goal.at.overflow_cast-len c).In_ok-len in
    let low : _ = value_within word_len (2 ^ 32 - 1) c.args.src.now c.in_ok-id.id.at (read len.value len.at) (sym f) in
    omega (arith, low)

pub returns-clause-by_index : goal.returns-clause-by_index
returns-clause-by_index c before one pool page q h =
    let s : _ = c.args.src.now in
    let p : Played = c.args.p in
    let id : Number = c.in_ok-id.id in
    let len : Number = c.in_ok-len.len in
    let e : _ = id_read (goal.at.returns-clause-by_index c).In_ok-id in
    let f : _ = len_read (goal.at.returns-clause-by_index c).In_ok-len in
    let to : Played = record { queue = p.queue; size = p.size; at = len.at; line = p.line + 3 } in
    at_play
    (λ (x : Play). Plays before page to (memory one c.complete.new.two pool) (used_block s x c.args.at))
    h
    (λ text w.
    is_played
    (used_gave s (play_of p (memory one c.args.two.now pool) text) c.args.at (read id.value id.at) (sym e) (read len.value len.at) (sym f) refl refl)
    (gave_plays p (memory one c.args.two.now pool) text id.value len.value len.at (c.complete.ensures one pool) w))
