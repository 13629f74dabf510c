-- The answer is `poll_ready`: peek tells whether an element waits, and its token.
use Rattle.std.proofs.Common.{◌≡◌, ap, sym, ◌∙◌}
use Rattle.access.specs.Accesses.{memory}
use Rattle.record.specs.Abs.{abs}
use Rattle.owning.specs.Owned.{own_of}
use Rattle.rules.specs.Calls.{call_refusal}
use Rattle.rules.specs.Owning as rule
use Rattle.rules.specs.Refused.{result_number, result_value, refusal_some}
use Rattle.owning.specs.Sound.{Sound, sound, not_refused}
use Rattle.owning.specs.Cases.{peek_none, peek_some}
use Rattle.owning.proofs.poll_ready.Goals.{Start}
use Rattle.owning.proofs.poll_ready.Goals as goal

-- no call of the queue is refused
allowed : (s : Start) → call_refusal (abs s.args.o.queue) (memory s.args.one.now s.args.two.now s.args.pool.now) ≡ 0
allowed s =
    let w : Sound (own_of s.args.o) = sound (own_of s.args.o) s.requires.o_value in
    not_refused (abs s.args.o.queue) (memory s.args.one.now s.args.two.now s.args.pool.now) w.well s.requires.pool_value w.idle

pub returns-in-Err : goal.returns-in-Err
returns-in-Err c =
    λ store. c.plainly.ensures _ store
    ∙ peek_none (own_of c.args.o) (memory c.args.one.now c.args.two.now c.args.pool.now) store (allowed (goal.at.returns-in-Err c).Start) _ c.peek_used.ensures (λ e. refusal_some c.in-Err.field-0 (sym (ap result_number c.in-Err.is) ∙ e))

pub returns-in-Ok : goal.returns-in-Ok
returns-in-Ok c =
    λ store. c.poll_token.ensures store
    ∙ ap (λ v. rule.poll_token (own_of c.args.o) v (memory c.peek_used.new.one c.args.two.now c.peek_used.new.pool) store) (sym (ap result_value c.in-Ok.is))
    ∙ peek_some (own_of c.args.o) (memory c.args.one.now c.args.two.now c.args.pool.now) store (allowed (goal.at.returns-in-Ok c).Start) _ c.peek_used.ensures (ap result_number c.in-Ok.is)
