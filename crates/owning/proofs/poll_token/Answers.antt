-- The answer is `poll_token`: no token of the queue's, or its own buffer popped, which is then as the pop was answered, shown, or added again.
use Rattle.std.proofs.Common.{◌≡◌, List, ℕ, ap, sym, ◌∙◌, arith}
use Rattle.virtio.specs.Memory.{Memory}
use Rattle.rules.specs.Answer.{Outcome}
use Rattle.rules.specs.Calls.{pop_used}
use Rattle.rules.specs.Owning as rule
use Rattle.rules.specs.Refused.{result_number, result_value, refusal_some}
use Rattle.access.specs.Accesses.{memory}
use Rattle.record.specs.Abs.{abs}
use Rattle.record.specs.Asked.{answer_of}
use Rattle.owning.specs.Owned.{own_of, popped_of}
use Rattle.owning.specs.Sound.{sound, begins}
use Rattle.owning.specs.Cases.{token_past, token_below, pop_no, pop_shows, pop_again}
use Rattle.owning.proofs.poll_token.Goals.{After-pop_used-r, In-Ok}
use Rattle.owning.proofs.poll_token.Goals as goal

-- ---- what the pop came to

abbrev popped : After-pop_used-r → Outcome
popped c = answer_of c.pop_used-r.result (memory c.pop_used-r.new.one c.args.two.now c.pop_used-r.new.pool)

is_popped : (c : After-pop_used-r) → popped c ≡ pop_used (abs c.args.o.queue) (memory c.args.one.now c.args.two.now c.args.pool.now) c.args.t (rule.own_list (own_of c.args.o) c.args.t)
is_popped c = rw c.buffer.ensures at c.pop_used-r.ensures

-- so it is the answer that follows from it
follows : (c : After-pop_used-r) (store : List ℕ) → rule.poll_popped (own_of c.args.o) (popped c) c.args.t store ≡ rule.poll_token (own_of c.args.o) c.args.t (memory c.args.one.now c.args.two.now c.args.pool.now) store
follows c store =
    token_below (own_of c.args.o) (memory c.args.one.now c.args.two.now c.args.pool.now) store c.args.t (popped c) (omega arith) (is_popped c)

-- the number and the length that it is told, where nothing refused
told : (c : In-Ok) → result_number c.pop_used-r.result.outcome ≡ 0
told c = ap result_number c.in-Ok.is

length_told : (c : In-Ok) → result_value c.pop_used-r.result.outcome ≡ c.in-Ok.len
length_told c = ap result_value c.in-Ok.is

-- ---- the answers

pub returns-then-o-t : goal.returns-then-o-t
returns-then-o-t c =
    let m : Memory = memory c.args.one.now c.args.two.now c.args.pool.now in
    λ store. c.refused.ensures m store ∙ token_past (own_of c.args.o) m store c.args.t c.if-o-t.true

pub buffer-requires : goal.buffer-requires
buffer-requires c =
    begins (own_of c.args.o) (sound (own_of c.args.o) c.requires) (omega arith) c.args.t c.if-o-t.false

pub returns-in_default : goal.returns-in_default
returns-in_default c =
    let m : Memory = memory c.pop_used-r.new.one c.args.two.now c.pop_used-r.new.pool in
    let a : After-pop_used-r = (goal.at.returns-in_default c).After-pop_used-r in
    λ store. c.passed.ensures m store
    ∙ pop_no (own_of c.args.o) m store (popped a) c.args.t (λ e. refusal_some c.in_default.field-0 (sym (ap result_number c.in_default.is) ∙ e))
    ∙ follows a store

pub returns-then-len-o : goal.returns-then-len-o
returns-then-len-o c =
    let m : Memory = memory c.pop_used-r.new.one c.args.two.now c.pop_used-r.new.pool in
    let a : After-pop_used-r = (goal.at.returns-then-len-o c).After-pop_used-r in
    let l : result_value c.pop_used-r.result.outcome ≡ c.in-Ok.len = length_told (goal.at.returns-then-len-o c).In-Ok in
    λ store. c.showing.ensures m store
    ∙ ap (λ v. rule.showing (own_of c.args.o) (popped_of (abs c.pop_used-r.result.queue) v m) c.args.t store) (sym l)
    ∙ pop_shows (own_of c.args.o) m store (popped a) c.args.t (told (goal.at.returns-then-len-o c).In-Ok) (omega arith)
    ∙ follows a store

pub returns : goal.returns
returns c =
    let m : Memory = memory c.pop_used-r.new.one c.args.two.now c.pop_used-r.new.pool in
    let a : After-pop_used-r = (goal.at.returns c).After-pop_used-r in
    let l : result_value c.pop_used-r.result.outcome ≡ c.in-Ok.len = length_told (goal.at.returns c).In-Ok in
    λ store. c.plainly.ensures _ store
    ∙ pop_again (own_of c.args.o) m store (popped a) c.args.t (told (goal.at.returns c).In-Ok) _ (omega arith) (rw c.buffer.ensures at c.add-again.ensures)
    ∙ follows a store
