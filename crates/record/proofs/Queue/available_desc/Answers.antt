-- `record::Queue::available_desc` meets its contract: each return is the outcome that its tests pick.
use Rattle.std.proofs.Common.{◌≡◌, sym, ◌∙◌}
use Rattle.rules.specs.WellFormed.{broken}
use Rattle.record.specs.Abs.{abs}
use Rattle.record.specs.Counted.{count_bad, count_busy, count_told, broken_told, sound_told, used_within}
use Rattle.record.proofs.Queue.available_desc.Goals.{Else-is_err}
use Rattle.record.proofs.Queue.available_desc.Goals as goal

-- the record is well formed, past the first test
sound : (c : Else-is_err) → broken (abs c.args.self) ≡ 0
sound c = sound_told (abs c.args.self) c.broken.result c.broken.ensures (sym c.is_err.ensures.value ∙ c.if-is_err.false)

pub returns-then-is_err : goal.returns-then-is_err
returns-then-is_err c =
    λ m. sym (count_bad (abs c.args.self) m (broken_told (abs c.args.self) c.broken.result c.broken.ensures (sym c.is_err.ensures.value ∙ c.if-is_err.true)))

pub returns-then-is_open : goal.returns-then-is_open
returns-then-is_open c =
    λ m. sym (count_busy (abs c.args.self) m (sound (goal.at.returns-then-is_open c).Else-is_err) (sym c.is_open.ensures ∙ c.if-is_open.true))

pub available_now-requires : goal.available_now-requires
available_now-requires c = used_within (abs c.args.self) (sound (goal.at.available_now-requires c).Else-is_err)

pub returns : goal.returns
returns c =
    λ m. rw c.available_now.ensures (sym (count_told (abs c.args.self) m (sound (goal.at.returns c).Else-is_err) (sym c.is_open.ensures ∙ c.if-is_open.false)))
