-- What answers as the rules do meets the contract of `driven::drive`.
use Rattle.std.specs.Prelude.{◌≡◌}
use Rattle.std.proofs.Math.Path.{ap}
use Rattle.std.proofs.Common.{sym, ◌∙◌}
use mathlib.Core.List.{List}
use Rattle.virtio.specs.declared.Buffer.{Buffer}
use Rattle.virtio.specs.Memory.{Memory}
use Rattle.record.specs.declared.Queue.{Queue}
use Rattle.record.specs.declared.Answer.{Answer}
use Rattle.record.specs.Abs.{abs}
use Rattle.record.specs.Asked.{answer_of}
use Rattle.driven.specs.declared.Event.{Event}
use Rattle.driven.specs.Named.{Drive, event_of, ruled, drive_of}
use Rattle.driven.specs.Driven.{ran_on, after, MakesEvent, there}

module _ (d : Drive) (q : Queue) (m : Memory) (r : Answer) (m' : Memory) (e : answer_of r m' ≡ ruled d (abs q) m) where
  makes_event : MakesEvent d q m r m'
  makes_event = record { as_ruled = e; goes_on = λ w es o s h f g. ran_on w es o s (after d r m' s) (event_of d) h (there d q m r m' e w s f g) }

-- the event that a match found
pub makes_found : (bs : List Buffer) (q : Queue) (m : Memory) (r : Answer) (m' : Memory) {x y : Event} → x ≡ y
    → answer_of r m' ≡ ruled (drive_of y bs) (abs q) m → MakesEvent (drive_of x bs) q m r m'
makes_found bs q m r m' {x} {y} e p = makes_event (drive_of x bs) q m r m' (p ∙ ap (λ z. ruled (drive_of z bs) (abs q) m) (sym e))
