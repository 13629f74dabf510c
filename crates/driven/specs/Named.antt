-- The driver's events of demand 3, and those of the code's enum by their names.
use Rattle.std.specs.Prelude.{List}
use Rattle.virtio.specs.declared.Buffer.{Buffer}
use Rattle.virtio.specs.Memory.{Memory}
use Rattle.rules.specs.Record.{Queue}
use Rattle.rules.specs.Answer.{Outcome}
use Rattle.rules.specs.Calls as rules
use Rattle.mixing.specs.Mix as mix
use Rattle.driven.specs.declared.Event.{Event}
use Rattle.driven.specs.declared.Event.TheVariants.{Add, PopUsed, PeekUsed, CanPop, ShouldNotify, AvailableDesc, SetDevNotify, Step}

-- a call is opened, or made where it is a single step; or the open call makes a step
pub data Drive : Type 0 where
  called : mix.Call → Drive
  stepped : Drive

abbrev pub event_of : Drive → mix.Event
event_of (called c) = mix.call c
event_of stepped = mix.step

-- its outcome by the rules
abbrev pub ruled : Drive → Queue → Memory → Outcome
ruled (called c) q m = mix.opening c q m
ruled stepped q m = rules.step q m

abbrev pub drive_of : Event → List Buffer → Drive
drive_of Add bs = called (mix.add bs)
drive_of (PopUsed t) bs = called (mix.pop_used_call t bs)
drive_of PeekUsed bs = called mix.peek_used_call
drive_of CanPop bs = called mix.can_pop_call
drive_of ShouldNotify bs = called mix.should_notify_call
drive_of AvailableDesc bs = called mix.available_desc_call
drive_of (SetDevNotify wanted) bs = called (mix.set_dev_notify_call wanted)
drive_of Step bs = stepped
