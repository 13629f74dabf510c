-- What a call answers: document 01's number ("When the queue says no"; 0 is yes), the value, the loads and stores made, the record and the memory.
-- Refused has the code's type of a refusal, whose numbers are these.
use Rattle.std.specs.Prelude.{cond, ℕ, eqb}
use Rattle.virtio.specs.Memory.{Memory}
use Rattle.rules.specs.Record.{Queue}

abbrev pub InvalidParam : ℕ
InvalidParam = 1

abbrev pub QueueFull : ℕ
QueueFull = 2

abbrev pub NotReady : ℕ
NotReady = 3

abbrev pub WrongToken : ℕ
WrongToken = 4

abbrev pub BadSize : ℕ
BadSize = 5

abbrev pub AlreadyUsed : ℕ
AlreadyUsed = 6

abbrev pub EmptyBuffer : ℕ
EmptyBuffer = 7

abbrev pub NotOutstanding : ℕ
NotOutstanding = 8

abbrev pub Mismatch : ℕ
Mismatch = 9

abbrev pub OverLength : ℕ
OverLength = 10

abbrev pub Busy : ℕ
Busy = 11

abbrev pub BadRecord : ℕ
BadRecord = 12

abbrev pub BadRegion : ℕ
BadRegion = 13

pub record Outcome : Type 0 where
  pub answer : ℕ
  pub value : ℕ
  pub steps : ℕ
  pub queue : Queue
  pub memory : Memory

-- a refusal: its number, value 0, no step, nothing altered
abbrev pub refused : ℕ → Queue → Memory → Outcome
refused number q m = record { answer = number; value = 0; steps = 0; queue = q; memory = m }

-- the refusal with this number, or the outcome o where the number is 0
abbrev pub unless : ℕ → Queue → Memory → Outcome → Outcome
unless number q m o = cond (eqb number 0) o (refused number q m)
