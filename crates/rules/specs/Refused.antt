-- A refusal as the code's type, and its number: the same as the rules' names for numbers, in Answer. What a Result with such a refusal says as a number and a
-- value, as answers have them: 0 and the value, or the refusal's number and 0.
use Rattle.std.specs.Prelude.{◌≡◌, refl, ℕ, ◌<◌, List, [], ◌∷◌, get_or, Result, Ok, Err}
use Rattle.std.proofs.Common.{sym, ap, ◌∙◌, arith}
use Rattle.rules.specs.declared.Refusal.{Refusal}
use Rattle.rules.specs.declared.Refusal.TheVariants.{InvalidParam, QueueFull, NotReady, WrongToken, BadSize, AlreadyUsed, EmptyBuffer, NotOutstanding, Mismatch, OverLength, Busy, BadRecord, BadRegion}
use Rattle.rules.specs.Answer as numbers

abbrev pub refusal_number : Refusal → ℕ
refusal_number InvalidParam = 1
refusal_number QueueFull = 2
refusal_number NotReady = 3
refusal_number WrongToken = 4
refusal_number BadSize = 5
refusal_number AlreadyUsed = 6
refusal_number EmptyBuffer = 7
refusal_number NotOutstanding = 8
refusal_number Mismatch = 9
refusal_number OverLength = 10
refusal_number Busy = 11
refusal_number BadRecord = 12
refusal_number BadRegion = 13

abbrev pub result_number : {A : Type 0} → Result A Refusal → ℕ
result_number (Ok a) = 0
result_number (Err r) = refusal_number r

abbrev pub result_value : Result ℕ Refusal → ℕ
result_value (Ok v) = v
result_value (Err r) = 0

-- ---- each has the number of its name

pub number_of_InvalidParam : refusal_number InvalidParam ≡ numbers.InvalidParam
number_of_InvalidParam = refl

pub number_of_QueueFull : refusal_number QueueFull ≡ numbers.QueueFull
number_of_QueueFull = refl

pub number_of_NotReady : refusal_number NotReady ≡ numbers.NotReady
number_of_NotReady = refl

pub number_of_WrongToken : refusal_number WrongToken ≡ numbers.WrongToken
number_of_WrongToken = refl

pub number_of_BadSize : refusal_number BadSize ≡ numbers.BadSize
number_of_BadSize = refl

pub number_of_AlreadyUsed : refusal_number AlreadyUsed ≡ numbers.AlreadyUsed
number_of_AlreadyUsed = refl

pub number_of_EmptyBuffer : refusal_number EmptyBuffer ≡ numbers.EmptyBuffer
number_of_EmptyBuffer = refl

pub number_of_NotOutstanding : refusal_number NotOutstanding ≡ numbers.NotOutstanding
number_of_NotOutstanding = refl

pub number_of_Mismatch : refusal_number Mismatch ≡ numbers.Mismatch
number_of_Mismatch = refl

pub number_of_OverLength : refusal_number OverLength ≡ numbers.OverLength
number_of_OverLength = refl

pub number_of_Busy : refusal_number Busy ≡ numbers.Busy
number_of_Busy = refl

pub number_of_BadRecord : refusal_number BadRecord ≡ numbers.BadRecord
number_of_BadRecord = refl

pub number_of_BadRegion : refusal_number BadRegion ≡ numbers.BadRegion
number_of_BadRegion = refl

-- ---- the numbers tell refusals apart, and from 0

pub refusal_above : (r : Refusal) → 0 < refusal_number r
refusal_above InvalidParam = omega arith
refusal_above QueueFull = omega arith
refusal_above NotReady = omega arith
refusal_above WrongToken = omega arith
refusal_above BadSize = omega arith
refusal_above AlreadyUsed = omega arith
refusal_above EmptyBuffer = omega arith
refusal_above NotOutstanding = omega arith
refusal_above Mismatch = omega arith
refusal_above OverLength = omega arith
refusal_above Busy = omega arith
refusal_above BadRecord = omega arith
refusal_above BadRegion = omega arith

pub refusal_some : (r : Refusal) → refusal_number r ≡ 0 → ⊥
refusal_some r e = let l : 0 < refusal_number r = refusal_above r in omega arith

-- all refusals in the order of their numbers, the last also where no number is
refusals : List Refusal
refusals =
    BadRegion ∷ InvalidParam ∷ QueueFull ∷ NotReady ∷ WrongToken ∷ BadSize ∷ AlreadyUsed
    ∷ EmptyBuffer ∷ NotOutstanding ∷ Mismatch ∷ OverLength ∷ Busy ∷ BadRecord ∷ BadRegion ∷ []

refusal_of : ℕ → Refusal
refusal_of n = get_or refusals n BadRegion

of_number : (r : Refusal) → refusal_of (refusal_number r) ≡ r
unfolding refusal_of refusals
of_number InvalidParam = refl
of_number QueueFull = refl
of_number NotReady = refl
of_number WrongToken = refl
of_number BadSize = refl
of_number AlreadyUsed = refl
of_number EmptyBuffer = refl
of_number NotOutstanding = refl
of_number Mismatch = refl
of_number OverLength = refl
of_number Busy = refl
of_number BadRecord = refl
of_number BadRegion = refl

pub refusal_one : (a b : Refusal) → refusal_number a ≡ refusal_number b → a ≡ b
refusal_one a b e = sym (of_number a) ∙ ap refusal_of e ∙ of_number b

-- number and value say the whole of a result
pub result_one : (r s : Result ℕ Refusal) → result_number r ≡ result_number s → result_value r ≡ result_value s → r ≡ s
result_one (Ok v) (Ok w) n e = ap Ok e
result_one (Ok v) (Err b) n e = absurd (let l : 0 < refusal_number b = refusal_above b in omega arith)
result_one (Err a) (Ok w) n e = absurd (let l : 0 < refusal_number a = refusal_above a in omega arith)
result_one (Err a) (Err b) n e = ap Err (refusal_one a b n)
