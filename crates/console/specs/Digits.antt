-- What a number, and a text with a number behind it, adds to what a writer is known to hold.
use Rattle.std.specs.Prelude.{ℕ, List, ◌++◌, Option}
use Rattle.std.specs.Io.KnownBytes.{Appends}
use Rattle.io.specs.Digits.{IsDigitCount, last_digits}

-- the known bytes grow by n in decimal, with no zero in front
abbrev pub AppendsDecimal : Option (List ℕ) → Option (List ℕ) → ℕ → Type 0
AppendsDecimal old new n = (k : ℕ) → IsDigitCount 10 1 n k → Appends old new (last_digits 10 k n)

-- the known bytes grow by text and then by n in decimal, with no zero in front
abbrev pub AppendsWord : Option (List ℕ) → Option (List ℕ) → List ℕ → ℕ → Type 0
AppendsWord old new text n = (k : ℕ) → IsDigitCount 10 1 n k → Appends old new (text ++ last_digits 10 k n)
