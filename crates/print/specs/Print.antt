-- What a replay prints (document 01, "Replays, with one given whole"), and text written to lent bytes as far as there is room.
use Rattle.std.specs.Prelude.{◌≡◌, cond, List, [], ◌∷◌, ◌++◌, ℕ, zero, suc, ◌/◌, ◌%◌, ◌+◌, ltb, length, take}
use Rattle.std.proofs.lemmas.List.Edits.{sets}
use Rattle.rules.specs.Answer.{Outcome}
use Rattle.rules.specs.Record.{free_count}
use Rattle.text.specs.Words.{newline}
use Rattle.print.specs.Words.{word_answer, word_value, word_steps, word_free, word_bad}

-- a number in plain decimal, of at most so many digits
unfoldable pub decimal_of : ℕ → ℕ → List ℕ
decimal_of zero x = []
decimal_of (suc k) x = cond (ltb x 10) [] (decimal_of k (x / 10)) ++ ((48 + x % 10) ∷ [])

-- a number of 64 bits has at most 20
abbrev pub decimal : ℕ → List ℕ
decimal x = decimal_of 20 x

abbrev pub field_line : List ℕ → ℕ → List ℕ
field_line key x = key ++ decimal x ++ newline

-- the five lines of an add or a pop
abbrev pub report : List ℕ → Outcome → List ℕ
report op r =
    op
    ++ field_line word_answer r.answer
    ++ field_line word_value r.value
    ++ field_line word_steps r.steps
    ++ field_line word_free (free_count r.queue)

-- the line of a wrong one
abbrev pub bad_line : ℕ → List ℕ
bad_line line = field_line word_bad line

-- ---- written

-- as much of a text as there is room for
abbrev pub fitting : List ℕ → List ℕ → List ℕ
fitting room text = take (length room) text

-- The bytes `before` are `after` once the text was written from the front, as far as it fits, and `at` is how much did. All other bytes stay.
pub record Written (before after : List ℕ) (at : ℕ) (text : List ℕ) : Type 0 where
  pub count : at ≡ length (fitting before text)
  pub bytes : after ≡ sets before 0 (fitting before text)
