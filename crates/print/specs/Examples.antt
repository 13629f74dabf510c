-- Worked examples: decimals, a line, a text that does not fit, and that report's list is a report.
use Rattle.std.specs.Prelude.{◌≡◌, refl, List, [], ◌∷◌, ◌++◌, ℕ, ◌-◌, ◌^◌}
use Rattle.rules.specs.Answer.{Outcome}
use Rattle.rules.specs.Record.{free_count}
use Rattle.print.specs.Words.{word_answer, word_value, word_steps, word_free}
use Rattle.print.specs.Print.{decimal, decimal_of, field_line, report, Written}

pub zero_is : decimal 0 ≡ 48 ∷ []
unfolding decimal_of
zero_is = refl

pub nine_is : decimal 9 ≡ 57 ∷ []
unfolding decimal_of
nine_is = refl

pub ten_is : decimal 10 ≡ 49 ∷ 48 ∷ []
unfolding decimal_of
ten_is = refl

-- the largest of 16 bits, 65535
pub short_is : decimal 65535 ≡ 54 ∷ 53 ∷ 53 ∷ 51 ∷ 53 ∷ []
unfolding decimal_of
short_is = refl

-- the largest of 64 bits, 18446744073709551615: all of the 20 digits
pub long_is
    : decimal (2 ^ 64 - 1)
    ≡ 49 ∷ 56 ∷ 52 ∷ 52 ∷ 54 ∷ 55 ∷ 52 ∷ 52 ∷ 48 ∷ 55 ∷ 51 ∷ 55 ∷ 48 ∷ 57 ∷ 53 ∷ 53 ∷ 49 ∷ 54 ∷ 49 ∷ 53 ∷ []
unfolding decimal_of
long_is = refl

-- steps=5, of document 01's replay
pub line_is : field_line word_steps 5 ≡ 115 ∷ 116 ∷ 101 ∷ 112 ∷ 115 ∷ 61 ∷ 53 ∷ 10 ∷ []
unfolding decimal_of
line_is = refl

-- two bytes of room take the first two of three
pub cut_off : Written (7 ∷ 7 ∷ []) (49 ∷ 50 ∷ []) 2 (49 ∷ 50 ∷ 51 ∷ [])
cut_off = record { count = refl; bytes = refl }

-- what is not written over stays
pub rest_stays : Written (7 ∷ 7 ∷ 7 ∷ []) (49 ∷ 7 ∷ 7 ∷ []) 1 (49 ∷ [])
rest_stays = record { count = refl; bytes = refl }

-- what report writes of an outcome's numbers is the report of that outcome
pub report_is
    : (op : List ℕ) (r : Outcome)
    → op
    ++ field_line word_answer r.answer
    ++ field_line word_value r.value
    ++ field_line word_steps r.steps
    ++ field_line word_free (free_count r.queue)
    ≡ report op r
report_is op r = refl
