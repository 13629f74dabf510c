-- The words of a replay (document 01, "Replays, with one given whole") as bytes.
use Rattle.std.specs.Prelude.{List, [], ◌∷◌, ℕ}

-- size=
abbrev pub word_size : List ℕ
word_size = 115 ∷ 105 ∷ 122 ∷ 101 ∷ 61 ∷ []

-- indirect=
abbrev pub word_indirect : List ℕ
word_indirect = 105 ∷ 110 ∷ 100 ∷ 105 ∷ 114 ∷ 101 ∷ 99 ∷ 116 ∷ 61 ∷ []

-- event=
abbrev pub word_event : List ℕ
word_event = 101 ∷ 118 ∷ 101 ∷ 110 ∷ 116 ∷ 61 ∷ []

-- op=add\n
abbrev pub line_add : List ℕ
line_add = 111 ∷ 112 ∷ 61 ∷ 97 ∷ 100 ∷ 100 ∷ 10 ∷ []

-- op=used\n
abbrev pub line_used : List ℕ
line_used = 111 ∷ 112 ∷ 61 ∷ 117 ∷ 115 ∷ 101 ∷ 100 ∷ 10 ∷ []

-- op=pop\n
abbrev pub line_pop : List ℕ
line_pop = 111 ∷ 112 ∷ 61 ∷ 112 ∷ 111 ∷ 112 ∷ 10 ∷ []

-- in=
abbrev pub word_in : List ℕ
word_in = 105 ∷ 110 ∷ 61 ∷ []

-- out=
abbrev pub word_out : List ℕ
word_out = 111 ∷ 117 ∷ 116 ∷ 61 ∷ []

-- id=
abbrev pub word_id : List ℕ
word_id = 105 ∷ 100 ∷ 61 ∷ []

-- len=
abbrev pub word_len : List ℕ
word_len = 108 ∷ 101 ∷ 110 ∷ 61 ∷ []

-- token=
abbrev pub word_token : List ℕ
word_token = 116 ∷ 111 ∷ 107 ∷ 101 ∷ 110 ∷ 61 ∷ []
