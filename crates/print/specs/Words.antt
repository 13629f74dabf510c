-- The keys of what a replay prints, as bytes.
use Rattle.std.specs.Prelude.{List, [], ◌∷◌, ℕ}

-- answer=
abbrev pub word_answer : List ℕ
word_answer = 97 ∷ 110 ∷ 115 ∷ 119 ∷ 101 ∷ 114 ∷ 61 ∷ []

-- value=
abbrev pub word_value : List ℕ
word_value = 118 ∷ 97 ∷ 108 ∷ 117 ∷ 101 ∷ 61 ∷ []

-- steps=
abbrev pub word_steps : List ℕ
word_steps = 115 ∷ 116 ∷ 101 ∷ 112 ∷ 115 ∷ 61 ∷ []

-- free=
abbrev pub word_free : List ℕ
word_free = 102 ∷ 114 ∷ 101 ∷ 101 ∷ 61 ∷ []

-- bad=
abbrev pub word_bad : List ℕ
word_bad = 98 ∷ 97 ∷ 100 ∷ 61 ∷ []
