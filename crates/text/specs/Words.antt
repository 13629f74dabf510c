-- The marks of a replay's text as bytes.
use Rattle.std.specs.Prelude.{List, [], ◌∷◌, ℕ}

-- none\n
abbrev pub line_none : List ℕ
line_none = 110 ∷ 111 ∷ 110 ∷ 101 ∷ 10 ∷ []

-- \n
abbrev pub newline : List ℕ
newline = 10 ∷ []

-- :
abbrev pub colon : List ℕ
colon = 58 ∷ []

-- ,
abbrev pub comma : List ℕ
comma = 44 ∷ []
