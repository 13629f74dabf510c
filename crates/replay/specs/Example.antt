-- The replay that document 01 gives whole, with all that it prints.
use Rattle.std.specs.Prelude.{◌≡◌, refl, List, [], ◌∷◌, ℕ}
use Rattle.rules.specs.Computing.{computing}
use Rattle.text.specs.Text.{starts, digits_in, number_in, entries}
use Rattle.print.specs.Print.{decimal_of}
use Rattle.replay.specs.Replay.{completed, add_block, used_block, pop_block, block, blocks, replayed, transcript}

abbrev pub input : List ℕ
input =
    -- size=4
    115 ∷ 105 ∷ 122 ∷ 101 ∷ 61 ∷ 52 ∷ 10 ∷
    -- indirect=0
    105 ∷ 110 ∷ 100 ∷ 105 ∷ 114 ∷ 101 ∷ 99 ∷ 116 ∷ 61 ∷ 48 ∷ 10 ∷
    -- event=0
    101 ∷ 118 ∷ 101 ∷ 110 ∷ 116 ∷ 61 ∷ 48 ∷ 10 ∷
    -- op=add
    111 ∷ 112 ∷ 61 ∷ 97 ∷ 100 ∷ 100 ∷ 10 ∷
    -- in=4096:10
    105 ∷ 110 ∷ 61 ∷ 52 ∷ 48 ∷ 57 ∷ 54 ∷ 58 ∷ 49 ∷ 48 ∷ 10 ∷
    -- out=8192:20
    111 ∷ 117 ∷ 116 ∷ 61 ∷ 56 ∷ 49 ∷ 57 ∷ 50 ∷ 58 ∷ 50 ∷ 48 ∷ 10 ∷
    -- op=used
    111 ∷ 112 ∷ 61 ∷ 117 ∷ 115 ∷ 101 ∷ 100 ∷ 10 ∷
    -- id=0
    105 ∷ 100 ∷ 61 ∷ 48 ∷ 10 ∷
    -- len=20
    108 ∷ 101 ∷ 110 ∷ 61 ∷ 50 ∷ 48 ∷ 10 ∷
    -- op=pop
    111 ∷ 112 ∷ 61 ∷ 112 ∷ 111 ∷ 112 ∷ 10 ∷
    -- token=0
    116 ∷ 111 ∷ 107 ∷ 101 ∷ 110 ∷ 61 ∷ 48 ∷ 10 ∷
    -- in=4096:10
    105 ∷ 110 ∷ 61 ∷ 52 ∷ 48 ∷ 57 ∷ 54 ∷ 58 ∷ 49 ∷ 48 ∷ 10 ∷
    -- out=8192:20
    111 ∷ 117 ∷ 116 ∷ 61 ∷ 56 ∷ 49 ∷ 57 ∷ 50 ∷ 58 ∷ 50 ∷ 48 ∷ 10 ∷ []

abbrev pub output : List ℕ
output =
    -- size=4
    115 ∷ 105 ∷ 122 ∷ 101 ∷ 61 ∷ 52 ∷ 10 ∷
    -- indirect=0
    105 ∷ 110 ∷ 100 ∷ 105 ∷ 114 ∷ 101 ∷ 99 ∷ 116 ∷ 61 ∷ 48 ∷ 10 ∷
    -- event=0
    101 ∷ 118 ∷ 101 ∷ 110 ∷ 116 ∷ 61 ∷ 48 ∷ 10 ∷
    -- op=add
    111 ∷ 112 ∷ 61 ∷ 97 ∷ 100 ∷ 100 ∷ 10 ∷
    -- answer=0
    97 ∷ 110 ∷ 115 ∷ 119 ∷ 101 ∷ 114 ∷ 61 ∷ 48 ∷ 10 ∷
    -- value=0
    118 ∷ 97 ∷ 108 ∷ 117 ∷ 101 ∷ 61 ∷ 48 ∷ 10 ∷
    -- steps=5
    115 ∷ 116 ∷ 101 ∷ 112 ∷ 115 ∷ 61 ∷ 53 ∷ 10 ∷
    -- free=2
    102 ∷ 114 ∷ 101 ∷ 101 ∷ 61 ∷ 50 ∷ 10 ∷
    -- op=pop
    111 ∷ 112 ∷ 61 ∷ 112 ∷ 111 ∷ 112 ∷ 10 ∷
    -- answer=0
    97 ∷ 110 ∷ 115 ∷ 119 ∷ 101 ∷ 114 ∷ 61 ∷ 48 ∷ 10 ∷
    -- value=20
    118 ∷ 97 ∷ 108 ∷ 117 ∷ 101 ∷ 61 ∷ 50 ∷ 48 ∷ 10 ∷
    -- steps=5
    115 ∷ 116 ∷ 101 ∷ 112 ∷ 115 ∷ 61 ∷ 53 ∷ 10 ∷
    -- free=4
    102 ∷ 114 ∷ 101 ∷ 101 ∷ 61 ∷ 52 ∷ 10 ∷ []

-- THE EXAMPLE, whole
pub example_holds : transcript input ≡ output
unfolding computing starts digits_in number_in entries decimal_of completed add_block used_block pop_block block blocks replayed transcript
example_holds = refl
