-- The call new, tried over memory that held 9s: the three addresses, which bytes it clears and links and which it leaves, flexible and legacy, and
-- each ground of its number 13. One statement over one list.
use Rattle.std.specs.Prelude.{◌≡◌, refl, true, false, List, [], ◌∷◌, ◌++◌, ℕ, replicate, take, drop}
use Rattle.virtio.specs.Memory.{Memory}
use Rattle.rules.specs.declared.Modes.{Modes}
use Rattle.rules.specs.New.{Ask, Made, new}
use Rattle.rules.specs.Computing.{computing}
use Rattle.rules.specs.Cases.{Case, agree, plain, lists, four}

abbrev pub old : Modes
old = record { indirect = false; event_idx = false; legacy = true }

abbrev pub asked : Modes → ℕ → ℕ → ℕ → Ask
asked o one two pool =
    record { n = 2; in_use = false; most = 2; modes = o; base_one = one; base_two = two; base_pool = pool }

abbrev pub nines : ℕ → ℕ → ℕ → Memory
nines one two pool = record { one = replicate one 9; two = replicate two 9; pool = replicate pool 9 }

-- size 2, two bytes more than needed: flexible with lists, flexible without, legacy
abbrev pub listed : Made
listed = new (asked lists 4096 12288 20480) (nines 44 24 66)

abbrev pub simple : Made
simple = new (asked plain 4096 12288 1) (nines 42 22 0)

abbrev pub aged : Made
aged = new (asked old 4096 1 1) (nines 8194 0 0)

-- answer and the three addresses
abbrev addresses : Made → List ℕ
addresses r = r.answer ∷ r.table ∷ r.avail ∷ r.used ∷ []

abbrev pub zeros : ℕ → List ℕ
zeros k = replicate k 0

abbrev pub new_corners : List Case
new_corners =
    -- the addresses
    record { got = addresses listed; want = 0 ∷ 4096 ∷ 4128 ∷ 12288 ∷ [] }
    ∷ record { got = addresses aged; want = 0 ∷ 4096 ∷ 4128 ∷ 8192 ∷ [] }
    -- the pool's base is kept if there are lists
    ∷ record { got = listed.queue.n ∷ listed.queue.base ∷ simple.queue.n ∷ simple.queue.base ∷ []; want = 2 ∷ 20480 ∷ 2 ∷ 0 ∷ [] }
    -- region one: descriptor 0 links to 1, else zeros up to what is not needed; region two: zeros; the pool as it was
    ∷ record { got = listed.memory.one; want = zeros 14 ++ (1 ∷ zeros 27) ++ (9 ∷ 9 ∷ []) }
    ∷ record { got = listed.memory.two; want = zeros 22 ++ (9 ∷ 9 ∷ []) }
    ∷ record { got = take 66 listed.memory.pool; want = replicate 66 9 }
    -- legacy: the front; the padding, the used ring at the page, the padding behind it; the end
    ∷ record { got = take 44 aged.memory.one; want = zeros 14 ++ (1 ∷ zeros 27) ++ (9 ∷ 9 ∷ []) }
    ∷ record { got = take 24 (drop 4095 aged.memory.one); want = 9 ∷ (zeros 22 ++ (9 ∷ [])) }
    ∷ record { got = drop 8192 aged.memory.one; want = 9 ∷ 9 ∷ [] }
    -- refused: no address, an all-zero record, memory as it was
    ∷ record { got = addresses (new (asked lists 4096 12288 20480) (nines 44 24 63)); want = 13 ∷ 0 ∷ 0 ∷ 0 ∷ [] }
    ∷ record { got = (new (asked lists 4097 0 0) (nines 42 22 64)).queue.n ∷ (new (asked lists 4097 0 4096) (nines 42 22 64)).queue.base ∷ []; want = 0 ∷ 0 ∷ [] }
    ∷ record { got = take 2 (new (asked lists 4097 0 0) (nines 42 22 64)).memory.one; want = 9 ∷ 9 ∷ [] }
    -- 13 by each region's length and base
    ∷ record { got = (new (asked lists 0 0 0) (nines 42 22 64)).answer ∷ []; want = 0 ∷ [] }
    ∷ record { got = (new (asked lists 0 0 0) (nines 41 22 64)).answer ∷ []; want = 13 ∷ [] }
    ∷ record { got = (new (asked lists 0 0 0) (nines 42 21 64)).answer ∷ []; want = 13 ∷ [] }
    ∷ record { got = (new (asked lists 0 1 0) (nines 42 22 64)).answer ∷ []; want = 13 ∷ [] }
    ∷ record { got = (new (asked lists 0 0 1) (nines 42 22 64)).answer ∷ []; want = 13 ∷ [] }
    -- a base plus its need up to 2^64, and above it
    ∷ record { got = (new (asked lists 18446744073709547520 0 0) (nines 42 22 64)).answer ∷ []; want = 0 ∷ [] }
    ∷ record { got = (new (asked lists 18446744073709551616 0 0) (nines 42 22 64)).answer ∷ []; want = 13 ∷ [] }
    ∷ record { got = (new (asked lists 0 0 18446744073709551616) (nines 42 22 64)).answer ∷ []; want = 13 ∷ [] }
    -- legacy needs both pages, and they end at 2^64 or before
    ∷ record { got = (new (asked old 0 0 0) (nines 8191 22 0)).answer ∷ []; want = 13 ∷ [] }
    ∷ record { got = (new (asked old 18446744073709547520 0 0) (nines 8192 0 0)).answer ∷ []; want = 13 ∷ [] }
    ∷ []

pub new_corners_hold : agree new_corners ≡ true
unfolding computing four agree
new_corners_hold = refl
