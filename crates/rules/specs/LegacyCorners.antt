-- The legacy layout, tried: the used ring is read in region one, where the second page starts, and region two is not lent. One statement over one
-- list.
use Rattle.std.specs.Prelude.{◌≡◌, refl, true, false, List, [], ◌∷◌, ◌++◌, ℕ, replicate, take, drop}
use Rattle.rules.specs.Answer.{Outcome}
use Rattle.rules.specs.Calls.{peek_used, can_pop, should_notify}
use Rattle.rules.specs.New.{new}
use Rattle.rules.specs.Computing.{computing}
use Rattle.rules.specs.Cases.{Case, agree, State, four, made, buffer, adding, popping, said}
use Rattle.rules.specs.NewCorners.{asked, nines, aged}
use Rattle.rules.specs.Corners.{on}

abbrev aged_add : Outcome
aged_add = adding (buffer 5 ∷ []) (made aged)

-- the used ring's flags, idx, and the id and length of its first element, where the second page starts
abbrev ringed : ℕ → ℕ → ℕ → ℕ → ℕ → State
ringed flags idx id high len = record {
  queue = aged_add.queue;
  memory = record {
    one = replicate 4096 9
        ++ ((flags ∷ 0 ∷ idx ∷ 0 ∷ id ∷ 0 ∷ high ∷ 0 ∷ len ∷ 0 ∷ 0 ∷ 0 ∷ []) ++ replicate 4084 9);
    two = [];
    pool = [];
  };
}

-- with event_idx: avail_event 65,535, behind the elements
abbrev heeded : State
heeded = record {
  queue = (new (asked (record { indirect = false; event_idx = true; legacy = true }) 0 0 0) (nines 8192 0 0)).queue;
  memory = record { one = replicate 4116 0 ++ (255 ∷ 255 ∷ replicate 4074 0); two = []; pool = [] };
}

abbrev pub legacy_corners : List Case
legacy_corners =
    -- the available ring after an add: flags, idx 1, head 0
    record { got = take 6 (drop 32 aged_add.memory.one); want = 0 ∷ 0 ∷ 1 ∷ 0 ∷ 0 ∷ 0 ∷ [] }
    -- idx, id and length are read where the used ring lies
    ∷ record { got = said (popping 0 (buffer 5 ∷ []) (ringed 0 1 0 0 3)); want = 0 ∷ 3 ∷ [] }
    ∷ record { got = said (popping 1 [] (ringed 0 1 1 0 3)); want = 8 ∷ 0 ∷ [] }
    ∷ record { got = said (popping 0 [] (ringed 0 0 0 0 3)); want = 3 ∷ 0 ∷ [] }
    ∷ record { got = said (on peek_used (ringed 0 1 1 1 3)); want = 0 ∷ 1 ∷ [] }
    ∷ record { got = said (on can_pop (ringed 0 1 0 0 3)) ++ said (on can_pop (ringed 0 0 0 0 3)); want = 0 ∷ 1 ∷ 0 ∷ 0 ∷ [] }
    -- and so are the flags, and with event_idx avail_event
    ∷ record { got = said (on should_notify (ringed 1 1 0 0 3)) ++ said (on should_notify (ringed 2 1 0 0 3)); want = 0 ∷ 0 ∷ 0 ∷ 1 ∷ [] }
    ∷ record { got = said (on should_notify heeded); want = 0 ∷ 1 ∷ [] }
    -- 13: one byte of the pages is not lent
    ∷ record { got = said (on can_pop (record { queue = aged.queue; memory = nines 8191 22 0 })); want = 13 ∷ 0 ∷ [] }
    ∷ []

pub legacy_corners_hold : agree legacy_corners ≡ true
unfolding computing four agree
legacy_corners_hold = refl
