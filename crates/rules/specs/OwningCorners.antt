-- Corners of the owning queue, tried on 2 buffers of 8 bytes at 4,096: what its calls leave in record and memory, each clause of a well-formed
-- owning record, broken, and refusals by each of their grounds. One statement for each list.
use Rattle.std.specs.Prelude.{◌≡◌, refl, Option, None, Some, true, false, List, [], ◌∷◌, ◌++◌, ℕ, replicate, take, drop}
use Rattle.lists.specs.Pick.{rising}
use Rattle.virtio.specs.declared.Buffer.{Buffer}
use Rattle.virtio.specs.Memory.{used_flags, used_idx, used_id, used_len}
use Rattle.rules.specs.declared.Open.TheVariants.{PeekIdx}
use Rattle.rules.specs.declared.Held.{Held}
use Rattle.rules.specs.Record.{with_call}
use Rattle.rules.specs.Owning.{Owning, Owned, holds, shown, own_broken, own_new, poll_token, own_should_notify, own_set_dev_notify, own_view}
use Rattle.rules.specs.Computing.{computing}
use Rattle.rules.specs.Cases.{Case, agree, State, four, made, left, stores, gives, adding, popping}
use Rattle.rules.specs.Orders.{polling, releasing, rest, tells}
use Rattle.rules.specs.NewCorners.{nines, simple, aged}
use Rattle.rules.specs.Corners.{input, sized}

-- ---- new

abbrev owns : ℕ → ℕ → ℕ → State → Owned
owns base size have s = own_new s.queue base size s.memory (replicate have 7)

abbrev lined : Owned
lined = owns 4096 8 17 (made simple)

-- what is held: token and length, or nothing
abbrev said_held : Option Held → List ℕ
said_held None = []
said_held (Some h) = h.token ∷ h.len ∷ []

-- avail_idx, last_used_idx, the first broken clause, and what is held
abbrev stands : Owned → List ℕ
stands o =
    o.owning.queue.counts.avail ∷ o.owning.queue.counts.last ∷ own_broken o.owning ∷ said_held o.owning.held

-- descriptor 1; the available ring's idx and its two heads
abbrev descriptor : Owned → List ℕ
descriptor o = take 16 (drop 16 o.memory.one)

abbrev ring : Owned → List ℕ
ring o = take 6 (drop 34 o.memory.one)

abbrev second : List ℕ
second = 8 ∷ 16 ∷ 0 ∷ 0 ∷ 0 ∷ 0 ∷ 0 ∷ 0 ∷ 8 ∷ 0 ∷ 0 ∷ 0 ∷ 2 ∷ 0 ∷ 0 ∷ 0 ∷ []

-- a second element of the used ring
abbrev gives_too : ℕ → ℕ → State → State
gives_too id len s = stores used_idx 2 (stores (used_len 1) len (stores (used_id 1) id s))

-- two buffers were added, and popped in the order t, u
abbrev added : Buffer → Buffer → State
added a b = left (adding (b ∷ []) (left (adding (a ∷ []) (made simple))))

abbrev emptied : ℕ → ℕ → State
emptied t u =
    left (popping u (sized u 8 ∷ []) (gives_too u 0
    (left (popping t (sized t 8 ∷ []) (gives t 0 (added (sized 0 8) (sized 1 8)))))))

-- base and size of a refused record, what it holds, its queue's size, and the store's first byte
abbrev declined : Owned → List ℕ
declined o =
    o.answer ∷ o.owning.base ∷ o.owning.size ∷ o.owning.queue.n ∷ (take 1 o.store ++ said_held o.owning.held)

abbrev pub own_new_corners : List Case
own_new_corners =
    -- both buffers are out, the second one 8 bytes behind the base; the store is cleared, its last byte stays
    record { got = tells lined ++ stands lined; want = 0 ∷ 0 ∷ 2 ∷ 0 ∷ 0 ∷ [] }
    ∷ record { got = lined.owning.base ∷ lined.owning.size ∷ []; want = 4096 ∷ 8 ∷ [] }
    ∷ record { got = descriptor lined; want = second }
    ∷ record { got = ring lined; want = 2 ∷ 0 ∷ 0 ∷ 0 ∷ 1 ∷ 0 ∷ [] }
    ∷ record { got = lined.store; want = replicate 16 0 ++ (7 ∷ []) }
    -- refused: all zero but the queue; the store as it was
    ∷ record { got = declined (owns 4096 8 15 (made simple)); want = 13 ∷ 0 ∷ 0 ∷ 2 ∷ 7 ∷ [] }
    ∷ record { got = declined (owns 4097 8 16 (made simple)); want = 13 ∷ 0 ∷ 0 ∷ 2 ∷ 7 ∷ [] }
    ∷ record { got = declined (owns 18446744073709551616 8 16 (made simple)); want = 13 ∷ 0 ∷ 0 ∷ 2 ∷ 7 ∷ [] }
    ∷ record { got = declined (owns 4096 8 16 (record { queue = simple.queue; memory = nines 42 21 0 })); want = 13 ∷ 0 ∷ 0 ∷ 2 ∷ 7 ∷ [] }
    -- sizes 1 to 1,024
    ∷ record { got = declined (owns 4096 0 16 (made simple)); want = 1 ∷ 0 ∷ 0 ∷ 2 ∷ 7 ∷ [] }
    ∷ record { got = declined (owns 4096 1025 2050 (made simple)); want = 1 ∷ 0 ∷ 0 ∷ 2 ∷ 7 ∷ [] }
    ∷ record { got = tells (owns 4096 1024 2048 (made simple)) ++ tells (owns 4096 1 2 (made simple)); want = 0 ∷ 0 ∷ 0 ∷ 0 ∷ [] }
    -- the free order: 1, 0 is refused; 0, 1 is taken, though the indices went on
    ∷ record { got = declined (owns 4096 8 16 (emptied 0 1)); want = 1 ∷ 0 ∷ 0 ∷ 2 ∷ 7 ∷ [] }
    ∷ record { got = tells (owns 4096 8 16 (emptied 1 0)) ++ stands (owns 4096 8 16 (emptied 1 0)); want = 0 ∷ 0 ∷ 4 ∷ 2 ∷ 0 ∷ [] }
    ∷ []

pub own_new_corners_hold : agree own_new_corners ≡ true
unfolding computing four agree
own_new_corners_hold = refl

-- ---- poll and release

-- the device reported 5 bytes of buffer 1; 8; 9
abbrev held : Owned
held = polling (gives 1 5 (rest lined)) lined

abbrev whole : Owned
whole = polling (gives 1 8 (rest lined)) lined

abbrev over : Owned
over = polling (gives 1 9 (rest lined)) lined

abbrev back : Owned
back = releasing (rest held) held

abbrev again : Owned
again = polling (gives_too 0 3 (rest back)) back

-- with a store of so many bytes
abbrev stored : ℕ → Owned → Owned
stored have o =
    record { answer = o.answer; value = o.value; view = o.view; owning = o.owning; memory = o.memory; store = replicate have 7 }

-- legacy: the used ring is in region one
abbrev elder : Owned
elder = owns 4096 8 16 (made aged)

abbrev elder_held : Owned
elder_held = polling (gives 1 5 (rest elder)) elder

abbrev pub poll_corners : List Case
poll_corners =
    -- a poll shows the buffer's first bytes, as many as were reported, and pops it
    record { got = tells held ++ stands held; want = 0 ∷ 1 ∷ 2 ∷ 1 ∷ 0 ∷ 1 ∷ 5 ∷ [] }
    ∷ record { got = tells whole ++ stands whole; want = 0 ∷ 1 ∷ 2 ∷ 1 ∷ 0 ∷ 1 ∷ 8 ∷ [] }
    ∷ record { got = shown whole.view (stored 17 whole).store; want = replicate 8 7 }
    ∷ record { got = descriptor held; want = replicate 12 0 ++ (2 ∷ 0 ∷ 0 ∷ 0 ∷ []) }
    -- a release adds it again, in memory too
    ∷ record { got = tells back ++ stands back; want = 0 ∷ 1 ∷ 3 ∷ 1 ∷ 0 ∷ [] }
    ∷ record { got = descriptor back; want = second }
    ∷ record { got = ring back; want = 3 ∷ 0 ∷ 1 ∷ 0 ∷ 1 ∷ 0 ∷ [] }
    -- the next element is polled
    ∷ record { got = tells again ++ stands again; want = 0 ∷ 0 ∷ 3 ∷ 2 ∷ 0 ∷ 0 ∷ 3 ∷ [] }
    -- number 10 pops and adds, and shows nothing
    ∷ record { got = tells over ++ stands over; want = 10 ∷ 0 ∷ 3 ∷ 1 ∷ 0 ∷ [] }
    ∷ record { got = descriptor over; want = second }
    ∷ record { got = ring over; want = 3 ∷ 0 ∷ 1 ∷ 0 ∷ 1 ∷ 0 ∷ [] }
    ∷ record { got = shown over.view over.store; want = [] }
    -- 4 and nothing ready alter nothing; the id counts mod 65,536
    ∷ record { got = tells (polling (gives 2 5 (rest lined)) lined) ++ stands (polling (gives 2 5 (rest lined)) lined); want = 4 ∷ 0 ∷ 2 ∷ 0 ∷ 0 ∷ [] }
    ∷ record { got = tells (polling (rest lined) lined) ++ stands (polling (rest lined) lined); want = 0 ∷ 0 ∷ 2 ∷ 0 ∷ 0 ∷ [] }
    ∷ record { got = tells (polling (gives 65537 5 (rest lined)) lined); want = 0 ∷ 1 ∷ [] }
    -- the look told 0, and by the pop the element names 1; or none waits: the pop's number, and nothing altered
    ∷ record { got = tells (poll_token lined.owning 0 (gives 1 5 (rest lined)).memory []) ++ stands (poll_token lined.owning 0 (gives 1 5 (rest lined)).memory []); want = 4 ∷ 0 ∷ 2 ∷ 0 ∷ 0 ∷ [] }
    ∷ record { got = tells (poll_token lined.owning 0 lined.memory []) ++ stands (poll_token lined.owning 0 lined.memory []); want = 3 ∷ 0 ∷ 2 ∷ 0 ∷ 0 ∷ [] }
    -- 13 by the store
    ∷ record { got = tells (polling (gives 1 5 (rest lined)) (stored 15 lined)); want = 13 ∷ 0 ∷ [] }
    ∷ record { got = tells (releasing (rest held) (stored 15 held)); want = 13 ∷ 0 ∷ [] }
    ∷ record { got = tells (polling (gives 1 5 (rest lined)) (stored 16 lined)); want = 0 ∷ 1 ∷ [] }
    -- legacy
    ∷ record { got = tells elder_held ++ stands elder_held; want = 0 ∷ 1 ∷ 2 ∷ 1 ∷ 0 ∷ 1 ∷ 5 ∷ [] }
    ∷ record { got = tells (polling (rest elder) elder); want = 0 ∷ 0 ∷ [] }
    ∷ []

pub poll_corners_hold : agree poll_corners ≡ true
unfolding computing four agree
poll_corners_hold = refl

-- ---- the clauses

-- an owning record over what two adds left; `lined` with something else held
abbrev owning : ℕ → ℕ → Option Held → State → Owning
owning base size h s = record { queue = s.queue; base = base; size = size; held = h }

abbrev breaks : ℕ → Owning → Case
breaks clause o = record { got = own_broken o ∷ []; want = clause ∷ [] }

abbrev busy : State → State
busy s = record { queue = with_call s.queue PeekIdx; memory = s.memory }

abbrev pair : State
pair = added (sized 4096 8) (sized 4104 8)

abbrev pub own_clauses : List Case
own_clauses =
    breaks 0 (owning 4096 8 None pair)
    -- 11: a call of the queue is open
    ∷ breaks 11 (owning 4096 8 None (busy pair))
    -- 12: a base off a page, one above 2^64, a size above 1,024, no size
    ∷ breaks 12 (owning 4097 8 None (added (sized 4097 8) (sized 4105 8)))
    ∷ breaks 12 (owning 18446744073709551616 8 None (added (sized 18446744073709551616 8) (sized 18446744073709551624 8)))
    ∷ breaks 12 (owning 4096 1025 None (added (sized 4096 1025) (sized 5121 1025)))
    ∷ breaks 0 (owning 4096 1024 None (added (sized 4096 1024) (sized 5120 1024)))
    ∷ breaks 12 (owning 4096 0 None pair)
    -- 13: the buffers' order, an address, a length, a side, a chain of two
    ∷ breaks 13 (owning 4096 8 None (added (sized 4104 8) (sized 4096 8)))
    ∷ breaks 13 (owning 4096 8 None (added (sized 4096 8) (sized 4096 8)))
    ∷ breaks 13 (owning 4096 8 None (added (sized 4096 8) (sized 4104 7)))
    ∷ breaks 13 (owning 0 16 None (added (input 0) (sized 16 16)))
    ∷ breaks 13 (owning 4096 8 (holds 1 0) (left (adding (sized 4096 8 ∷ sized 4104 8 ∷ []) (made simple))))
    -- 14: one is not out and not held; one is out and held; no such token; another is not out; more bytes than its size
    ∷ breaks 14 (owning 4096 8 None (rest held))
    ∷ breaks 14 (owning 4096 8 (holds 0 5) (rest lined))
    ∷ breaks 14 (owning 4096 8 (holds 2 5) (rest lined))
    ∷ breaks 14 (owning 4096 8 (holds 0 5) (made simple))
    ∷ breaks 14 (owning 4096 8 (holds 1 9) (rest held))
    ∷ breaks 0 (owning 4096 8 (holds 1 8) (rest held))
    -- poll and release ask for them
    ∷ record { got = tells (polling (busy (rest lined)) lined) ++ tells (releasing (busy (rest held)) held); want = 12 ∷ 0 ∷ 12 ∷ 0 ∷ [] }
    ∷ record { got = tells (polling (rest held) lined) ++ tells (releasing (rest lined) held); want = 12 ∷ 0 ∷ 12 ∷ 0 ∷ [] }
    ∷ []

pub own_clauses_hold : agree own_clauses ≡ true
unfolding computing four agree
own_clauses_hold = refl

-- ---- the view

-- buffer 0 holds 0 to 7, buffer 1 holds 8 to 15
abbrev numbered : List ℕ
numbered = rising 16 0

abbrev views : List ℕ → Owning → List ℕ → Case
views want o s = record { got = own_view o s; want = want }

abbrev pub view_corners : List Case
view_corners =
    -- the reported bytes, none, or all of the held buffer
    views (8 ∷ 9 ∷ 10 ∷ 11 ∷ 12 ∷ []) held.owning numbered
    ∷ views [] (polling (gives 1 0 (rest lined)) lined).owning numbered
    ∷ views (rising 8 8) whole.owning (rising 20 0)
    -- nothing held; a store that is too short
    ∷ views [] lined.owning numbered
    ∷ views [] held.owning (rising 15 0)
    -- forged: both buffers, a token that is out, no such token, more bytes than its size
    ∷ views [] (owning 4096 8 (holds 0 16) (rest lined)) numbered
    ∷ views [] (owning 4096 8 (holds 0 5) (rest lined)) numbered
    ∷ views [] (owning 4096 8 (holds 2 5) (rest held)) (rising 32 0)
    ∷ views [] (owning 4096 8 (holds 1 9) (rest held)) (rising 32 0)
    ∷ []

pub view_corners_hold : agree view_corners ≡ true
unfolding computing four agree
view_corners_hold = refl

-- ---- what passes through

-- a device that asks not to be notified
abbrev quiet : State
quiet = stores used_flags 1 (rest lined)

abbrev ordered : Owned
ordered = own_set_dev_notify held.owning held.memory [] false

abbrev pub pass_corners : List Case
pass_corners =
    -- the queue's answer, with a buffer held too; no store is needed
    record { got = tells (own_should_notify lined.owning lined.memory []); want = 0 ∷ 1 ∷ [] }
    ∷ record { got = tells (own_should_notify lined.owning quiet.memory []); want = 0 ∷ 0 ∷ [] }
    ∷ record { got = tells ordered ++ stands ordered; want = 0 ∷ 0 ∷ 2 ∷ 1 ∷ 0 ∷ 1 ∷ 5 ∷ [] }
    ∷ record { got = take 2 (drop 32 ordered.memory.one); want = 1 ∷ 0 ∷ [] }
    -- 12, and no byte is stored
    ∷ record { got = tells (own_should_notify (owning 4096 8 (holds 0 5) (rest lined)) lined.memory []); want = 12 ∷ 0 ∷ [] }
    ∷ record { got = tells (own_set_dev_notify (owning 4096 8 (holds 0 5) (rest lined)) lined.memory [] false); want = 12 ∷ 0 ∷ [] }
    ∷ record { got = take 2 (drop 32 (own_set_dev_notify (owning 4096 8 (holds 0 5) (rest lined)) lined.memory [] false).memory.one); want = 0 ∷ 0 ∷ [] }
    ∷ []

pub pass_corners_hold : agree pass_corners ≡ true
unfolding computing four agree
pass_corners_hold = refl
