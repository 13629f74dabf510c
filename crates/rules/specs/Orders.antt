-- The orders of "When the queue says no", tried: for each two refusals that follow one another in document 01's order of a call, an input to which
-- both apply, and the number that it gets. One statement over one list.
use Rattle.std.specs.Prelude.{◌≡◌, refl, Bool, true, false, List, [], ◌∷◌, ℕ, replicate}
use Rattle.virtio.specs.declared.Buffer.{Buffer}
use Rattle.virtio.specs.Memory.{used_idx, used_id}
use Rattle.rules.specs.declared.Open.TheVariants.{PeekIdx}
use Rattle.rules.specs.Record.{with_counts, with_call}
use Rattle.rules.specs.Answer.{Outcome}
use Rattle.rules.specs.Calls.{peek_used, can_pop, should_notify, set_dev_notify, available_desc, step, run}
use Rattle.rules.specs.New.{Ask, new}
use Rattle.rules.specs.Owning.{Owned, own_new, poll, release}
use Rattle.rules.specs.Computing.{computing}
use Rattle.rules.specs.Cases.{Case, agree, State, plain, four, made, left, stores, gives, buffer, adding, popping, add1, add4, said}

-- ---- what breaks what

-- too many used; regions one byte short; a peek open
abbrev bad : State → State
bad s =
    record { queue = with_counts s.queue (record { used = 5; free = 0; avail = 0; last = 0 }); memory = s.memory }

abbrev short : State → State
short s = record { queue = s.queue; memory = record { one = replicate 77 0; two = s.memory.two; pool = s.memory.pool } }

abbrev busy : State → State
busy s = record { queue = with_call s.queue PeekIdx; memory = s.memory }

abbrev fresh : State
fresh = made (four plain)

abbrev filled : State
filled = left add4

abbrev empty : Buffer
empty = record { addr = 0; len = 0; output = true }

-- an answer and how many steps were made
abbrev ran : Outcome → List ℕ
ran o = o.answer ∷ o.steps ∷ []

-- ---- the queue's calls

abbrev asks : ℕ → Bool → ℕ → ℕ → Ask
asks n used most one =
    record { n = n; in_use = used; most = most; modes = plain; base_one = one; base_two = 4096; base_pool = 0 }

abbrev news : Ask → List ℕ
news a = (new a (record { one = replicate 78 0; two = replicate 38 0; pool = [] })).answer ∷ []

abbrev pub queue_orders : List Case
queue_orders =
    -- new: 5, 6, 1, 13
    record { got = news (asks 3 true 4 0); want = 5 ∷ [] }
    ∷ record { got = news (asks 4 true 3 0); want = 6 ∷ [] }
    ∷ record { got = news (asks 4 false 3 1); want = 1 ∷ [] }
    ∷ record { got = news (asks 4 false 4 1); want = 13 ∷ [] }
    ∷ record { got = news (asks 4 false 4 0); want = 0 ∷ [] }
    -- new: sizes 0, 3 and 128
    ∷ record { got = news (asks 0 false 4 0); want = 5 ∷ [] }
    ∷ record { got = news (asks 128 false 200 0); want = 5 ∷ [] }
    -- add: 12, 13, 11, 1, 2, 7
    ∷ record { got = said (adding [] (short (bad fresh))); want = 12 ∷ 0 ∷ [] }
    ∷ record { got = said (adding [] (busy (short fresh))); want = 13 ∷ 0 ∷ [] }
    ∷ record { got = said (adding [] (busy fresh)); want = 11 ∷ 0 ∷ [] }
    ∷ record { got = said (adding [] filled); want = 1 ∷ 0 ∷ [] }
    ∷ record { got = said (adding (empty ∷ []) filled); want = 2 ∷ 0 ∷ [] }
    ∷ record { got = said (adding (empty ∷ []) fresh); want = 7 ∷ 0 ∷ [] }
    -- pop: 12, 13, 11, then 3 after one step, 4, 8, 9 after three
    ∷ record { got = ran (popping 0 [] (short (bad fresh))); want = 12 ∷ 0 ∷ [] }
    ∷ record { got = ran (popping 0 [] (busy (short fresh))); want = 13 ∷ 0 ∷ [] }
    ∷ record { got = ran (popping 0 [] (busy fresh)); want = 11 ∷ 0 ∷ [] }
    ∷ record { got = ran (popping 9 [] (stores (used_id 0) 1 fresh)); want = 3 ∷ 1 ∷ [] }
    ∷ record { got = ran (popping 9 [] (gives 1 0 fresh)); want = 4 ∷ 3 ∷ [] }
    ∷ record { got = ran (popping 1 [] (gives 1 0 fresh)); want = 8 ∷ 3 ∷ [] }
    ∷ record { got = ran (popping 0 [] (gives 0 0 (left add1))); want = 9 ∷ 3 ∷ [] }
    ∷ record { got = ran (popping 0 (buffer 0 ∷ []) (gives 0 0 (left add1))); want = 0 ∷ 4 ∷ [] }
    -- peek: 12, 13, 11, then 3
    ∷ record { got = ran (peek_used (short (bad fresh)).queue (short (bad fresh)).memory); want = 12 ∷ 0 ∷ [] }
    ∷ record { got = ran (peek_used (busy fresh).queue (short fresh).memory); want = 13 ∷ 0 ∷ [] }
    ∷ record { got = ran (peek_used (busy fresh).queue fresh.memory); want = 11 ∷ 0 ∷ [] }
    ∷ record { got = ran (peek_used fresh.queue fresh.memory); want = 3 ∷ 1 ∷ [] }
    -- a call of a single step: 12, 13, 11; available_desc needs no memory
    ∷ record { got = ran (can_pop (bad fresh).queue (short fresh).memory); want = 12 ∷ 0 ∷ [] }
    ∷ record { got = ran (should_notify (busy fresh).queue (short fresh).memory); want = 13 ∷ 0 ∷ [] }
    ∷ record { got = ran (set_dev_notify (busy fresh).queue fresh.memory true); want = 11 ∷ 0 ∷ [] }
    ∷ record { got = ran (available_desc (busy (bad fresh)).queue fresh.memory); want = 12 ∷ 0 ∷ [] }
    ∷ record { got = ran (available_desc (busy fresh).queue (short fresh).memory); want = 11 ∷ 0 ∷ [] }
    -- a step: 12, 13; with none open it does nothing
    ∷ record { got = ran (step (bad fresh).queue (short fresh).memory); want = 12 ∷ 0 ∷ [] }
    ∷ record { got = ran (step (busy fresh).queue (short fresh).memory); want = 13 ∷ 0 ∷ [] }
    ∷ record { got = ran (step fresh.queue fresh.memory); want = 0 ∷ 0 ∷ [] }
    ∷ record { got = ran (run 9 (busy fresh).queue fresh.memory); want = 3 ∷ 1 ∷ [] }
    ∷ []

pub queue_orders_hold : agree queue_orders ≡ true
unfolding computing four agree
queue_orders_hold = refl

-- ---- the owning queue's: 4 buffers of 8 bytes

abbrev owns : ℕ → ℕ → ℕ → State → Owned
owns base size have s = own_new s.queue base size s.memory (replicate have 7)

abbrev lined : Owned
lined = owns 0 8 33 fresh

-- the record with the queue, or what it is lent, changed
abbrev pub polling : State → Owned → Owned
polling s o =
    poll (record { queue = s.queue; base = o.owning.base; size = o.owning.size; held = o.owning.held }) s.memory o.store

abbrev pub releasing : State → Owned → Owned
releasing s o =
    release (record { queue = s.queue; base = o.owning.base; size = o.owning.size; held = o.owning.held }) s.memory o.store

abbrev pub rest : Owned → State
rest o = record { queue = o.owning.queue; memory = o.memory }

abbrev pub tells : Owned → List ℕ
tells o = o.answer ∷ o.value ∷ []

abbrev held : Owned
held = polling (gives 2 5 (rest lined)) lined

abbrev pub own_orders : List Case
own_orders =
    -- new: 12, 13, 11, 1
    record { got = tells (owns 1 0 33 (bad fresh)); want = 12 ∷ 0 ∷ [] }
    ∷ record { got = tells (owns 1 0 33 (busy fresh)); want = 13 ∷ 0 ∷ [] }
    ∷ record { got = tells (owns 0 8 31 (busy fresh)); want = 13 ∷ 0 ∷ [] }
    ∷ record { got = tells (owns 0 0 31 (busy fresh)); want = 11 ∷ 0 ∷ [] }
    ∷ record { got = tells (owns 0 0 31 fresh); want = 1 ∷ 0 ∷ [] }
    ∷ record { got = tells (owns 0 8 33 (left add1)); want = 1 ∷ 0 ∷ [] }
    ∷ record { got = tells lined; want = 0 ∷ 0 ∷ [] }
    -- poll: 12, 13, 11, 4, 10; nothing ready; a buffer
    ∷ record { got = tells (polling (short (bad (rest lined))) lined); want = 12 ∷ 0 ∷ [] }
    ∷ record { got = tells (polling (short (rest held)) held); want = 13 ∷ 0 ∷ [] }
    ∷ record { got = tells (polling (rest held) held); want = 11 ∷ 0 ∷ [] }
    ∷ record { got = tells (polling (stores used_idx 2 (stores (used_id 1) 4 (rest held))) held); want = 11 ∷ 0 ∷ [] }
    ∷ record { got = tells (polling (gives 4 9 (rest lined)) lined); want = 4 ∷ 0 ∷ [] }
    ∷ record { got = tells (polling (gives 2 9 (rest lined)) lined); want = 10 ∷ 0 ∷ [] }
    ∷ record { got = tells (polling (rest lined) lined); want = 0 ∷ 0 ∷ [] }
    ∷ record { got = tells held; want = 0 ∷ 2 ∷ [] }
    -- release: 12, 13, 8
    ∷ record { got = tells (releasing (short (bad (rest lined))) lined); want = 12 ∷ 0 ∷ [] }
    ∷ record { got = tells (releasing (short (rest lined)) lined); want = 13 ∷ 0 ∷ [] }
    ∷ record { got = tells (releasing (rest lined) lined); want = 8 ∷ 0 ∷ [] }
    ∷ record { got = tells (releasing (rest held) held); want = 0 ∷ 2 ∷ [] }
    ∷ []

pub own_orders_hold : agree own_orders ≡ true
unfolding computing four agree
own_orders_hold = refl
