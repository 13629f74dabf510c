-- Document 01's worked replay, and what its calls leave in memory, tried: the example's answers, steps and free descriptors, descriptor 0's sixteen
-- bytes, and that the device reads what was published, direct and indirect, as the list given. One statement over one list.
use Rattle.std.specs.Prelude.{◌≡◌, refl, true, false, List, [], ◌∷◌, ◌++◌, ℕ}
use lib.ListN.{take, drop}
use Rattle.lists.specs.Pick.{one_if}
use Rattle.virtio.specs.declared.Buffer.{Buffer}
use Rattle.virtio.specs.Chain.{Reading, faulty, buffers, chain_at}
use Rattle.rules.specs.Record.{free_count}
use Rattle.rules.specs.Answer.{Outcome}
use Rattle.rules.specs.Calls.{same_list, run, open_add, open_pop}
use Rattle.rules.specs.Owning.{shown, Owned, own_new, poll}
use Rattle.rules.specs.Computing.{computing}
use Rattle.rules.specs.Cases.{Case, agree, State, plain, lists, events, four, made, left, gives, adding, popping}

abbrev both : List Buffer
both = record { addr = 4096; len = 10; output = false } ∷ record { addr = 8192; len = 20; output = true } ∷ []

-- what a replay prints of a call: answer, value, steps, free descriptors
abbrev prints : Outcome → List ℕ
prints o = o.answer ∷ o.value ∷ o.steps ∷ free_count o.queue ∷ []

abbrev added : Outcome
added = adding both (made (four plain))

abbrev listed : Outcome
listed = adding both (made (four lists))

-- 1 where the chain at head 0 means these buffers
abbrev reads : Reading → List Buffer → ℕ
reads faulty bs = 0
reads (buffers cs) bs = one_if (same_list cs bs)

abbrev at_head : ℕ → Outcome → ℕ
at_head base o = reads (chain_at 4 base o.memory 0) both

-- the add opened, and run with a budget
abbrev half : ℕ → Outcome
half b =
    let o : Outcome = open_add (four plain).queue (four plain).memory both in
    run b o.queue o.memory

-- so an indirect add, and the pop of a chain of two with event_idx, which the device has given back
abbrev half_listed : ℕ → Outcome
half_listed b =
    let o : Outcome = open_add (four lists).queue (four lists).memory both in
    run b o.queue o.memory

abbrev half_popped : ℕ → Outcome
half_popped b =
    let s : State = gives 0 20 (left (adding both (made (four events)))) in
    let o : Outcome = open_pop s.queue s.memory 0 both in
    run b o.queue o.memory

-- an owning queue of 4 buffers of 8 bytes, whose store holds 1, 2, 3, .. in buffer 2; the device reports 5 bytes of it
abbrev owned : Owned
owned = own_new (four plain).queue 0 8 (four plain).memory (lib.ListN.replicate 33 7)

abbrev store : List ℕ
store = lib.Seq.sets owned.store 16 (1 ∷ 2 ∷ 3 ∷ 4 ∷ 5 ∷ 6 ∷ 7 ∷ 8 ∷ [])

abbrev polled : Owned
polled =
    let s : State = gives 2 5 (record { queue = owned.owning.queue; memory = owned.memory }) in
    poll (record { queue = s.queue; base = owned.owning.base; size = owned.owning.size; held = owned.owning.held }) s.memory store

abbrev pub worked : List Case
worked =
    record { got = prints added; want = 0 ∷ 0 ∷ 5 ∷ 2 ∷ [] }
    ∷ record { got = prints (popping 0 both (gives 0 20 (left added))); want = 0 ∷ 20 ∷ 5 ∷ 4 ∷ [] }
    ∷ record { got = take 16 added.memory.one; want = 0 ∷ 16 ∷ 0 ∷ 0 ∷ 0 ∷ 0 ∷ 0 ∷ 0 ∷ 10 ∷ 0 ∷ 0 ∷ 0 ∷ 1 ∷ 0 ∷ 1 ∷ 0 ∷ [] }
    -- the available ring: flags, idx 1, head 0
    ∷ record { got = take 6 (drop 64 added.memory.one); want = 0 ∷ 0 ∷ 1 ∷ 0 ∷ 0 ∷ 0 ∷ [] }
    -- the device reads the list given
    ∷ record { got = at_head 0 added ∷ at_head 8192 listed ∷ []; want = 1 ∷ 1 ∷ [] }
    -- the indirect add: one descriptor, 32 bytes at the pool's base, flags 4; its entries with next 1 and 2
    ∷ record { got = prints listed; want = 0 ∷ 0 ∷ 5 ∷ 3 ∷ [] }
    ∷ record { got = take 16 listed.memory.one; want = 0 ∷ 32 ∷ 0 ∷ 0 ∷ 0 ∷ 0 ∷ 0 ∷ 0 ∷ 32 ∷ 0 ∷ 0 ∷ 0 ∷ 4 ∷ 0 ∷ 1 ∷ 0 ∷ [] }
    ∷ record { got = take 4 (drop 12 listed.memory.pool); want = 1 ∷ 0 ∷ 1 ∷ 0 ∷ [] }
    ∷ record { got = take 4 (drop 28 listed.memory.pool); want = 2 ∷ 0 ∷ 2 ∷ 0 ∷ [] }
    -- its pop stores no descriptor: three loads
    ∷ record { got = prints (popping 0 both (gives 0 20 (left listed))); want = 0 ∷ 20 ∷ 3 ∷ 4 ∷ [] }
    -- a run takes the lesser of its budget and the steps left
    ∷ record { got = (half 0).steps ∷ (half 1).steps ∷ (half 4).steps ∷ (half 5).steps ∷ (half 6).steps ∷ []; want = 0 ∷ 1 ∷ 4 ∷ 5 ∷ 5 ∷ [] }
    -- half way the device sees nothing yet; the second descriptor's first store has NEXT, its second has not
    ∷ record { got = take 2 (drop 66 (half 4).memory.one); want = 0 ∷ 0 ∷ [] }
    ∷ record { got = take 2 (drop 28 (half 2).memory.one); want = 3 ∷ 0 ∷ [] }
    ∷ record { got = take 2 (drop 28 (half 3).memory.one); want = 2 ∷ 0 ∷ [] }
    -- an indirect add stores its entries first, then the descriptor
    ∷ record { got = take 1 (drop 12 (half_listed 1).memory.pool) ++ take 1 (drop 28 (half_listed 2).memory.pool); want = 1 ∷ 2 ∷ [] }
    ∷ record { got = take 1 (drop 12 (half_listed 2).memory.one) ++ take 1 (drop 12 (half_listed 3).memory.one); want = 0 ∷ 4 ∷ [] }
    -- a pop stores the freed descriptors first, then used_event
    ∷ record { got = take 1 (drop 8 (half_popped 3).memory.one) ++ take 1 (drop 8 (half_popped 4).memory.one); want = 10 ∷ 0 ∷ [] }
    ∷ record { got = take 1 (drop 76 (half_popped 5).memory.one) ++ take 1 (drop 76 (half_popped 6).memory.one); want = 0 ∷ 1 ∷ [] }
    -- owning: the store is cleared, its last byte stays; a poll shows the first bytes of the token's buffer
    ∷ record { got = drop 30 owned.store; want = 0 ∷ 0 ∷ 7 ∷ [] }
    ∷ record { got = shown polled.view polled.store; want = 1 ∷ 2 ∷ 3 ∷ 4 ∷ 5 ∷ [] }
    ∷ []

pub worked_holds : agree worked ≡ true
unfolding computing four agree
worked_holds = refl
