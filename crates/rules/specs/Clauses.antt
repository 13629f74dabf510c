-- The clauses of a well-formed record, tried: for each a record that breaks it, and none before it. One statement over one list.
use Rattle.std.specs.Prelude.{◌≡◌, refl, true, List, [], ◌∷◌, ℕ, set}
use Rattle.virtio.specs.declared.Desc.{Desc}
use Rattle.rules.specs.declared.Open.TheVariants.{Add, PopIdx, PopStore}
use Rattle.rules.specs.Record.{Queue, with_counts, with_tables, with_call}
use Rattle.rules.specs.WellFormed.{broken}
use Rattle.rules.specs.Calls.{open_add}
use Rattle.rules.specs.Computing.{computing}
use Rattle.rules.specs.Cases.{Case, agree, plain, four, made, buffers, adding, add1, list4}

-- ---- records, and changes to them

abbrev fresh : Queue
fresh = (four plain).queue

-- an add of two buffers, direct; of four, indirect
abbrev pair : Queue
pair = (adding (buffers 2) (made (four plain))).queue

abbrev list : Queue
list = list4.queue

abbrev sized : ℕ → Queue → Queue
sized n q = record { n = n; modes = q.modes; base = q.base; counts = q.counts; tables = q.tables; call = q.call }

abbrev based : ℕ → Queue → Queue
based b q = record { n = q.n; modes = q.modes; base = b; counts = q.counts; tables = q.tables; call = q.call }

abbrev counting : ℕ → ℕ → ℕ → ℕ → Queue → Queue
counting used free avail last q = with_counts q (record { used = used; free = free; avail = avail; last = last })

abbrev desc : ℕ → ℕ → ℕ → ℕ → Desc
desc a l f x = record { addr = a; len = l; flags = f; next = x }

abbrev shadowed : ℕ → Desc → Queue → Queue
shadowed i d q =
    with_tables q (record { shadow = set q.tables.shadow i d; noted = q.tables.noted; kept = q.tables.kept })

abbrev noting : ℕ → ℕ → Queue → Queue
noting h k q =
    with_tables q (record { shadow = q.tables.shadow; noted = set q.tables.noted h k; kept = q.tables.kept })

abbrev breaks : Queue → ℕ → Case
breaks q clause = record { got = broken q ∷ []; want = clause ∷ [] }

abbrev pub clauses : List Case
clauses =
    -- 0: sound, fresh, with chains out, with an add open
    breaks fresh 0
    ∷ breaks pair 0
    ∷ breaks list 0
    ∷ breaks (open_add fresh (four plain).memory (buffers 2)).queue 0
    -- 1 size, 2 base
    ∷ breaks (sized 3 fresh) 1
    ∷ breaks (based 4096 fresh) 2
    ∷ breaks (based 1 list) 2
    -- 3 num_used, 4 free_head and next
    ∷ breaks (counting 5 0 0 0 fresh) 3
    ∷ breaks (counting 0 4 0 0 fresh) 4
    ∷ breaks (shadowed 3 (desc 0 0 0 4) fresh) 4
    -- 5: the free list meets 0 twice; two chains share a descriptor; a descriptor is lost
    ∷ breaks (shadowed 2 (desc 0 0 0 0) fresh) 5
    ∷ breaks (noting 1 1 pair) 5
    ∷ breaks (counting 1 0 0 0 fresh) 5
    -- 6: a chain that ends early, and one that goes on
    ∷ breaks (shadowed 0 (desc 1 16 2 1) pair) 6
    ∷ breaks (shadowed 1 (desc 0 16 3 2) pair) 6
    -- 7: flags, address, length of an indirect head; INDIRECT when not in the mode
    ∷ breaks (shadowed 0 (desc 8192 64 6 1) list) 7
    ∷ breaks (shadowed 0 (desc 8193 64 4 1) list) 7
    ∷ breaks (shadowed 0 (desc 8192 65 4 1) list) 7
    ∷ breaks (shadowed 0 (desc 8192 16 4 1) list) 7
    ∷ breaks (shadowed 0 (desc 8192 80 4 1) list) 7
    ∷ breaks (shadowed 0 (desc 0 64 4 1) add1.queue) 7
    -- 8: an empty buffer; an input after an output
    ∷ breaks (shadowed 0 (desc 1 0 3 1) pair) 8
    ∷ breaks (shadowed 1 (desc 0 16 0 2) pair) 8
    -- 9: one chain is out; less one while an add is open
    ∷ breaks (counting 2 2 2 0 pair) 9
    ∷ breaks (with_call pair (Add 0 0)) 9
    -- 10: a step past the end; a head that is not out; more descriptors to store than are free
    ∷ breaks (with_call (counting 2 2 0 0 pair) (Add 0 5)) 10
    ∷ breaks (with_call (counting 2 2 0 0 pair) (Add 1 0)) 10
    ∷ breaks (with_call pair (PopStore 3 0 0)) 10
    ∷ breaks (with_call pair (PopStore 2 2 0)) 10
    ∷ breaks (with_call pair (PopStore 2 1 0)) 0
    ∷ breaks (with_call pair (PopIdx 9 true)) 0
    ∷ []

pub clauses_hold : agree clauses ≡ true
unfolding computing four agree
clauses_hold = refl
