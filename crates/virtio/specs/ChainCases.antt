-- The rules of a chain, tried: chains that a device can read, direct, by an indirect table and by both, and one that breaks each rule. One statement
-- over one list.
use Rattle.std.specs.Prelude.{◌≡◌, refl, Bool, true, ◌&&◌, List, [], ◌∷◌, ℕ, ◌+◌, replicate}
use Rattle.lists.specs.Bytes.{get_le, put_le}
use Rattle.lists.specs.Pick.{one_if, same}
use Rattle.virtio.specs.declared.Desc.{Desc}
use Rattle.virtio.specs.declared.Buffer.{Buffer}
use Rattle.virtio.specs.Desc.{desc_at, put_desc}
use Rattle.virtio.specs.Memory.{Memory}
use Rattle.virtio.specs.Chain.{Reading, faulty, buffers, all_outputs, in_order, follow, no_indirect, list_of, expand, chain_at}

-- ---- a table of descriptors, and a pool of four at address 4,096

abbrev d : ℕ → ℕ → ℕ → ℕ → Desc
d addr len flags next = record { addr = addr; len = len; flags = flags; next = next }

abbrev puts : List ℕ → ℕ → List Desc → List ℕ
puts s a [] = s
puts s a (x ∷ xs) = puts (put_desc s a x) (a + 16) xs

abbrev laid : List Desc → List Desc → Memory
laid table pool = record { one = puts (replicate 80 0) 0 table; two = []; pool = puts (replicate 64 0) 0 pool }

-- what a chain says: 0 for faulty; 1 and then address, length and side of each buffer
abbrev lists : List Buffer → List ℕ
lists [] = []
lists (b ∷ bs) = b.addr ∷ b.len ∷ one_if b.output ∷ lists bs

abbrev says : Reading → List ℕ
says faulty = 0 ∷ []
says (buffers bs) = 1 ∷ lists bs

-- the chain at head h of a queue of size n
abbrev reads : ℕ → ℕ → List Desc → List Desc → List ℕ
reads n h table pool = says (chain_at n 4096 (laid table pool) h)

-- ---- the cases

pub record Case : Type 0 where
  pub got : List ℕ
  pub want : List ℕ

abbrev bad : List ℕ → Case
bad got = record { got = got; want = 0 ∷ [] }

-- an indirect descriptor for the first k entries of the pool; a plain input that goes on at 1
abbrev whole : ℕ → Desc
whole len = d 4096 len 4 0

abbrev first : Desc
first = d 7 8 1 1

-- two entries, an input and an output
abbrev two : List Desc
two = d 1 2 1 1 ∷ d 3 4 2 0 ∷ []

abbrev pub cases : List Case
cases =
    -- direct, along next: an input, two outputs; as many as the queue's size
    record { got = reads 4 1 (d 5 6 2 0 ∷ d 1 2 1 3 ∷ d 9 9 0 0 ∷ d 3 4 3 0 ∷ []) []; want = 1 ∷ 1 ∷ 2 ∷ 0 ∷ 3 ∷ 4 ∷ 1 ∷ 5 ∷ 6 ∷ 1 ∷ [] }
    ∷ record { got = reads 2 0 (d 1 2 1 1 ∷ d 3 4 0 0 ∷ []) []; want = 1 ∷ 1 ∷ 2 ∷ 0 ∷ 3 ∷ 4 ∷ 0 ∷ [] }
    -- indirect, along next; WRITE on the descriptor that refers to the table says nothing; the pool's last entry by itself
    ∷ record { got = reads 4 0 (whole 48 ∷ []) (d 1 2 1 2 ∷ d 5 6 2 0 ∷ d 3 4 3 1 ∷ []); want = 1 ∷ 1 ∷ 2 ∷ 0 ∷ 3 ∷ 4 ∷ 1 ∷ 5 ∷ 6 ∷ 1 ∷ [] }
    ∷ record { got = reads 4 0 (d 4096 32 6 0 ∷ []) two; want = 1 ∷ 1 ∷ 2 ∷ 0 ∷ 3 ∷ 4 ∷ 1 ∷ [] }
    ∷ record { got = reads 4 0 (d 4144 16 4 0 ∷ []) (whole 0 ∷ whole 0 ∷ whole 0 ∷ d 1 2 0 9 ∷ []); want = 1 ∷ 1 ∷ 2 ∷ 0 ∷ [] }
    -- plain descriptors, and then one INDIRECT
    ∷ record { got = reads 4 0 (first ∷ whole 32 ∷ []) two; want = 1 ∷ 7 ∷ 8 ∷ 0 ∷ 1 ∷ 2 ∷ 0 ∷ 3 ∷ 4 ∷ 1 ∷ [] }
    -- INDIRECT with NEXT, first or behind another
    ∷ bad (reads 4 0 (d 4096 32 5 1 ∷ d 7 8 2 0 ∷ []) two)
    ∷ bad (reads 4 0 (first ∷ d 4096 32 5 2 ∷ d 7 8 2 0 ∷ []) two)
    -- a table inside a table, first or last
    ∷ bad (reads 4 0 (whole 16 ∷ []) (d 4112 16 4 0 ∷ d 1 2 0 0 ∷ []))
    ∷ bad (reads 4 0 (whole 32 ∷ []) (d 1 2 1 1 ∷ d 4128 16 4 0 ∷ d 3 4 0 0 ∷ []))
    -- more descriptors than the queue's size: in one table, in all
    ∷ bad (reads 2 0 (whole 48 ∷ []) (d 1 2 1 1 ∷ d 3 4 1 2 ∷ d 5 6 0 0 ∷ []))
    ∷ bad (reads 2 0 (first ∷ whole 32 ∷ []) two)
    -- a head and a next that the table does not have, though there are bytes; a chain with no end
    ∷ bad (reads 4 4 [] [])
    ∷ bad (reads 4 0 (d 7 8 1 4 ∷ []) [])
    ∷ bad (reads 4 0 (first ∷ d 7 8 1 0 ∷ []) [])
    -- the same of an indirect table
    ∷ bad (reads 4 0 (whole 16 ∷ []) (d 1 2 1 1 ∷ d 3 4 2 0 ∷ []))
    ∷ bad (reads 4 0 (whole 32 ∷ []) (d 1 2 1 1 ∷ d 3 4 1 0 ∷ []))
    -- an input after an output: in the chain, in the table, between them
    ∷ bad (reads 4 0 (d 7 8 3 1 ∷ d 7 8 0 0 ∷ []) [])
    ∷ bad (reads 4 0 (whole 32 ∷ []) (d 1 2 3 1 ∷ d 3 4 0 0 ∷ []))
    ∷ bad (reads 4 0 (d 7 8 3 1 ∷ whole 32 ∷ []) two)
    -- a table's length: not a multiple of 16, none
    ∷ bad (reads 4 0 (whole 33 ∷ []) two)
    ∷ bad (reads 4 0 (whole 8 ∷ []) (d 1 2 0 0 ∷ []))
    ∷ bad (reads 4 0 (whole 0 ∷ []) (d 1 2 0 0 ∷ []))
    -- a table before the pool, behind it, and half out of it
    ∷ bad (reads 4 0 (d 4080 16 4 0 ∷ []) (d 1 2 0 0 ∷ []))
    ∷ bad (reads 4 0 (d 4160 16 4 0 ∷ []) [])
    ∷ bad (reads 4 0 (d 4144 32 4 0 ∷ []) [])
    ∷ []

unfoldable pub agree : List Case → Bool
agree [] = true
agree (c ∷ cs) = same c.got c.want && agree cs

-- THE STATEMENT: in every case the chain says what is wanted
pub cases_hold : agree cases ≡ true
unfolding get_le put_le same desc_at put_desc all_outputs in_order follow no_indirect list_of expand chain_at agree
cases_hold = refl
