-- What a chain at a head means to a device: its buffers in order, or that the driver broke a rule (VIRTIO 1.1: 2.6.4 message framing,
-- 2.6.5 the descriptor table, 2.6.5.3 indirect descriptors). Not tested: the limit of 2^32 bytes a chain.
use Rattle.std.specs.Prelude.{Bool, true, cond, not, ◌&&◌, List, [], ◌∷◌, map, ℕ, zero, suc, ◌+◌, ◌-◌, ◌*◌, ◌/◌, ◌%◌, ltb, leb, eqb, length}
use Rattle.virtio.specs.declared.Desc.{Desc}
use Rattle.virtio.specs.declared.Buffer.{Buffer}
use Rattle.virtio.specs.Desc.{desc_at, has_next, has_indirect, buffer_of}
use Rattle.virtio.specs.Memory.{Memory}

-- 2.6.4.2: what the device reads stands before what it writes; so no input after an output
unfoldable pub all_outputs : List Buffer → Bool
all_outputs [] = true
all_outputs (b ∷ bs) = b.output && all_outputs bs

unfoldable pub in_order : List Buffer → Bool
in_order [] = true
in_order (b ∷ bs) = cond b.output (all_outputs bs) (in_order bs)

-- Descriptors that were followed to their end, or a link that leads nowhere.
pub data Found : Type 0 where
  lost : Found
  found : List Desc → Found

abbrev pub before : Desc → Found → Found
before d lost = lost
before d (found ds) = found (d ∷ ds)

-- 2.6.5: the descriptors of a table of n entries from entry i on along next, to the first without NEXT: at most k of them
unfoldable pub follow : (ℕ → Desc) → ℕ → ℕ → ℕ → Found
follow table n zero i = lost
follow table n (suc k) i =
    let d = table i in
    cond (ltb i n) (cond (has_next d) (before d (follow table n k d.next)) (found (d ∷ []))) lost

-- no descriptor of an indirect table refers to another table (2.6.5.3.1)
unfoldable pub no_indirect : List Desc → Bool
no_indirect [] = true
no_indirect (d ∷ ds) = not (has_indirect d) && no_indirect ds

abbrev pub as_list : Found → Found
as_list lost = lost
as_list (found ds) = cond (no_indirect ds) (found ds) lost

-- the table's descriptor i, and descriptor j of an indirect table at address a, where the pool lies at address base
abbrev pub table_desc : Memory → ℕ → Desc
table_desc m i = desc_at m.one (16 * i)

abbrev pub list_desc : ℕ → Memory → ℕ → ℕ → Desc
list_desc base m a j = desc_at m.pool (a - base + 16 * j)

-- an indirect table is whole descriptors, at least one, inside the pool
abbrev pub list_ok : ℕ → Memory → Desc → Bool
list_ok base m d =
    eqb (d.len % 16) 0 && (ltb 0 d.len && (leb base d.addr && leb (d.addr - base + d.len) (length m.pool)))

-- 2.6.5.3: the descriptors of the indirect table that d refers to, from its first on
unfoldable pub list_of : ℕ → Memory → Desc → Found
list_of base m d =
    cond (list_ok base m d) (as_list (follow (list_desc base m d.addr) (d.len / 16) (d.len / 16) 0)) lost

-- 2.6.5.3.1: INDIRECT never stands with NEXT, so only a chain's last descriptor can refer to a table
unfoldable pub expand : ℕ → Memory → List Desc → Found
expand base m [] = found []
expand base m (d ∷ ds) =
    cond (has_indirect d) (cond (has_next d) lost (list_of base m d)) (before d (expand base m ds))

abbrev pub expanded : ℕ → Memory → Found → Found
expanded base m lost = lost
expanded base m (found ds) = expand base m ds

-- What a chain means: its buffers, or nothing.
pub data Reading : Type 0 where
  faulty : Reading
  buffers : List Buffer → Reading

-- 2.6.5.3.1: no more than n descriptors in all; 2.6.4.2: in order
abbrev pub meant : ℕ → Found → Reading
meant n lost = faulty
meant n (found ds) = cond (leb (length ds) n && in_order (map buffer_of ds)) (buffers (map buffer_of ds)) faulty

-- the chain at head h of a queue of size n
unfoldable pub chain_at : ℕ → ℕ → Memory → ℕ → Reading
chain_at n base m h = meant n (expanded base m (follow (table_desc m) n n h))
