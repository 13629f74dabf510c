-- What the clauses read of the private tables, as functions of an index over lent lists, one list for each field.
use Rattle.std.specs.Prelude.{◌≡◌, Bool, true, false, not, cond, ◌&&◌, List, map, ℕ, ◌*◌, ◌/◌, ◌≤◌, ◌<◌, ltb, eqb, length, get_or}
use Rattle.lists.specs.Pick.{rising}
use Rattle.lists.specs.Walk.{walk}
use Rattle.virtio.specs.declared.Desc.{Desc}
use Rattle.virtio.specs.declared.Buffer.{Buffer}
use Rattle.virtio.specs.Desc.{has_next, has_write, has_indirect}

-- entry i of a list of numbers
abbrev pub at : List ℕ → ℕ → ℕ
at xs i = get_or xs i 0

-- a descriptor of these flags; of this address and length too
abbrev pub flagged : ℕ → Desc
flagged flags = record { addr = 0; len = 0; flags = flags; next = 0 }

abbrev pub described : ℕ → ℕ → ℕ → Desc
described addr len flags = record { addr = addr; len = len; flags = flags; next = 0 }

-- descriptor i has NEXT; h heads an outstanding chain, by the noted lengths; its head has INDIRECT
abbrev pub goes : List ℕ → ℕ → Bool
goes flags i = has_next (flagged (at flags i))

abbrev pub heads : ℕ → List ℕ → ℕ → Bool
heads n noted h = ltb h n && not (eqb (at noted h) 0)

abbrev pub refers : List ℕ → ℕ → Bool
refers flags h = has_indirect (flagged (at flags h))

-- a buffer of this length and side, wherever it lies
abbrev pub piece : ℕ → Bool → Buffer
piece len output = record { addr = 0; len = len; output = output }

-- the buffers of a direct chain of k descriptors at h; the k list entries from a on
abbrev pub direct : List ℕ → List ℕ → List ℕ → ℕ → ℕ → List Buffer
direct next flags len k h = map (λ i. piece (at len i) (has_write (flagged (at flags i)))) (walk (at next) k h)

abbrev pub entries : List ℕ → List Bool → ℕ → ℕ → List Buffer
entries lens sides a k = map (λ i. piece (at lens i) (get_or sides i false)) (rising k a)

-- the buffers of the chain at h, direct or listed
abbrev pub buffers_at : ℕ → List ℕ → List ℕ → List ℕ → List ℕ → List ℕ → List Bool → ℕ → List Buffer
buffers_at n next flags len noted lens sides h =
    cond (refers flags h) (entries lens sides (n * h) (at len h / 16)) (direct next flags len (at noted h) h)

-- how many buffers it has
abbrev pub size_at : List ℕ → List ℕ → List ℕ → ℕ → ℕ
size_at flags len noted h = cond (refers flags h) (at len h / 16) (at noted h)

-- What the walks ask: the lists hold n entries, and a next below n leads below n.
pub record Closed (n : ℕ) (next : List ℕ) : Type 0 where
  pub room : n ≤ length next
  pub nexts : (i : ℕ) → i < n → at next i < n

-- and that the list of an outstanding indirect head has at most n entries
pub record Short (n : ℕ) (flags len noted : List ℕ) : Type 0 where
  pub most : (h : ℕ) → heads n noted h ≡ true → refers flags h ≡ true → at len h / 16 ≤ n
