-- The list of buffers that the caller's number slices say; and what the parts of an opening do to tables and plain fields.
use Rattle.std.specs.Prelude.{Bool, not, ◌&&◌, List, map, ℕ, ◌+◌, eqb, length, get_or}
use Rattle.std.specs.Bool.{beq}
use Rattle.std.proofs.lemmas.List.Edits.{sets}
use Rattle.lists.specs.Pick.{rising}
use Rattle.lists.specs.Walk.{walk}
use Rattle.virtio.specs.declared.Buffer.{Buffer}
use Rattle.virtio.specs.Desc.{no_desc, buffer_of}
use Rattle.rules.specs.declared.Open.TheVariants.{Add}
use Rattle.rules.specs.Record.{Tables}
use Rattle.rules.specs.Calls.{fill}
use Rattle.views.specs.declared.Core.{Core}

-- buffer i: a length or a side that is missing is 0, and a side that is not 0 is an output
abbrev pub buffer_in : List ℕ → List ℕ → List ℕ → ℕ → Buffer
buffer_in addrs lens sides i =
    record { addr = get_or addrs i 0; len = get_or lens i 0; output = not (eqb (get_or sides i 0) 0) }

-- THE LIST: as many buffers as there are addresses
unfoldable pub given : List ℕ → List ℕ → List ℕ → List Buffer
given addrs lens sides = map (buffer_in addrs lens sides) (rising (length addrs) 0)

-- what descriptor i links to; the buffers of the k descriptors from h on
abbrev pub next_in : Tables → ℕ → ℕ
next_in t i = (get_or t.shadow i no_desc).next

abbrev pub direct_in : Tables → ℕ → ℕ → List Buffer
direct_in t k h = map (λ i. buffer_of (get_or t.shadow i no_desc)) (walk (next_in t) k h)

-- the tables with buffers filled in from descriptor h on; with buffers copied to the lists from entry a on
abbrev pub with_filled : Tables → ℕ → List Buffer → Tables
with_filled t h bs = record { shadow = fill t.shadow h bs; noted = t.noted; kept = t.kept }

abbrev pub with_copied : Tables → ℕ → List Buffer → Tables
with_copied t a bs = record { shadow = t.shadow; noted = t.noted; kept = sets t.kept a bs }

-- the plain fields with an add open at free_head
abbrev pub added_core : Core → ℕ → ℕ → Core
added_core c used free = record {
  n = c.n;
  modes = c.modes;
  base = c.base;
  num_used = c.num_used + used;
  free_head = free;
  avail_idx = c.avail_idx;
  last_used_idx = c.last_used_idx;
  call = Add c.free_head 0;
}

-- two buffers are one: address, length, side
abbrev pub same_buffer : Buffer → Buffer → Bool
same_buffer a b = eqb a.addr b.addr && (eqb a.len b.len && beq a.output b.output)
