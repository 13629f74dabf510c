-- What a device reads of an entry of the available ring, and the parts of it that direct and indirect adds share.
use Rattle.std.specs.Prelude.{◌≡◌, refl, Bool, true, false, List, ℕ, ◌+◌, ◌*◌, ◌/◌, ◌%◌, ◌^◌, ◌≤◌, ◌<◌, length, get_or}
use Rattle.std.proofs.Common.{ap, ◌∙◌, arith, mod-lt}
use Rattle.lists.specs.Index.{after}
use Rattle.lists.specs.Bytes.{get_le}
use Rattle.virtio.specs.declared.Desc.{Desc}
use Rattle.virtio.specs.declared.Buffer.{Buffer}
use Rattle.virtio.specs.Desc.{no_buffer, flags_of, Fit}
use Rattle.virtio.specs.Layout.{avail_at}
use Rattle.virtio.specs.Memory.{Memory, avail_idx, avail_ring, spot, load_at}
use Rattle.virtio.specs.Chain.{buffers, chain_at}
use Rattle.rules.specs.Step.{with_next}
use Rattle.rules.specs.Calls.{filled}
use Rattle.laws.specs.Stored.{rings, rings_idx, rings_slot}

-- a buffer whose address and length fit a descriptor's fields; each of a list
pub record Narrow (b : Buffer) : Type 0 where
  pub addr : b.addr < 2 ^ 64
  pub len : b.len < 2 ^ 32

abbrev pub AllNarrow : List Buffer → Type 0
AllNarrow bs = (i : ℕ) → i < length bs → Narrow (get_or bs i no_buffer)

-- what the device reads of a queue of size n once the entry with this index is available: idx counted on, the entry's ring slot, and the chain at its head
pub record Reads (legacy : Bool) (n base : ℕ) (m : Memory) (index head : ℕ) (bs : List Buffer) : Type 0 where
  pub idx : load_at (spot legacy n avail_idx) m ≡ after index
  pub slot : load_at (spot legacy n (avail_ring (index % n))) m ≡ head
  pub chain : chain_at n base m head ≡ buffers bs

-- ---- filled descriptors

-- one that goes on has NEXT already
pub filled_on : (b : Buffer) (x : ℕ) → with_next (filled b true x) ≡ filled b true x
filled_on b x = go b.output
  where
    go : (o : Bool) → ◌≡◌ {A = Desc} (record { addr = b.addr; len = b.len; flags = flags_of true o false / 2 * 2 + 1; next = x }) (record { addr = b.addr; len = b.len; flags = flags_of true o false; next = x })
    go true = refl
    go false = refl

-- their fields fit, with NEXT or as they are
flags_small : (t o : Bool) → flags_of t o false ≤ 3
flags_small true true = omega arith
flags_small true false = omega arith
flags_small false true = omega arith
flags_small false false = omega arith

pub filled_fit : (b : Buffer) (t : Bool) (x : ℕ) → Narrow b → x < 65536 → Fit (filled b t x)
filled_fit b t x f l =
    record { addr = f.addr; len = f.len; flags = (let s : flags_of t b.output false ≤ 3 = flags_small t b.output in omega arith); next = omega arith }

pub next_fit : (b : Buffer) (t : Bool) (x : ℕ) → Narrow b → x < 65536 → Fit (with_next (filled b t x))
next_fit b t x f l =
    record { addr = f.addr; len = f.len; flags = (let s : flags_of t b.output false ≤ 3 = flags_small t b.output in omega arith); next = omega arith }

-- ---- the ring

-- idx and the slot, where they were stored last in region one
pub ring_reads : (legacy : Bool) (n base : ℕ) (m : Memory) (s : List ℕ) (index head : ℕ) (bs : List Buffer) → m.one ≡ rings n s (index % n) head (after index)
    → 18 * n + 6 ≤ length s → 0 < n → head < 65536 → chain_at n base m head ≡ buffers bs → Reads legacy n base m index head bs
ring_reads legacy n base m s index head bs e r p l c =
    let b : index % n < n = mod-lt index p in
    record {
      idx = ap (λ t. get_le 2 t (avail_at n + 2)) e ∙ rings_idx n s (index % n) head (after index) (omega arith) (omega arith);
      slot = ap (λ t. get_le 2 t (avail_at n + (4 + 2 * (index % n)))) e ∙ rings_slot n s (index % n) head (after index) (omega arith) l;
      chain = c;
    }
