-- The call new (document 01, "The record", last paragraph, and the orders of "When the queue says no"): its refusals, the fresh record, the
-- memory cleared and linked, and the three addresses for the transport.
use Rattle.std.specs.Prelude.{Bool, false, not, cond, ◌&&◌, ◌||◌, List, [], ◌∷◌, ◌++◌, map, ℕ, zero, suc, ◌+◌, ◌-◌, ◌*◌, ltb, leb, eqb, length, replicate}
use Rattle.std.proofs.lemmas.List.Edits.{sets}
use Rattle.lists.specs.Pick.{◌when◌, first}
use Rattle.virtio.specs.declared.Desc.{Desc}
use Rattle.virtio.specs.Desc.{no_desc, no_buffer, put_desc}
use Rattle.virtio.specs.Layout.{table_size, avail_size, used_size, avail_at, used_at, need_one, need_two, need_pool}
use Rattle.virtio.specs.Memory.{Memory, used_region, bytes_of, with_bytes}
use Rattle.rules.specs.declared.Modes.{Modes}
use Rattle.rules.specs.declared.Open.TheVariants.{Idle}
use Rattle.rules.specs.Record.{Queue, Counts}
use Rattle.rules.specs.WellFormed.{size_ok, base_ok}
use Rattle.rules.specs.Answer.{InvalidParam, BadSize, AlreadyUsed, BadRegion}

-- What the caller hands to new: the size, whether the transport says that the queue is in use, the device's maximum, the modes, and the
-- addresses of the lent regions and of the pool.
pub record Ask : Type 0 where
  pub n : ℕ
  pub in_use : Bool
  pub most : ℕ
  pub modes : Modes
  pub base_one : ℕ
  pub base_two : ℕ
  pub base_pool : ℕ

-- What it answers: the number, the addresses of table, available ring and used ring, the record and the memory.
pub record Made : Type 0 where
  pub answer : ℕ
  pub table : ℕ
  pub avail : ℕ
  pub used : ℕ
  pub queue : Queue
  pub memory : Memory

-- ---- refusals

-- a region of this length at this base does for a need
abbrev pub lends : ℕ → ℕ → ℕ → Bool
lends base size have = leb size have && base_ok base size

-- lent so many bytes of region one, region two and the pool: region two is needed in the flexible layout, the pool in indirect mode
abbrev pub regions_ok : Ask → ℕ → ℕ → ℕ → Bool
regions_ok a one two pool =
    lends a.base_one (need_one a.modes.legacy a.n) one
    && ((a.modes.legacy || lends a.base_two (need_two false a.n) two)
    && (not a.modes.indirect || lends a.base_pool (need_pool a.n) pool))

abbrev pub new_refusal : Ask → ℕ → ℕ → ℕ → ℕ
new_refusal a one two pool = first (
    (BadSize when not (size_ok a.n))
    ∷ (AlreadyUsed when a.in_use)
    ∷ (InvalidParam when ltb a.most a.n)
    ∷ (BadRegion when not (regions_ok a one two pool))
    ∷ []
    )

-- ---- the fresh record

-- the private tables hold this many descriptors, and that squared of list entries
abbrev pub limit : ℕ
limit = 64

-- the nexts of the k descriptors from i on, where all are free: each the one after it, and the last 0
unfoldable pub nexts_from : ℕ → ℕ → List ℕ
nexts_from zero i = []
nexts_from (suc zero) i = 0 ∷ []
nexts_from (suc (suc k)) i = suc i ∷ nexts_from (suc k) (suc i)

abbrev pub linking : ℕ → Desc
linking x = record { addr = 0; len = 0; flags = 0; next = x }

abbrev pub linked : ℕ → List Desc
linked n = map linking (nexts_from n 0)

abbrev pub zero_counts : Counts
zero_counts = record { used = 0; free = 0; avail = 0; last = 0 }

abbrev pub zero_queue : Queue
zero_queue = record {
  n = 0;
  modes = record { indirect = false; event_idx = false; legacy = false };
  base = 0;
  counts = zero_counts;
  tables = record { shadow = replicate limit no_desc; noted = replicate limit 0; kept = replicate (limit * limit) no_buffer };
  call = Idle;
}

abbrev pub fresh_queue : Ask → Queue
fresh_queue a = record {
  n = a.n;
  modes = a.modes;
  base = cond a.modes.indirect a.base_pool 0;
  counts = zero_counts;
  tables = record {
    shadow = linked a.n ++ replicate (limit - a.n) no_desc;
    noted = replicate limit 0;
    kept = replicate (limit * limit) no_buffer;
  };
  call = Idle;
}

-- ---- the memory: the three parts cleared, the table linked; all other bytes stay

abbrev pub cleared : List ℕ → ℕ → ℕ → List ℕ
cleared s a k = sets s a (replicate k 0)

unfoldable pub put_descs : List ℕ → ℕ → List Desc → List ℕ
put_descs s a [] = s
put_descs s a (d ∷ ds) = put_descs (put_desc s a d) (a + 16) ds

abbrev pub clear_used : Bool → ℕ → Memory → Memory
clear_used legacy n m =
    with_bytes (used_region legacy) m (cleared (bytes_of (used_region legacy) m) (used_at legacy n) (used_size n))

abbrev pub clear_front : ℕ → Memory → Memory
clear_front n m = record {
  one = put_descs (cleared m.one 0 (table_size n + avail_size n)) 0 (linked n);
  two = m.two;
  pool = m.pool;
}

abbrev pub fresh_memory : Ask → Memory → Memory
fresh_memory a m = clear_used a.modes.legacy a.n (clear_front a.n m)

-- ---- the call

abbrev pub used_base : Ask → ℕ
used_base a = cond a.modes.legacy a.base_one a.base_two + used_at a.modes.legacy a.n

abbrev pub made : Ask → Memory → Made
made a m = record {
  answer = 0;
  table = a.base_one;
  avail = a.base_one + avail_at a.n;
  used = used_base a;
  queue = fresh_queue a;
  memory = fresh_memory a m;
}

abbrev pub not_made : ℕ → Memory → Made
not_made number m = record { answer = number; table = 0; avail = 0; used = 0; queue = zero_queue; memory = m }

unfoldable pub new : Ask → Memory → Made
new a m =
    let refusal : ℕ = new_refusal a (length m.one) (length m.two) (length m.pool) in
    cond (eqb refusal 0) (made a m) (not_made refusal m)
