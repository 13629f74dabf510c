-- Each access of the rules, by the tests that lead the code to it.
use Rattle.std.specs.Prelude.{◌≡◌, true, false, ℕ, ◌+◌, ◌-◌, ◌*◌, ◌/◌, ◌%◌, ◌≤◌, ◌<◌, ltb, get_or}
use Rattle.std.proofs.Common.{sym, ap, ◌∙◌, arith, lt-ltb, le-ltb, eq-eqb, ne_eqb}
use Rattle.lists.specs.Index.{after}
use Rattle.lists.specs.Walk.{hop}
use Rattle.virtio.specs.declared.Desc.{Desc}
use Rattle.virtio.specs.declared.Buffer.{Buffer}
use Rattle.virtio.specs.Desc.{no_buffer, flags_of}
use Rattle.virtio.specs.Memory.{desc, avail_idx, used_event, avail_ring, entry}
use Rattle.rules.specs.Record.{Queue, desc_of, next_of, noted_of, last_of, is_indirect, size_of}
use Rattle.rules.specs.Step.{Access, store, store_desc, with_next, buffer_store, add_access, pop_access}

-- ---- an add's store for a buffer

module _ (q : Queue) (h : ℕ) (x : Desc) (e : x ≡ desc_of q h) where
  -- the head's descriptor, as it was loaded, refers to a list or it does not
  pub listed_head : x.flags / 4 % 2 ≡ 1 → is_indirect q h ≡ true
  listed_head f = eq-eqb ((desc_of q h).flags / 4 % 2) 1 (sym (ap (λ (d : Desc). d.flags / 4 % 2) e) ∙ f)

  direct_head : (x.flags / 4 % 2 ≡ 1 → ⊥) → is_indirect q h ≡ false
  direct_head f = ne_eqb ((desc_of q h).flags / 4 % 2) 1 (λ g. f (ap (λ (d : Desc). d.flags / 4 % 2) e ∙ g))

  module _ (i : ℕ) where
    -- the list entry that the code makes of what it loaded; and the descriptor with NEXT
    pub entry_case
        : (b : Buffer) (flags : ℕ)
        → x.flags / 4 % 2 ≡ 1
        → b ≡ get_or q.tables.kept (q.n * h + i) no_buffer
        → flags ≡ flags_of (ltb (i + 1) (x.len / 16)) b.output false
        → store_desc (entry (q.n * h + i)) (record { addr = b.addr; len = b.len; flags = flags; next = i + 1 }) ≡ buffer_store q h i
    entry_case b flags f u v =
        (λ j. store_desc (entry (q.n * h + i)) (record {
          addr = (u j).addr;
          len = (u j).len;
          flags = (v ∙ (λ k. flags_of (ltb (i + 1) ((e k).len / 16)) (u k).output false)) j;
          next = i + 1;
        }))
        ∙ rw (listed_head f)

    pub direct_case
        : (at : ℕ) (d y : Desc)
        → (x.flags / 4 % 2 ≡ 1 → ⊥)
        → at ≡ hop (next_of q) i h
        → d ≡ desc_of q at
        → y ≡ with_next d
        → store_desc (desc at) y ≡ buffer_store q h i
    direct_case at d y f u v z =
        (λ j. store_desc (desc (u j)) ((z ∙ ap with_next (v ∙ ap (desc_of q) u)) j)) ∙ rw (direct_head f)

-- ---- the accesses of an add and of a pop

-- a descriptor loaded at a place is the one there; links that lead to a chain's last descriptor
pub desc_case : (q : Queue) (at k : ℕ) (d : Desc) → at ≡ k → d ≡ desc_of q at → store_desc (desc at) d ≡ store_desc (desc k) (desc_of q k)
desc_case q at k d u v = λ j. store_desc (desc (u j)) ((v ∙ ap (desc_of q) u) j)

pub led_last : (q : Queue) (h at k : ℕ) → at ≡ hop (next_of q) (k - 1) h → k ≡ noted_of q h → at ≡ last_of q h
led_last q h at k u v = u ∙ ap (λ m. hop (next_of q) (m - 1) h) v

-- step i of an add of k buffers
module _ (q : Queue) (h i k : ℕ) (e : k ≡ size_of q h) where
  pub buffer_turn : (a : Access) → a ≡ buffer_store q h i → i < k → a ≡ add_access q h i
  buffer_turn a z l = z ∙ rw (lt-ltb i (size_of q h) (omega arith))

  pub last_turn : i ≡ k → store_desc (desc (last_of q h)) (desc_of q (last_of q h)) ≡ add_access q h i
  last_turn l = rw (le-ltb i (size_of q h) (omega arith), eq-eqb i (size_of q h) (l ∙ e))

  pub slot_turn : i ≡ k + 1 → store (avail_ring (q.counts.avail % q.n)) h ≡ add_access q h i
  slot_turn l =
      rw (le-ltb i (size_of q h) (omega arith), ne_eqb i (size_of q h) (omega arith), eq-eqb i (size_of q h + 1) (omega arith))

  pub idx_turn : k ≤ i → (i ≡ k → ⊥) → (i ≡ k + 1 → ⊥) → store avail_idx (after q.counts.avail) ≡ add_access q h i
  idx_turn l m z =
      rw (le-ltb i (size_of q h) (omega arith), ne_eqb i (size_of q h) (omega arith), ne_eqb i (size_of q h + 1) (omega arith))

-- step i of a pop's stores
module _ (q : Queue) (count i : ℕ) where
  pub freed_turn : i < count → store_desc (desc (hop (next_of q) i q.counts.free)) (desc_of q (hop (next_of q) i q.counts.free)) ≡ pop_access q count i
  freed_turn l = rw (lt-ltb i count l)

  pub event_turn : count ≤ i → store used_event q.counts.last ≡ pop_access q count i
  event_turn l = rw (le-ltb i count l)
