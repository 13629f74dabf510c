-- An open add: its descriptors and entries, and what it has stored so far, step by step.
use Rattle.std.specs.Prelude.{◌≡◌, true, false, cond}
use Rattle.std.proofs.Math.Path.{refl, subst}
use Rattle.std.proofs.Common.{sym, ap, ◌∙◌}
use Prim.Native.Nat.{ℕ, zero, suc, ◌+◌, ◌-◌, ◌*◌, ◌%◌, ◌≤◌, ◌<◌}
use native.Mathlib.Omega.{arith}
use Rattle.lists.specs.Tests.{by_eq}
use Rattle.lists.specs.Once.{count, count_other}
use Rattle.lists.specs.Walk.{hop, walk}
use Rattle.virtio.specs.Memory.{Memory, Place, desc, avail_flags, avail_idx, used_event, avail_ring, used_flags, used_idx, avail_event, used_id, used_len, entry}
use Rattle.virtio.specs.Sizes.{Has}
use Rattle.rules.specs.declared.Open.{Open}
use Rattle.rules.specs.Record.{Queue, next_of, noted_of, chain_of, last_of, is_indirect, entries_of, size_of, with_call}
use Rattle.rules.specs.Meaning.{WellFormed, Out}
use Rattle.laws.specs.FreeLaws.{hop_low, hop_stands}
use Rattle.laws.specs.DirectReads.{hops_apart}
use Rattle.mixing.specs.Fields.{num, dsc, Changed, num_kept, dsc_kept}
use Rattle.mixing.specs.Facts.{TableOk, ListOk, Led, Progress}
use Rattle.mixing.specs.Shows.{entry_low, slot_low}

-- the number of a field
abbrev pub no : Place → ℕ
no (desc i) = i
no avail_flags = 0
no avail_idx = 0
no (avail_ring i) = i
no used_event = 0
no used_flags = 0
no used_idx = 0
no (used_id i) = i
no (used_len i) = i
no avail_event = 0
no (entry j) = j

module _ (q : Queue) (w : WellFormed q) (h : ℕ) (o : Out q h) where
  -- ---- its size

  pub size_direct : is_indirect q h ≡ false → size_of q h ≡ noted_of q h
  size_direct e = ap (λ b. cond b (entries_of q h) (noted_of q h)) e

  pub size_list : is_indirect q h ≡ true → size_of q h ≡ entries_of q h
  size_list e = ap (λ b. cond b (entries_of q h) (noted_of q h)) e

  pub some_noted : 0 < noted_of q h
  some_noted = let n : (noted_of q h ≡ 0 → ⊥) = o.noted in omega arith

  -- ---- its descriptors differ

  pub noted_apart : (i j : ℕ) → i < j → j < noted_of q h → hop (next_of q) i h ≡ hop (next_of q) j h → ⊥
  noted_apart i j l u e =
      let c : count (hop (next_of q) j h) (chain_of q h) ≡ 1 = (hop_stands q w h j o.below u).once in
      hops_apart (next_of q) (noted_of q h) h i j l u (omega arith) e

  -- a number that the walk of k from i on names is reached
  reached : (next : ℕ → ℕ) (k i x : ℕ) → 0 < count x (walk next k i) → (j : ℕ) × (j < k) × (x ≡ hop next j i)
  unfolding walk hop count
  reached next zero i x c = absurd (omega arith)
  reached next (suc k) i x c =
      by_eq x i
      (λ e. (0, omega arith, e))
      (λ e. let r = reached next k (next i) x (let z = count_other x i (walk next k (next i)) e in omega arith) in
      let l : r.0 < k = r.1 in
      (suc r.0, omega arith, r.2))

  -- ---- a store of another field, and one step more

  module _ (base : ℕ) (m m' : Memory) (p : Place) (has : Has q.n p) (changed : Changed q p m m') (s : ℕ) where
    -- what it has stored so far stays, where the store is of none of it
    pub progress_on : ((j : ℕ) → j + 1 < noted_of q h → j < s → desc (hop (next_of q) j h) ≡ p → ⊥)
        → (size_of q h < s → desc (last_of q h) ≡ p → ⊥)
        → (is_indirect q h ≡ true → (j : ℕ) → j < entries_of q h → j < s → entry (q.n * h + j) ≡ p → ⊥)
        → (size_of q h + 1 < s → avail_ring (q.counts.avail % q.n) ≡ p → ⊥)
        → Progress base q m h s → Progress base q m' h s
    unfolding Has
    progress_on a b c e r = record {
      flags = r.flags;
      table = λ j l u. subst (TableOk base q h)
          (sym (dsc_kept q (desc (hop (next_of q) j h)) p m m' refl (hop_low q w h j o.below) has (a j l u) changed)) (r.table j l u);
      last = λ l. subst (TableOk base q h)
          (sym (dsc_kept q (desc (last_of q h)) p m m' refl (hop_low q w h (noted_of q h - 1) o.below) has (b l) changed)) (r.last l);
      list = λ i j l u. subst (ListOk q h) (sym (dsc_kept q (entry (q.n * h + j)) p m m' refl (entry_low q w h j o i l) has (c i j l u) changed))
          (r.list i j l u);
      slot = λ l. num_kept q (avail_ring (q.counts.avail % q.n)) p m m' (slot_low q w q.counts.avail) has (e l) changed ∙ r.slot l;
    }

  module _ (base : ℕ) (m : Memory) (s : ℕ) where
    -- one step more
    pub progress_next : (s + 1 < noted_of q h → TableOk base q h (dsc q (desc (hop (next_of q) s h)) m))
        → (size_of q h ≡ s → TableOk base q h (dsc q (desc (last_of q h)) m))
        → (is_indirect q h ≡ true → s < entries_of q h → ListOk q h (dsc q (entry (q.n * h + s)) m))
        → (size_of q h + 1 ≡ s → num q (avail_ring (q.counts.avail % q.n)) m ≡ h)
        → Progress base q m h s → Progress base q m h (s + 1)
    progress_next a b c e r = record {
      flags = r.flags;
      table = λ j l u. by_eq j s (λ z. subst (λ y. TableOk base q h (dsc q (desc (hop (next_of q) y h)) m)) (sym z) (a (omega arith)))
          (λ z. r.table j l (omega arith));
      last = λ l. by_eq (size_of q h) s b (λ z. r.last (omega arith));
      list = λ i j l u. by_eq j s (λ z. subst (λ y. ListOk q h (dsc q (entry (q.n * h + y)) m)) (sym z) (c i (omega arith)))
          (λ z. r.list i j l (omega arith));
      slot = λ l. by_eq (size_of q h + 1) s e (λ z. r.slot (omega arith));
    }

    -- the record with another open call
    pub progress_call : (c : Open) → Progress base q m h s → Progress base (with_call q c) m h s
    progress_call c r = record { flags = r.flags; table = r.table; last = r.last; list = r.list; slot = r.slot }

    -- where all is stored, the chain is led
    pub progress_led : size_of q h < s → noted_of q h ≤ s → (is_indirect q h ≡ true → entries_of q h ≤ s) → Progress base q m h s → Led base q m h
    progress_led l n e r = (
      (λ i c. let x = reached (next_of q) (noted_of q h) h i c in
          let u : x.0 < noted_of q h = x.1 in
          by_eq x.0 (noted_of q h - 1)
          (λ z. subst (λ y. TableOk base q h (dsc q (desc y) m)) (sym (x.2 ∙ ap (λ y. hop (next_of q) y h) z)) (r.last l))
          (λ z. subst (λ y. TableOk base q h (dsc q (desc y) m)) (sym x.2) (r.table x.0 (omega arith) (omega arith)))),
      (λ i j u. r.list i j u (let v : entries_of q h ≤ s = e i in omega arith)),
    )
