-- What a direct add leaves in memory, as VIRTIO reads it: the ring names the head, and the table's chain at the head means the list given.
use Rattle.std.specs.Prelude.{◌≡◌, true, false, cond, ◌⊎◌, List, ◌++◌, ltb, length, get_or, drop}
use Rattle.std.proofs.Math.Path.{refl, ap, ap₂}
use Rattle.std.proofs.Common.{sym, ◌∙◌, subst, inl, inr, arith, ltb-true, ltb-false, get_or-set_same}
use Prim.Native.Nat.{ℕ, zero, suc, ◌+◌, ◌-◌, ◌*◌, ◌%◌, ◌≤◌, ◌<◌}
use Rattle.lists.specs.Index.{after}
use Rattle.lists.specs.Tests.{by_eq, by_test}
use Rattle.lists.specs.Once.{count}
use Rattle.lists.specs.Places.{count_append, in_walks}
use Rattle.lists.specs.Walk.{hop, walk, walks, walk_below, walk_split}
use Rattle.lists.specs.WalkLaws.{hop_twice}
use Rattle.virtio.specs.declared.Desc.{Desc}
use Rattle.virtio.specs.declared.Buffer.{Buffer}
use Rattle.virtio.specs.Desc.{no_buffer, has_indirect, Fit, desc_at, put_desc, put_desc_length, desc_put_other, desc_put_same}
use Rattle.virtio.specs.Memory.{Memory, desc, entry}
use Rattle.virtio.specs.Chain.{table_desc}
use Rattle.rules.specs.Record.{Queue, desc_of, next_of, noted_of, free_list, last_of, is_indirect}
use Rattle.rules.specs.WellFormed.{named}
use Rattle.rules.specs.Meaning.{WellFormed}
use Rattle.rules.specs.Step.{store_desc, accessed, with_next, list_entry}
use Rattle.rules.specs.Calls.{filled, more?, add_direct}
use Rattle.laws.specs.FillLaws.{filled_direct, more_on, fill_links, fill_at}
use Rattle.laws.specs.FreeLaws.{hop_low}
use Rattle.laws.specs.AddKeeps.{Addable, direct_keeps}
use Rattle.laws.specs.StepKeeps.{power_most}
use Rattle.laws.specs.CallKeeps.{Good}
use Rattle.laws.specs.Added.{stored, published}
use Rattle.laws.specs.Stored.{puts, puts_length, puts_at, rings_desc}
use Rattle.laws.specs.Followed.{Holds, Plain, table_reads, table_plain}
use Rattle.laws.specs.Reads.{AllNarrow, Reads, filled_on, filled_fit, next_fit, ring_reads}

-- numbers along a walk that names none twice are different
pub hops_apart : (next : ℕ → ℕ) (k h i j : ℕ) → i < j → j < k → count (hop next j h) (walk next k h) ≤ 1 → hop next i h ≡ hop next j h → ⊥
hops_apart next k h i j l u c e =
    let x : ℕ = hop next j h in
    let s : k ≡ suc j + (k - suc j) = omega arith in
    let a : count x (walk next k h) ≡ count x (walk next (suc j) h ++ walk next (k - suc j) (hop next (suc j) h)) = ap (count x) (ap (λ t. walk next t h) s ∙ walk_split next (suc j) (k - suc j) h) in
    let b : count x (walk next (suc j) h ++ walk next (k - suc j) (hop next (suc j) h)) ≡ count x (walk next (suc j) h) + count x (walk next (k - suc j) (hop next (suc j) h)) = count_append x (walk next (suc j) h) (walk next (k - suc j) (hop next (suc j) h)) in
    let t : 1 < count x (walk next (suc j) h) = hop_twice next j h i x l e refl in
    omega arith

module _ (q : Queue) (m : Memory) (bs : List Buffer) (g : Good q) (a : Addable q bs) (d : (q.modes.indirect ≡ false) ⊎ (length bs ≡ 1))
    (r : 18 * q.n + 6 ≤ length m.one) (f : AllNarrow bs) where
  -- the record opened; how many descriptors it takes, from which on; where links lead
  abbrev p : Queue
  p = add_direct q bs

  abbrev k : ℕ
  k = length bs

  abbrev head : ℕ
  head = q.counts.free

  abbrev next : ℕ → ℕ
  next = next_of p

  well : WellFormed p
  well = direct_keeps q bs g.held g.well a d

  noted : noted_of p head ≡ k
  noted =
      get_or-set_same q.tables.noted head k 0 (let b : head < q.n = g.well.free in let f : q.n ≤ length q.tables.noted = g.held.noted in omega arith)

  low : (j : ℕ) → hop next j head < q.n
  low j = hop_low p well head j g.well.free

  -- the new chain names no descriptor twice, and holds the list
  chain_once : (x : ℕ) → x < q.n → count x (walk next k head) ≤ 1
  chain_once x l =
      let b : head < q.n = g.well.free in
      let e : count x (named p) ≡ 1 = well.once.each x l in
      let s : count x (named p) ≡ count x (free_list p) + count x (walks next (noted_of p) q.n 0) = count_append x (free_list p) (walks next (noted_of p) q.n 0) in
      let c : count x (walk next (noted_of p head) head) ≤ count x (walks next (noted_of p) q.n 0) = in_walks next (noted_of p) x q.n 0 head (omega arith) (omega arith) in
      let t : count x (walk next (noted_of p head) head) ≡ count x (walk next k head) = ap (λ j. count x (walk next j head)) noted in
      omega arith

  chain_holds : Holds (desc_of p) next head bs
  chain_holds =
      fill_at next q.n q.tables.shadow head bs g.held.shadow (λ j. sym (fill_links (next_of q) q.tables.shadow head bs (λ i. refl) j))
      (walk_below next q.n well.nexts k head g.well.free) chain_once

  apart : (i j : ℕ) → i < j → j < k → hop next i head ≡ hop next j head → ⊥
  apart i j l u = hops_apart next k head i j l u (chain_once (hop next j head) (low j))

  -- where buffer j's descriptor is stored, and what is: its own, with NEXT
  abbrev at : ℕ → ℕ
  at j = 16 * hop next j head

  abbrev put : ℕ → Desc
  put j = with_next (desc_of p (hop next j head))

  at_apart : (i j : ℕ) → i < j → j < k → (at i + 16 ≤ at j) ⊎ (at j + 16 ≤ at i)
  at_apart i j l u =
      let e : (hop next i head ≡ hop next j head → ⊥) = apart i j l u in
      by_test (ltb (hop next i head) (hop next j head))
      (λ t. inl (let b : hop next i head < hop next j head = ltb-true (hop next i head) (hop next j head) t in omega arith))
      (λ t. inr (let b : hop next j head ≤ hop next i head = ltb-false (hop next i head) (hop next j head) t in omega arith))

  -- so the buffers' stores leave these in the table, and nothing else
  plain : is_indirect p head ≡ false
  unfolding hop
  plain =
      ap has_indirect (chain_holds 0 a.some) ∙ filled_direct (get_or bs 0 no_buffer) (more? (drop 1 bs)) (next head)

  stored_one : (i : ℕ) → stored p head i m ≡ record { one = puts at put i m.one; two = m.two; pool = m.pool }
  unfolding stored puts
  stored_one zero = refl
  stored_one (suc i) =
      ap₂ (λ t x. accessed p (cond t (store_desc (entry (q.n * head + i)) (list_entry p head i)) (store_desc (desc (hop next i head)) (put i))) x) plain (stored_one i)

  -- region one after them, and the memory after all stores
  abbrev s : List ℕ
  s = (stored p head k m).one

  abbrev M : Memory
  M = published p head k m

  -- what is stored fits its fields, and the table
  small : q.n ≤ 64
  small = power_most q.n g.well.size.0 g.well.size.1 g.well.size.2

  next_small : (j : ℕ) → next (hop next j head) < 65536
  next_small j =
      let b : next (hop next j head) < q.n = well.nexts (hop next j head) (low j) in
      let n : q.n ≤ 64 = small in
      omega arith

  desc_fit : (j : ℕ) → j < k → Fit (desc_of p (hop next j head))
  desc_fit j l =
      subst Fit (sym (chain_holds j l)) (filled_fit (get_or bs j no_buffer) (more? (drop (suc j) bs)) (next (hop next j head)) (f j l) (next_small j))

  put_fit : (j : ℕ) → j < k → Fit (put j)
  put_fit j l =
      subst (λ x. Fit (with_next x)) (sym (chain_holds j l)) (next_fit (get_or bs j no_buffer) (more? (drop (suc j) bs)) (next (hop next j head)) (f j l) (next_small j))

  room : (j : ℕ) → at j + 16 ≤ length m.one
  room j = let b : hop next j head < q.n = low j in omega arith

  length_stored : length s ≡ length m.one
  length_stored = ap (λ (x : Memory). length x.one) (stored_one k) ∙ puts_length at put k m.one

  -- a descriptor that goes on is stored as it stands
  put_on : (j : ℕ) → j + 1 < k → put j ≡ desc_of p (hop next j head)
  put_on j l =
      let b : Buffer = get_or bs j no_buffer in
      let e : desc_of p (hop next j head) ≡ filled b true (next (hop next j head)) = chain_holds j (omega arith) ∙ ap (λ t. filled b t (next (hop next j head))) (more_on (suc j) bs (omega arith)) in
      ap with_next e ∙ filled_on b (next (hop next j head)) ∙ sym e

  -- and the last is stored again, without NEXT
  last_hop : last_of p head ≡ hop next (k - 1) head
  last_hop = ap (λ j. hop next (j - 1) head) noted

  abbrev last : List ℕ
  last = put_desc s (16 * last_of p head) (desc_of p (last_of p head))

  -- so each is in the table as the record has it
  desc_stored : (j : ℕ) → j < k → desc_at last (at j) ≡ desc_of p (hop next j head)
  desc_stored j l =
      by_eq j (k - 1)
      (λ e. let x : hop next j head ≡ last_of p head = ap (λ i. hop next i head) e ∙ sym last_hop in
      let n : length s ≡ length m.one = length_stored in
      let b : at j + 16 ≤ length m.one = room j in
      ap (λ i. desc_at last (16 * i)) x
      ∙ desc_put_same s (16 * last_of p head) (desc_of p (last_of p head)) (omega arith) (subst (λ i. Fit (desc_of p i)) x (desc_fit j l))
      ∙ ap (desc_of p) (sym x))
      (λ e. desc_put_other s (at j) (16 * last_of p head) (desc_of p (last_of p head))
      (subst (λ i. (at j + 16 ≤ 16 * i) ⊎ (16 * i + 16 ≤ at j)) (sym last_hop) (at_apart j (k - 1) (omega arith) (omega arith)))
      ∙ ap (λ (x : Memory). desc_at x.one (at j)) (stored_one k)
      ∙ puts_at at put k m.one at_apart (λ i u. room i) put_fit j l
      ∙ put_on j (omega arith))

  table_holds : Holds (table_desc M) next head bs
  table_holds j l =
      rings_desc q.n last (q.counts.avail % q.n) head (after q.counts.avail) (hop next j head) (low j)
      ∙ desc_stored j l
      ∙ chain_holds j l

  -- THE LAW: what the device reads after a direct add
  pub direct_publishes : Reads q.modes.legacy q.n q.base (published (add_direct q bs) q.counts.free (length bs) m) q.counts.avail q.counts.free bs
  direct_publishes =
      let n : length s ≡ length m.one = length_stored in
      let o : length last ≡ length s = put_desc_length s (16 * last_of p head) (desc_of p (last_of p head)) in
      let b : head < q.n = g.well.free in
      let c : q.n ≤ 64 = small in
      ring_reads q.modes.legacy q.n q.base M last q.counts.avail head bs refl (omega arith) (omega arith) (omega arith)
      (table_reads q.n q.base M head bs a.some a.most a.order next (λ j l. low j) table_holds)

  -- and its descriptors refer to no table
  pub direct_stands : Plain q.n (published (add_direct q bs) q.counts.free (length bs) m) q.counts.free
  direct_stands = table_plain q.n q.base M head bs a.some a.most a.order next (λ j l. low j) table_holds
