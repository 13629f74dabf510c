-- What an indirect add leaves in memory, as VIRTIO reads it: the ring names the head, its descriptor refers to its slot, and the slot's table means the list
-- given.
use Rattle.std.specs.Prelude.{◌≡◌, true, cond, List, ltb, get_or, drop}
use Rattle.std.proofs.Math.Path.{refl, ap, ap₂}
use Rattle.std.proofs.Common.{sym, ◌∙◌, subst, inl, arith, mul-le-mul_left, mul-suc, ltb-true, ltb-false, get_or-set_same}
use Prim.Native.Nat.{ℕ, zero, suc, ◌+◌, ◌-◌, ◌*◌, ◌/◌, ◌%◌, ◌^◌, ◌≤◌, ◌<◌}
use Rattle.std.proofs.Math.ListN.{length}
use Rattle.lists.specs.Index.{after}
use Rattle.lists.specs.Tests.{by_test}
use Rattle.lists.specs.Pick.{run_of}
use Rattle.lists.specs.PickLaws.{get_d_rising_lem}
use Rattle.lists.specs.Walk.{hop}
use Rattle.lists.specs.Stores.{run_sets}
use Rattle.virtio.specs.declared.Desc.{Desc}
use Rattle.virtio.specs.declared.Buffer.{Buffer}
use Rattle.virtio.specs.Desc.{no_desc, no_buffer, has_indirect, Fit, desc_at, put_desc, put_desc_length, desc_put_same}
use Rattle.virtio.specs.Memory.{Memory, desc, entry}
use Rattle.virtio.specs.Chain.{table_desc, list_desc}
use Rattle.rules.specs.Record.{Queue, desc_of, next_of, last_of, is_indirect, slot_address, entries_of}
use Rattle.rules.specs.Step.{store_desc, accessed, with_next, list_entry}
use Rattle.rules.specs.Calls.{filled, more?, head_desc, add_indirect}
use Rattle.laws.specs.FillLaws.{more_on, no_more}
use Rattle.laws.specs.AddKeeps.{Addable}
use Rattle.laws.specs.StepKeeps.{power_most}
use Rattle.laws.specs.CallKeeps.{Good}
use Rattle.laws.specs.Added.{stored, published}
use Rattle.laws.specs.Stored.{puts, puts_length, puts_at, rings_desc}
use Rattle.laws.specs.Followed.{Holds, hop_up, list_at, Listed, list_reads_lem, list_listed}
use Rattle.laws.specs.Reads.{AllNarrow, Reads, filled_fit, ring_reads}

module _ (q : Queue) (m : Memory) (bs : List Buffer) (g : Good q) (a : Addable q bs) (i : q.modes.indirect ≡ true)
    (r : 18 * q.n + 6 ≤ length m.one) (v : 16 * (q.n * q.n) ≤ length m.pool) (f : AllNarrow bs) where
  -- the record opened; how many buffers the list has; the descriptor taken
  abbrev p : Queue
  p = add_indirect q bs

  abbrev k : ℕ
  k = length bs

  abbrev head : ℕ
  head = q.counts.free

  -- the pool's entry at which the head's slot starts; it has room for the list
  abbrev slot : ℕ
  slot = q.n * head

  slot_room : slot + k ≤ q.n * q.n
  slot_room =
      let b : suc head ≤ q.n = g.well.free in
      let m : q.n * suc head ≤ q.n * q.n = mul-le-mul_left q.n b in
      let e : q.n * suc head ≡ q.n * head + q.n = mul-suc q.n head in
      let l : k ≤ q.n = a.most in
      omega arith

  small : q.n ≤ 64
  small = power_most q.n g.well.size.0 g.well.size.1 g.well.size.2

  -- what the record holds: the head's descriptor, its chain of one, and the list
  head_desc_lem : desc_of p head ≡ head_desc q head k
  head_desc_lem =
      get_or-set_same q.tables.shadow head (head_desc q head k) no_desc (let b : head < q.n = g.well.free in let f : q.n ≤ length q.tables.shadow = g.held.shadow in omega arith)

  listed : is_indirect p head ≡ true
  listed = ap has_indirect head_desc_lem

  entries : entries_of p head ≡ k
  entries = ap (λ d. d.len / 16) head_desc_lem ∙ (omega arith)

  last_head : last_of p head ≡ head
  unfolding hop
  last_head =
      ap (λ j. hop (next_of p) (j - 1) head) (get_or-set_same q.tables.noted head 1 0 (let b : head < q.n = g.well.free in let f : q.n ≤ length q.tables.noted = g.held.noted in omega arith))

  kept_at : (j : ℕ) → j < k → get_or p.tables.kept (slot + j) no_buffer ≡ get_or bs j no_buffer
  kept_at j l =
      let e : run_of no_buffer p.tables.kept slot k ≡ bs = run_sets no_buffer q.tables.kept slot bs (let b : slot + k ≤ q.n * q.n = slot_room in let c : q.n * q.n ≤ length q.tables.kept = g.held.kept in omega arith) in
      sym (get_d_rising_lem (λ x. get_or p.tables.kept x no_buffer) no_buffer k slot j l) ∙ ap (λ xs. get_or xs j no_buffer) e

  -- where entry j is stored, and what is: buffer j, filled in
  abbrev at : ℕ → ℕ
  at j = 16 * (slot + j)

  abbrev put : ℕ → Desc
  put j = list_entry p head j

  -- whether another follows, as the entry tells
  more_is : (j : ℕ) → ltb (j + 1) k ≡ more? (drop (suc j) bs)
  more_is j =
      by_test (ltb (j + 1) k)
      (λ e. e ∙ sym (more_on (suc j) bs (let l : j + 1 < k = ltb-true (j + 1) k e in omega arith)))
      (λ e. e ∙ sym (no_more (suc j) bs (let l : k ≤ j + 1 = ltb-false (j + 1) k e in omega arith)))

  put_is : (j : ℕ) → j < k → put j ≡ filled (get_or bs j no_buffer) (more? (drop (suc j) bs)) (j + 1)
  put_is j l = ap₂ (λ b e. filled b e (j + 1)) (kept_at j l) (ap (ltb (j + 1)) entries ∙ more_is j)

  put_fit : (j : ℕ) → j < k → Fit (put j)
  put_fit j l =
      let n : q.n ≤ 64 = small in
      let b : k ≤ q.n = a.most in
      subst Fit (sym (put_is j l)) (filled_fit (get_or bs j no_buffer) (more? (drop (suc j) bs)) (j + 1) (f j l) (omega arith))

  -- so the buffers' stores leave these in the pool, and nothing else
  stored_pool : (j : ℕ) → stored p head j m ≡ record { one = m.one; two = m.two; pool = puts at put j m.pool }
  unfolding stored puts
  stored_pool zero = refl
  stored_pool (suc j) =
      ap₂ (λ e x. accessed p (cond e (store_desc (entry (slot + j)) (put j)) (store_desc (desc (hop (next_of p) j head)) (with_next (desc_of p (hop (next_of p) j head))))) x) listed (stored_pool j)

  -- the memory after all stores
  abbrev M : Memory
  M = published p head k m

  pool_length : length M.pool ≡ length m.pool
  pool_length = ap (λ (x : Memory). length x.pool) (stored_pool k) ∙ puts_length at put k m.pool

  -- its slot holds the list
  slot_holds : Holds (list_desc q.base M (slot_address q head)) (λ x. x + 1) 0 bs
  slot_holds j l =
      let e : hop (λ x. x + 1) j 0 ≡ j = hop_up j 0 ∙ (omega arith) in
      let o : q.base + 16 * slot - q.base + 16 * j ≡ at j = omega arith in
      ap (list_desc q.base M (slot_address q head)) e
      ∙ ap (desc_at M.pool) o
      ∙ ap (λ (x : Memory). desc_at x.pool (at j)) (stored_pool k)
      ∙ puts_at at put k m.pool (λ x y b c. inl (omega arith)) (λ x b. let c : slot + k ≤ q.n * q.n = slot_room in omega arith) put_fit j l
      ∙ put_is j l
      ∙ ap (λ x. filled (get_or bs j no_buffer) (more? (drop (suc j) bs)) (x + 1)) (sym e)

  -- and the head's descriptor, which is stored next, refers to the slot
  head_fit : Fit (head_desc q head k)
  head_fit =
      let n : q.n ≤ 64 = small in
      let c : k ≤ q.n = a.most in
      let b : slot + k ≤ q.n * q.n = slot_room in
      let w : q.base + 16 * (q.n * q.n) ≤ 2 ^ 64 = (g.well.pool i).within in
      let x : next_of q head < q.n = g.well.nexts head g.well.free in
      record { addr = omega arith; len = omega arith; flags = omega arith; next = omega arith }

  abbrev s : List ℕ
  s = (stored p head k m).one

  abbrev last : List ℕ
  last = put_desc s (16 * last_of p head) (desc_of p (last_of p head))

  one_length : length s ≡ length m.one
  one_length = ap (λ (x : Memory). length x.one) (stored_pool k)

  head_stored : table_desc M head ≡ list_at q.base slot k (next_of q head)
  head_stored =
      let n : length s ≡ length m.one = one_length in
      let b : head < q.n = g.well.free in
      rings_desc q.n last (q.counts.avail % q.n) head (after q.counts.avail) head b
      ∙ ap (λ x. desc_at (put_desc s (16 * x) (desc_of p x)) (16 * head)) last_head
      ∙ desc_put_same s (16 * head) (desc_of p head) (omega arith) (subst Fit (sym head_desc_lem) head_fit)
      ∙ head_desc_lem

  -- THE LAW: what the device reads after an indirect add
  pub list_publishes : Reads q.modes.legacy q.n q.base (published (add_indirect q bs) q.counts.free (length bs) m) q.counts.avail q.counts.free bs
  list_publishes =
      let n : length s ≡ length m.one = one_length in
      let o : length last ≡ length s = put_desc_length s (16 * last_of p head) (desc_of p (last_of p head)) in
      let e : length M.pool ≡ length m.pool = pool_length in
      let b : head < q.n = g.well.free in
      let c : q.n ≤ 64 = small in
      let x : slot + k ≤ q.n * q.n = slot_room in
      ring_reads q.modes.legacy q.n q.base M last q.counts.avail head bs refl (omega arith) (omega arith) (omega arith)
      (list_reads_lem q.n q.base M head bs a.some a.most a.order slot (next_of q head) b head_stored (omega arith) slot_holds)

  -- and its head's descriptor stands alone
  pub list_stands : Listed q.n q.base (published (add_indirect q bs) q.counts.free (length bs) m) q.counts.free
  list_stands = list_listed q.n q.base M head bs a.some a.most a.order slot (next_of q head) g.well.free head_stored
