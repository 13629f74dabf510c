-- A record is well formed (ten tests, WellFormed) exactly where it is so in plain words (Meaning): clause by clause, both ways.
use Rattle.std.specs.Prelude.{◌≡◌, refl, Bool, true, false, ◌&&◌, ◌||◌, List, [], ◌∷◌, ℕ, zero, suc, ◌+◌, ◌-◌, ◌*◌, ◌%◌, ◌^◌, ◌≤◌, ◌<◌, ltb, leb, eqb, length, get_or}
use Rattle.std.proofs.Common.{sym, ap, ◌∙◌, arith, lt-ltb, le-leb, eq-eqb, ne_eqb, ltb-true, leb-true, eqb-true}
use Rattle.std.proofs.Math.Bool.{not}
use Rattle.std.proofs.lemmas.Bool.{eqb-false, not-true, not-false}
use Rattle.lists.specs.Index.{ahead}
use Rattle.lists.specs.Pick.{Test, ◌when◌, every, one_if}
use Rattle.lists.specs.Walk.{hop, ending, ending_goes_on, ending_stops, goes_on_ending}
use Rattle.lists.specs.Once.{mem, once_true, true_once}
use Rattle.lists.specs.Tests.{by_test, and_left, and_right, and_both, and_six, implied, implies}
use Rattle.lists.specs.PickLaws.{every_true, true_every, Numbered, NoneOf, first_none, mem_all}
use Rattle.virtio.specs.declared.Buffer.{Buffer}
use Rattle.virtio.specs.Desc.{no_buffer, has_next}
use Rattle.virtio.specs.Layout.{need_pool}
use Rattle.virtio.specs.Chain.{all_outputs, in_order}
use Rattle.rules.specs.declared.Open.{Open}
use Rattle.rules.specs.declared.Open.TheVariants.{Idle, Add, PopIdx, PopId, PopLen, PopStore, PeekIdx, PeekId}
use Rattle.rules.specs.Record.{Queue, desc_of, next_of, noted_of, outstanding, free_count, last_of, is_indirect, slot_address, entries_of, buffers_of, is_add}
use Rattle.rules.specs.WellFormed.{size_ok, base_ok, no_empty, named, indirect_head, out_count, add_steps, store_steps, call_ok, every_head, broken, well_formed}
use Rattle.rules.specs.WellFormed.{size_clause, base_clause, used_clause, next_clause, once_clause, end_clause, indirect_clause, buffer_clause, count_clause, call_clause}
use Rattle.rules.specs.Meaning.{WellFormed, Out, Based, Listed, Sound, Named}

-- ---- 1: the size

-- a power of two, 1 to 64
abbrev pub Power : ℕ → Type 0
Power n = (k : ℕ) × (k ≤ 6) × (n ≡ 2 ^ k)

-- the test's list is the powers
pub size_means : (n : ℕ) → size_ok n ≡ true → Power n
unfolding size_ok
size_means n e =
    mem_all Power n (1 ∷ 2 ∷ 4 ∷ 8 ∷ 16 ∷ 32 ∷ 64 ∷ [])
    ((0, omega arith, refl), ((1, omega arith, refl), ((2, omega arith, refl), ((3, omega arith, refl), ((4, omega arith, refl), ((5, omega arith, refl), ((6, omega arith, refl), tt)))))))
    e

power_size : (k : ℕ) → k ≤ 6 → size_ok (2 ^ k) ≡ true
unfolding size_ok mem
power_size zero h = refl
power_size (suc zero) h = refl
power_size (suc (suc zero)) h = refl
power_size (suc (suc (suc zero))) h = refl
power_size (suc (suc (suc (suc zero)))) h = refl
power_size (suc (suc (suc (suc (suc zero))))) h = refl
power_size (suc (suc (suc (suc (suc (suc zero)))))) h = refl
power_size (suc (suc (suc (suc (suc (suc (suc k))))))) h = absurd (omega arith)

pub means_size : (n : ℕ) → Power n → size_ok n ≡ true
means_size n s = rw s.2 (power_size s.0 s.1)

-- ---- 2: the pool's base

-- a base that new takes
pub based_means : (base size : ℕ) → base_ok base size ≡ true → Based base size
based_means base size e = record {
  on_page = eqb-true (base % 4096) 0 (and_left (eqb (base % 4096) 0) (leb (base + size) (2 ^ 64)) e);
  within = leb-true (base + size) (2 ^ 64) (and_right (eqb (base % 4096) 0) (leb (base + size) (2 ^ 64)) e);
}

pub means_based : (base size : ℕ) → Based base size → base_ok base size ≡ true
means_based base size b = rw (eq-eqb (base % 4096) 0 b.on_page, le-leb (base + size) (2 ^ 64) b.within)

module _ (q : Queue) where
  -- the test is one of two, as the mode tells
  pool_means : base_clause q ≡ true → q.modes.indirect ≡ true → Based q.base (need_pool q.n)
  pool_means e m = based_means q.base (need_pool q.n) (rw m at e)

  no_pool_means : base_clause q ≡ true → q.modes.indirect ≡ false → q.base ≡ 0
  no_pool_means e m = eqb-true q.base 0 (rw m at e)

  means_base : (q.modes.indirect ≡ true → Based q.base (need_pool q.n)) → (q.modes.indirect ≡ false → q.base ≡ 0) → base_clause q ≡ true
  means_base f g =
      by_test q.modes.indirect
      (λ m. rw m (means_based q.base (need_pool q.n) (f m)))
      (λ m. rw m (eq-eqb q.base 0 (g m)))

  -- ---- 3 is one test of numbers; 4: free_head and the nexts

  free_means : next_clause q ≡ true → q.counts.free < q.n
  free_means e =
      ltb-true q.counts.free q.n (and_left (ltb q.counts.free q.n) (every (λ i. ltb (next_of q i) q.n) q.n 0) e)

  nexts_means : next_clause q ≡ true → (i : ℕ) → i < q.n → next_of q i < q.n
  nexts_means e i l =
      ltb-true (next_of q i) q.n
      (every_true (λ j. ltb (next_of q j) q.n) q.n 0
      (and_right (ltb q.counts.free q.n) (every (λ j. ltb (next_of q j) q.n) q.n 0) e)
      i (omega arith) (omega arith))

  means_next : q.counts.free < q.n → ((i : ℕ) → i < q.n → next_of q i < q.n) → next_clause q ≡ true
  means_next f h =
      and_both (ltb q.counts.free q.n) (every (λ i. ltb (next_of q i) q.n) q.n 0)
      (lt-ltb q.counts.free q.n f)
      (true_every (λ i. ltb (next_of q i) q.n) q.n 0 (λ i l u. lt-ltb (next_of q i) q.n (h i (omega arith))))

  -- ---- the outstanding heads

  -- the test says that h heads an outstanding chain
  pub out_means : (h : ℕ) → outstanding q h ≡ true → Out q h
  out_means h e = record {
    below = ltb-true h q.n (and_left (ltb h q.n) (not (eqb (noted_of q h) 0)) e);
    noted = eqb-false (noted_of q h) 0 (not-true (eqb (noted_of q h) 0) (and_right (ltb h q.n) (not (eqb (noted_of q h) 0)) e));
  }

  pub means_out : (h : ℕ) → Out q h → outstanding q h ≡ true
  means_out h o = rw (lt-ltb h q.n o.below, ne_eqb (noted_of q h) 0 o.noted)

  module _ (p : ℕ → Bool) where
    -- a test at each outstanding head
    pub head_means : every_head q p ≡ true → (h : ℕ) → Out q h → p h ≡ true
    unfolding every_head
    head_means e h o =
        let l : h < q.n = o.below in
        implied (outstanding q h) (p h)
        (every_true (λ i. not (outstanding q i) || p i) q.n 0 e h (omega arith) (omega arith))
        (means_out h o)

    pub means_head : ((h : ℕ) → Out q h → p h ≡ true) → every_head q p ≡ true
    unfolding every_head
    means_head f =
        true_every (λ i. not (outstanding q i) || p i) q.n 0
        (λ h l u. implies (outstanding q h) (p h) (λ e. f h (out_means h e)))

  -- ---- 5 is lists.Once; 6: where chains go on and stop

  -- the chain of k descriptors at h has NEXT on all but its last
  abbrev ends_at : ℕ → ℕ → Bool
  ends_at k h = ending (λ i. has_next (desc_of q i)) (next_of q) k h

  -- so at each outstanding head, for its noted length
  goes_on_means : end_clause q ≡ true → (h i : ℕ) → Out q h → i + 1 < noted_of q h → has_next (desc_of q (hop (next_of q) i h)) ≡ true
  goes_on_means e h i o l = ending_goes_on (λ j. has_next (desc_of q j)) (next_of q) (noted_of q h) h (head_means (λ j. ends_at (noted_of q j) j) e h o) i l

  stops_means : end_clause q ≡ true → (h : ℕ) → Out q h → has_next (desc_of q (last_of q h)) ≡ false
  stops_means e h o =
      let t : ends_at (noted_of q h) h ≡ true = head_means (λ j. ends_at (noted_of q j) j) e h o in
      let n : (noted_of q h ≡ 0 → ⊥) = o.noted in
      let s : noted_of q h ≡ suc (noted_of q h - 1) = omega arith in
      ending_stops (λ j. has_next (desc_of q j)) (next_of q) (noted_of q h - 1) h (ap (λ k. ends_at k h) (sym s) ∙ t)

  means_end
      : ((h i : ℕ) → Out q h → i + 1 < noted_of q h → has_next (desc_of q (hop (next_of q) i h)) ≡ true)
      → ((h : ℕ) → Out q h → has_next (desc_of q (last_of q h)) ≡ false)
      → end_clause q ≡ true
  means_end f g = means_head (λ j. ends_at (noted_of q j) j) each
    where
      each : (h : ℕ) → Out q h → ends_at (noted_of q h) h ≡ true
      each h o =
          let n : (noted_of q h ≡ 0 → ⊥) = o.noted in
          let s : noted_of q h ≡ suc (noted_of q h - 1) = omega arith in
          ap (λ k. ends_at k h) s ∙ goes_on_ending (λ j. has_next (desc_of q j)) (next_of q) (noted_of q h - 1) h (λ i l. f h i o (omega arith)) (g h o)

  -- ---- 7: the heads with INDIRECT

  -- the six things that make an indirect head
  pub listed_means : (h : ℕ) → indirect_head q h ≡ true → Listed q h
  listed_means h e =
      let t = and_six q.modes.indirect (eqb (desc_of q h).flags 4) (eqb (desc_of q h).addr (slot_address q h)) (leb 2 (entries_of q h)) (leb (entries_of q h) q.n) (eqb (desc_of q h).len (16 * entries_of q h)) e in
      record {
        mode = t.0;
        flags = eqb-true (desc_of q h).flags 4 t.1;
        addr = eqb-true (desc_of q h).addr (slot_address q h) t.2;
        two = leb-true 2 (entries_of q h) t.3;
        most = leb-true (entries_of q h) q.n t.4;
        len = eqb-true (desc_of q h).len (16 * entries_of q h) t.5;
      }

  pub means_listed : (h : ℕ) → Listed q h → indirect_head q h ≡ true
  means_listed h l =
      rw (l.mode, eq-eqb (desc_of q h).flags 4 l.flags, eq-eqb (desc_of q h).addr (slot_address q h) l.addr, le-leb 2 (entries_of q h) l.two, le-leb (entries_of q h) q.n l.most, eq-eqb (desc_of q h).len (16 * entries_of q h) l.len)

  indirect_means : indirect_clause q ≡ true → (h : ℕ) → Out q h → is_indirect q h ≡ true → Listed q h
  indirect_means e h o i =
      listed_means h
      (implied (is_indirect q h) (indirect_head q h) (head_means (λ j. not (is_indirect q j) || indirect_head q j) e h o) i)

  means_indirect : ((h : ℕ) → Out q h → is_indirect q h ≡ true → Listed q h) → indirect_clause q ≡ true
  means_indirect f =
      means_head (λ j. not (is_indirect q j) || indirect_head q j)
      (λ h o. implies (is_indirect q h) (indirect_head q h) (λ i. means_listed h (f h o i)))

-- ---- 8: the buffers

-- no buffer is empty
pub filled_means : (bs : List Buffer) → no_empty bs ≡ true → (i : ℕ) → i < length bs → (get_or bs i no_buffer).len ≡ 0 → ⊥
unfolding no_empty
filled_means [] e i l z = omega arith
filled_means (b ∷ bs) e zero l z =
    eqb-false b.len 0 (not-true (eqb b.len 0) (and_left (not (eqb b.len 0)) (no_empty bs) e)) z
filled_means (b ∷ bs) e (suc i) l z =
    filled_means bs (and_right (not (eqb b.len 0)) (no_empty bs) e) i (omega arith) z

pub means_filled : (bs : List Buffer) → ((i : ℕ) → i < length bs → (get_or bs i no_buffer).len ≡ 0 → ⊥) → no_empty bs ≡ true
unfolding no_empty
means_filled [] h = refl
means_filled (b ∷ bs) h =
    rw (ne_eqb b.len 0 (h 0 (omega arith))) (means_filled bs (λ i l. h (suc i) (omega arith)))

-- all are outputs
pub output_means : (bs : List Buffer) → all_outputs bs ≡ true → (i : ℕ) → i < length bs → (get_or bs i no_buffer).output ≡ true
unfolding all_outputs
output_means [] e i l = absurd (omega arith)
output_means (b ∷ bs) e zero l = and_left b.output (all_outputs bs) e
output_means (b ∷ bs) e (suc i) l = output_means bs (and_right b.output (all_outputs bs) e) i (omega arith)

pub means_output : (bs : List Buffer) → ((i : ℕ) → i < length bs → (get_or bs i no_buffer).output ≡ true) → all_outputs bs ≡ true
unfolding all_outputs
means_output [] h = refl
means_output (b ∷ bs) h =
    and_both b.output (all_outputs bs) (h 0 (omega arith)) (means_output bs (λ i l. h (suc i) (omega arith)))

-- each one after an output is an output
abbrev pub Sides : List Buffer → Type 0
Sides bs = (i j : ℕ) → i < j → j < length bs → (get_or bs i no_buffer).output ≡ true → (get_or bs j no_buffer).output ≡ true

pub order_means : (bs : List Buffer) → in_order bs ≡ true → Sides bs
unfolding in_order
order_means [] e i j l u o = absurd (omega arith)
order_means (b ∷ bs) e i zero l u o = absurd (omega arith)
order_means (b ∷ bs) e zero (suc j) l u o = output_means bs (rw o at e) j (omega arith)
order_means (b ∷ bs) e (suc i) (suc j) l u o =
    by_test b.output
    (λ t. output_means bs (rw t at e) j (omega arith))
    (λ t. order_means bs (rw t at e) i j (omega arith) (omega arith) o)

pub means_order : (bs : List Buffer) → Sides bs → in_order bs ≡ true
unfolding in_order
means_order [] h = refl
means_order (b ∷ bs) h =
    by_test b.output
    (λ t. rw t (means_output bs (λ j l. h 0 (suc j) (omega arith) (omega arith) t)))
    (λ t. rw t (means_order bs (λ i j l u. h (suc i) (suc j) (omega arith) (omega arith))))

module _ (q : Queue) where
  buffer_means : buffer_clause q ≡ true → (h : ℕ) → Out q h → Sound (buffers_of q h)
  buffer_means e h o =
      let bs : List Buffer = buffers_of q h in
      let t : (no_empty bs && in_order bs) ≡ true = head_means q (λ j. no_empty (buffers_of q j) && in_order (buffers_of q j)) e h o in
      record { filled = filled_means bs (and_left (no_empty bs) (in_order bs) t); sides = order_means bs (and_right (no_empty bs) (in_order bs) t) }

  means_buffer : ((h : ℕ) → Out q h → Sound (buffers_of q h)) → buffer_clause q ≡ true
  means_buffer f =
      means_head q (λ j. no_empty (buffers_of q j) && in_order (buffers_of q j))
      (λ h o. and_both (no_empty (buffers_of q h)) (in_order (buffers_of q h)) (means_filled (buffers_of q h) (f h o).filled) (means_order (buffers_of q h) (f h o).sides))

  -- ---- 9 is one test of numbers; 10: the open call

  call_means : (c : Open) → call_ok q c ≡ true → Named q c
  call_means Idle e = tt
  call_means (Add h i) e = record {
    head = out_means q h (and_left (outstanding q h) (ltb i (add_steps q h)) e);
    step = ltb-true i (add_steps q h) (and_right (outstanding q h) (ltb i (add_steps q h)) e);
  }
  call_means (PopIdx t b) e = tt
  call_means (PopId t b) e = tt
  call_means (PopLen t b d) e = tt
  call_means (PopStore k i l) e = record {
    step = ltb-true i (store_steps q k) (and_left (ltb i (store_steps q k)) (leb k (free_count q)) e);
    free = leb-true k (free_count q) (and_right (ltb i (store_steps q k)) (leb k (free_count q)) e);
  }
  call_means PeekIdx e = tt
  call_means PeekId e = tt

  means_call : (c : Open) → Named q c → call_ok q c ≡ true
  means_call Idle m = refl
  means_call (Add h i) m =
      and_both (outstanding q h) (ltb i (add_steps q h)) (means_out q h m.head) (lt-ltb i (add_steps q h) m.step)
  means_call (PopIdx t b) m = refl
  means_call (PopId t b) m = refl
  means_call (PopLen t b d) m = refl
  means_call (PopStore k i l) m =
      and_both (ltb i (store_steps q k)) (leb k (free_count q)) (lt-ltb i (store_steps q k) m.step) (le-leb k (free_count q) m.free)
  means_call PeekIdx m = refl
  means_call PeekId m = refl

  -- ---- THE LAW

  -- the tests of `broken`, in their order
  abbrev tests : List Test
  tests =
      (1 when not (size_clause q))
      ∷ (2 when not (base_clause q))
      ∷ (3 when not (used_clause q))
      ∷ (4 when not (next_clause q))
      ∷ (5 when not (once_clause q))
      ∷ (6 when not (end_clause q))
      ∷ (7 when not (indirect_clause q))
      ∷ (8 when not (buffer_clause q))
      ∷ (9 when not (count_clause q))
      ∷ (10 when not (call_clause q))
      ∷ []

  numbered : Numbered tests
  numbered = omega arith

-- the ten tests hold
pub record Clauses (q : Queue) : Type 0 where
  pub size : size_clause q ≡ true
  pub base : base_clause q ≡ true
  pub used : used_clause q ≡ true
  pub next : next_clause q ≡ true
  pub once : once_clause q ≡ true
  pub ends : end_clause q ≡ true
  pub indirect : indirect_clause q ≡ true
  pub buffer : buffer_clause q ≡ true
  pub count : count_clause q ≡ true
  pub call : call_clause q ≡ true

-- a record is well formed exactly where each of the ten tests holds
pub well_formed_clauses : (q : Queue) → well_formed q ≡ true → Clauses q
unfolding well_formed broken
well_formed_clauses q e =
    let t : NoneOf (tests q) = first_none (tests q) (numbered q) (eqb-true (broken q) 0 e) in
    record {
      size = not-false (size_clause q) t.0;
      base = not-false (base_clause q) t.1.0;
      used = not-false (used_clause q) t.1.1.0;
      next = not-false (next_clause q) t.1.1.1.0;
      once = not-false (once_clause q) t.1.1.1.1.0;
      ends = not-false (end_clause q) t.1.1.1.1.1.0;
      indirect = not-false (indirect_clause q) t.1.1.1.1.1.1.0;
      buffer = not-false (buffer_clause q) t.1.1.1.1.1.1.1.0;
      count = not-false (count_clause q) t.1.1.1.1.1.1.1.1.0;
      call = not-false (call_clause q) t.1.1.1.1.1.1.1.1.1.0;
    }

pub clauses_well_formed : (q : Queue) → Clauses q → well_formed q ≡ true
unfolding well_formed broken
clauses_well_formed q c =
    rw (c.size, c.base, c.used, c.next, c.once, c.ends, c.indirect, c.buffer, c.count, c.call)

-- a record is well formed exactly where it is so in plain words
pub well_formed_means : (q : Queue) → well_formed q ≡ true → WellFormed q
well_formed_means q e =
    let c : Clauses q = well_formed_clauses q e in
    record {
      size = size_means q.n c.size;
      pool = pool_means q c.base;
      no_pool = no_pool_means q c.base;
      used = leb-true q.counts.used q.n c.used;
      free = free_means q c.next;
      nexts = nexts_means q c.next;
      once = once_true q.n (named q) c.once;
      goes_on = goes_on_means q c.ends;
      stops = stops_means q c.ends;
      listed = indirect_means q c.indirect;
      buffers = buffer_means q c.buffer;
      count = eqb-true (ahead q.counts.avail q.counts.last + one_if (is_add q.call)) (out_count q) c.count;
      call = call_means q q.call c.call;
    }

pub means_well_formed : (q : Queue) → WellFormed q → well_formed q ≡ true
means_well_formed q w =
    clauses_well_formed q
    (record {
      size = means_size q.n w.size;
      base = means_base q w.pool w.no_pool;
      used = le-leb q.counts.used q.n w.used;
      next = means_next q w.free w.nexts;
      once = true_once q.n (named q) w.once;
      ends = means_end q w.goes_on w.stops;
      indirect = means_indirect q w.listed;
      buffer = means_buffer q w.buffers;
      count = eq-eqb (ahead q.counts.avail q.counts.last + one_if (is_add q.call)) (out_count q) w.count;
      call = means_call q q.call w.call;
    })
