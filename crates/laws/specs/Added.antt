-- The whole call add in closed form: its answer, value and steps, the record and the memory that it leaves; and, of it and of its opening, where its descriptors
-- came from, its list, the chains of others and all other noted lengths.
use Rattle.std.specs.Prelude.{◌≡◌, Bool, true, false, List, ◌++◌, map, ltb, length}
use Rattle.std.proofs.Math.Path.{refl, ap, ap₂}
use Rattle.std.proofs.Common.{sym, ◌∙◌, subst, lt-ltb, le-ltb, eq-eqb, ne_eqb, get_or-set_same, get_or-set_other}
use Rattle.std.proofs.Math.Bool.{cond}
use Prim.Native.Nat.{ℕ, zero, suc, ◌+◌, ◌-◌, ◌*◌, ◌%◌, ◌≤◌, ◌<◌}
use native.Mathlib.Omega.{arith}
use Rattle.std.proofs.lemmas.List.{length-map}
use Rattle.lists.specs.Index.{after}
use Rattle.lists.specs.Pick.{rising, run_of}
use Rattle.lists.specs.PickLaws.{length_rising}
use Rattle.lists.specs.Walk.{walk, walk_length}
use Rattle.virtio.specs.declared.Buffer.{Buffer}
use Rattle.virtio.specs.Desc.{no_buffer, buffer_of}
use Rattle.virtio.specs.Memory.{Memory, desc, avail_idx, avail_ring}
use Rattle.rules.specs.declared.Open.TheVariants.{Idle, Add}
use Rattle.rules.specs.Record.{Queue, desc_of, next_of, noted_of, free_list, chain_of, last_of, is_indirect, entries_of, size_of, buffers_of, with_call, with_avail}
use Rattle.rules.specs.WellFormed.{steps_of_add, add_steps}
use Rattle.rules.specs.Meaning.{Out}
use Rattle.rules.specs.Answer.{Outcome, refused}
use Rattle.rules.specs.Step.{Access, store, store_desc, accessed, buffer_store, add_access, Reaction, will_go_on, ends, react, move}
use Rattle.rules.specs.Calls.{add_refusal, add_indirect, add_opened, opened, open_add, and_then, moves, whole, add}
use Rattle.laws.specs.AddKeeps.{Addable, direct_takes, direct_adds, direct_others}
use Rattle.laws.specs.ListKeeps.{list_takes, list_adds, list_others}
use Rattle.laws.specs.CallKeeps.{Good}
use Rattle.laws.specs.Opening.{addable, by_opening}

-- ---- the memory that an add leaves

-- the stores of the first i buffers, of an add that is open at head h
unfoldable pub stored : Queue → ℕ → ℕ → Memory → Memory
stored p h zero m = m
stored p h (suc i) m = accessed p (buffer_store p h i) (stored p h i m)

-- the stores behind them: the last descriptor or the indirect one, the ring slot, and idx
abbrev pub finished : Queue → ℕ → Memory → Memory
finished p h m =
    accessed p (store avail_idx (after p.counts.avail))
    (accessed p (store (avail_ring (p.counts.avail % p.n)) h)
    (accessed p (store_desc (desc (last_of p h)) (desc_of p (last_of p h))) m))

-- all the stores of an add of k buffers
abbrev pub published : Queue → ℕ → ℕ → Memory → Memory
published p h k m = finished p h (stored p h k m)

-- ---- the steps of an add that is open at head h

module _ (p : Queue) (h : ℕ) where
  -- how many buffers it has; where i of its steps were made
  abbrev k : ℕ
  k = size_of p h

  abbrev at : ℕ → Memory → Outcome
  at i m = record { answer = 0; value = 0; steps = i; queue = with_call p (Add h i); memory = m }

  -- where all were
  abbrev added : ℕ → Memory → Outcome
  added i m =
      record { answer = 0; value = h; steps = i; queue = with_call (with_avail p (after p.counts.avail)) Idle; memory = m }

  -- a step, by what it stores and whether it is not the last
  abbrev moved : ℕ → Access → Memory → Bool → Outcome
  moved i a m t =
      let r : Reaction = cond t (will_go_on p (Add h (i + 1))) (ends (with_avail p (after p.counts.avail)) 0 h) in
      record { answer = r.answer; value = r.value; steps = 1; queue = r.queue; memory = accessed p a m }

  -- a step that is not the last, the last one, and none more
  step_on : (b i : ℕ) (m : Memory) (a : Access) → add_access p h i ≡ a → i + 1 < add_steps p h → moves (suc b) (at i m) ≡ moves b (at (i + 1) (accessed p a m))
  unfolding moves move
  step_on b i m a e l =
      ap₂ (λ x t. moves b (and_then (at i m) (moved i x m t))) e (lt-ltb (i + 1) (add_steps p h) l)

  step_last : (b i : ℕ) (m : Memory) (a : Access) → add_access p h i ≡ a → add_steps p h ≤ i + 1 → moves (suc b) (at i m) ≡ moves b (added (i + 1) (accessed p a m))
  unfolding moves move
  step_last b i m a e l =
      ap₂ (λ x t. moves b (and_then (at i m) (moved i x m t))) e (le-ltb (i + 1) (add_steps p h) l)

  step_none : (b i : ℕ) (m : Memory) → moves b (added i m) ≡ added i m
  unfolding moves
  step_none zero i m = refl
  step_none (suc b) i m = refl

  -- which store each makes
  at_buffer : (i : ℕ) → i < k → add_access p h i ≡ buffer_store p h i
  at_buffer i l = rw (lt-ltb i k l)

  at_last : add_access p h k ≡ store_desc (desc (last_of p h)) (desc_of p (last_of p h))
  at_last = rw (le-ltb k k (omega arith), eq-eqb k k refl)

  at_ring : add_access p h (k + 1) ≡ store (avail_ring (p.counts.avail % p.n)) h
  at_ring = rw (le-ltb (k + 1) k (omega arith), ne_eqb (k + 1) k (omega arith), eq-eqb (k + 1) (k + 1) refl)

  at_idx : add_access p h (k + 1 + 1) ≡ store avail_idx (after p.counts.avail)
  at_idx = rw (le-ltb (k + 1 + 1) k (omega arith), ne_eqb (k + 1 + 1) k (omega arith), ne_eqb (k + 1 + 1) (k + 1) (omega arith))

  -- the buffers' stores
  buffers_stored : (i b : ℕ) (m : Memory) → i ≤ k → moves (i + b) (at 0 m) ≡ moves b (at i (stored p h i m))
  unfolding stored
  buffers_stored zero b m l =
      let e : 0 + b ≡ b = omega arith in
      ap (λ c. moves c (at 0 m)) e
  buffers_stored (suc i) b m l =
      let e : suc i + b ≡ i + suc b = omega arith in
      let f : i + 1 ≡ suc i = omega arith in
      ap (λ c. moves c (at 0 m)) e
      ∙ buffers_stored i (suc b) m (omega arith)
      ∙ step_on b i (stored p h i m) (buffer_store p h i) (at_buffer i (omega arith)) (omega arith)
      ∙ ap (λ c. moves b (at c (stored p h (suc i) m))) f

  -- the three behind them
  three : (b : ℕ) (m : Memory) → moves (suc (suc (suc b))) (at k m) ≡ added (steps_of_add k) (finished p h m)
  three b m =
      let e : k + 1 + 1 + 1 ≡ k + 3 = omega arith in
      step_on (suc (suc b)) k m _ at_last (omega arith)
      ∙ step_on (suc b) (k + 1) _ _ at_ring (omega arith)
      ∙ step_last b (k + 1 + 1) _ _ at_idx (omega arith)
      ∙ step_none b (k + 1 + 1 + 1) (finished p h m)
      ∙ ap (λ i. added i (finished p h m)) e

  -- all of them
  steps_done : (b : ℕ) (m : Memory) → k + 3 ≤ b → moves b (at 0 m) ≡ added (steps_of_add k) (published p h k m)
  steps_done b m l =
      let e : b ≡ k + suc (suc (suc (b - 3 - k))) = omega arith in
      ap (λ c. moves c (at 0 m)) e
      ∙ buffers_stored k (suc (suc (suc (b - 3 - k)))) m (omega arith)
      ∙ three (b - 3 - k) (stored p h k m)

-- THE LAW of each step of an open add: it leaves all but avail_idx and the open call as it was
pub add_step_keeps : (q : Queue) (h i v : ℕ) → (react q (Add h i) v).queue ≡ with_call (with_avail q (react q (Add h i) v).queue.counts.avail) (react q (Add h i) v).queue.call
add_step_keeps q h i v = go (ltb (i + 1) (add_steps q h)) _ _ refl refl
  where
    go : (b : Bool) (x y : Reaction) → x.queue ≡ with_call (with_avail q x.queue.counts.avail) x.queue.call
        → y.queue ≡ with_call (with_avail q y.queue.counts.avail) y.queue.call
        → (cond b x y).queue ≡ with_call (with_avail q (cond b x y).queue.counts.avail) (cond b x y).queue.call
    go true x y f g = f
    go false x y f g = g

-- ---- the record opened

-- how many buffers a head's chain has is the length of its list
pub size_length : (p : Queue) (h : ℕ) → length (buffers_of p h) ≡ size_of p h
size_length p h = go (is_indirect p h)
  where
    go : (b : Bool)
        → length (cond b (run_of no_buffer p.tables.kept (p.n * h) (entries_of p h)) (map (λ i. buffer_of (desc_of p i)) (chain_of p h)))
        ≡ cond b (entries_of p h) (noted_of p h)
    go true = length-map (rising (entries_of p h) (p.n * h)) _ ∙ length_rising (entries_of p h) (p.n * h)
    go false = length-map (chain_of p h) _ ∙ walk_length (next_of p) (noted_of p h) h

module _ (q : Queue) (m : Memory) (bs : List Buffer) (g : Good q) (e : add_refusal q m bs ≡ 0) where
  -- where nothing refuses the add; the record opened, and its head
  able : Addable q bs
  able = addable q m bs g.well e

  abbrev p : Queue
  p = add_opened q bs

  abbrev head : ℕ
  head = q.counts.free

  -- the call that it opens, and avail_idx, which stays
  opened_call : p.call ≡ Add head 0
  opened_call = by_opening q bs able (λ r. r.call ≡ Add head 0) (λ i l. refl) (λ d. refl)

  opened_avail : p.counts.avail ≡ q.counts.avail
  opened_avail = by_opening q bs able (λ r. r.counts.avail ≡ q.counts.avail) (λ i l. refl) (λ d. refl)

  -- its list, the free list, and the other chains
  opened_adds : buffers_of p head ≡ bs
  opened_adds =
      by_opening q bs able (λ r. buffers_of r head ≡ bs) (list_adds q bs g.held g.well able) (direct_adds q bs g.held g.well able)

  one_noted : noted_of (add_indirect q bs) head ≡ 1
  one_noted =
      get_or-set_same q.tables.noted head 1 0 (let b : head < q.n = g.well.free in let f : q.n ≤ length q.tables.noted = g.held.noted in omega arith)

  opened_takes : free_list q ≡ chain_of p head ++ free_list p
  unfolding walk
  opened_takes =
      by_opening q bs able (λ r. free_list q ≡ chain_of r head ++ free_list r)
      (λ i l. list_takes q bs g.held g.well able i l
      ∙ ap (λ j. walk (next_of (add_indirect q bs)) j head ++ free_list (add_indirect q bs)) (sym one_noted))
      (direct_takes q bs g.held g.well able)

  abbrev Others : Queue → Type 0
  Others r = (h : ℕ) → Out q h → (chain_of r h ≡ chain_of q h) × (buffers_of r h ≡ buffers_of q h) × (noted_of r h ≡ noted_of q h)

  opened_others : Others p
  opened_others =
      by_opening q bs able Others (list_others q bs g.held g.well able) (direct_others q bs g.held g.well able)

  -- every other number's noted length, whether it headed a chain or not
  abbrev Noted : Queue → Type 0
  Noted r = (h : ℕ) → (h ≡ q.counts.free → ⊥) → noted_of r h ≡ noted_of q h

  opened_noted : Noted p
  opened_noted =
      by_opening q bs able Noted (λ i l h d. get_or-set_other q.tables.noted head h 1 0 d)
      (λ i h d. get_or-set_other q.tables.noted head h (length bs) 0 d)

  -- so it has as many buffers as were given
  opened_size : size_of p head ≡ length bs
  opened_size = sym (size_length p head) ∙ ap length opened_adds

  -- ---- the call open

  -- THE LAWS of what the opening leaves: its closed form; the free list was the new chain's descriptors, and then what is free now; the new chain's list is
  -- the one given; every other chain and list is as it was, and every other number's noted length
  pub open_done : open_add q m bs ≡ opened (add_opened q bs) m
  unfolding open_add
  open_done =
      ap (λ b. cond b (opened p m) (refused (add_refusal q m bs) q m)) (eq-eqb (add_refusal q m bs) 0 e)

  pub open_takes : free_list q ≡ chain_of (open_add q m bs).queue q.counts.free ++ free_list (open_add q m bs).queue
  open_takes = opened_takes ∙ ap (λ (o : Outcome). chain_of o.queue head ++ free_list o.queue) (sym open_done)

  pub open_adds : buffers_of (open_add q m bs).queue q.counts.free ≡ bs
  open_adds = ap (λ (o : Outcome). buffers_of o.queue head) open_done ∙ opened_adds

  pub open_others : (h : ℕ) → Out q h → (chain_of (open_add q m bs).queue h ≡ chain_of q h) × (buffers_of (open_add q m bs).queue h ≡ buffers_of q h) × (noted_of (open_add q m bs).queue h ≡ noted_of q h)
  open_others = subst (λ (o : Outcome). Others o.queue) (sym open_done) opened_others

  pub open_noted : (h : ℕ) → (h ≡ q.counts.free → ⊥) → noted_of (open_add q m bs).queue h ≡ noted_of q h
  open_noted = subst (λ (o : Outcome). Noted o.queue) (sym open_done) opened_noted

  -- ---- the whole call

  -- THE LAW: an add that nothing refuses
  pub add_done : add q m bs ≡ record {
    answer = 0;
    value = q.counts.free;
    steps = steps_of_add (length bs);
    queue = with_call (with_avail (add_opened q bs) (after q.counts.avail)) Idle;
    memory = published (add_opened q bs) q.counts.free (length bs) m;
  }
  add_done =
      let l : length bs ≤ q.n = able.most in
      let k : size_of p head ≡ length bs = opened_size in
      ap (whole q.n) open_done
      ∙ ap (λ c. moves (q.n + 4) (opened (with_call p c) m)) opened_call
      ∙ steps_done p head (q.n + 4) m (omega arith)
      ∙ ap₂ (λ j x. record { answer = 0; value = head; steps = steps_of_add j; queue = with_call (with_avail p (after x)) Idle; memory = published p head j m }) k opened_avail

  -- THE LAWS of what it leaves: the free list was the new chain's descriptors, and then what is free now; the new chain's list is the one given; every other
  -- chain and list is as it was, and every other number's noted length
  pub add_takes : free_list q ≡ chain_of (add q m bs).queue q.counts.free ++ free_list (add q m bs).queue
  add_takes = opened_takes ∙ ap (λ (o : Outcome). chain_of o.queue head ++ free_list o.queue) (sym add_done)

  pub add_adds : buffers_of (add q m bs).queue q.counts.free ≡ bs
  add_adds = ap (λ (o : Outcome). buffers_of o.queue head) add_done ∙ opened_adds

  pub add_others : (h : ℕ) → Out q h → (chain_of (add q m bs).queue h ≡ chain_of q h) × (buffers_of (add q m bs).queue h ≡ buffers_of q h) × (noted_of (add q m bs).queue h ≡ noted_of q h)
  add_others = subst (λ (o : Outcome). Others o.queue) (sym add_done) opened_others

  pub add_noted : (h : ℕ) → (h ≡ q.counts.free → ⊥) → noted_of (add q m bs).queue h ≡ noted_of q h
  add_noted = subst (λ (o : Outcome). Noted o.queue) (sym add_done) opened_noted
