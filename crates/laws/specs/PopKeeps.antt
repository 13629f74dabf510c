-- What the freeing of a token's chain leaves: a well-formed record, in which that chain stands first in the free list, and every other chain and list is as
-- it was.
use Rattle.std.specs.Prelude.{◌≡◌, true, false, not, ◌&&◌, List, ◌++◌, ℕ, ◌+◌, ◌-◌, ◌*◌, ◌/◌, ◌%◌, ◌≤◌, ◌<◌, ltb, eqb}
use Rattle.std.proofs.Common.{sym, ap, ap₂, subst, ◌∙◌, true≢false, arith, lt-ltb, eq-eqb, get_or-set_same, get_or-set_other}
use Rattle.lists.specs.Index.{ahead, after, ahead_less}
use Rattle.lists.specs.Tests.{by_eq}
use Rattle.lists.specs.Pick.{one_if}
use Rattle.lists.specs.PickLaws.{tally_off}
use Rattle.lists.specs.Once.{count, Once, below_append}
use Rattle.lists.specs.Walk.{hop, walk, walks, walk_below, walks_below, walk_split}
use Rattle.lists.specs.Places.{count_append}
use Rattle.lists.specs.WalkLaws.{walks_without}
use Rattle.virtio.specs.Desc.{has_next, has_indirect}
use Rattle.rules.specs.declared.Open.{Open}
use Rattle.rules.specs.declared.Open.TheVariants.{Idle, Add, PopIdx, PopId, PopLen, PopStore, PeekIdx, PeekId}
use Rattle.rules.specs.Record.{Queue, desc_of, next_of, noted_of, outstanding, free_count, free_list, chain_of, last_of, is_indirect, entries_of, buffers_of, is_add, with_call}
use Rattle.rules.specs.WellFormed.{named, out_count}
use Rattle.rules.specs.Meaning.{WellFormed, Out, Listed, Sound, Named}
use Rattle.rules.specs.Step.{freed}
use Rattle.laws.specs.WellFormedIs.{means_out}
use Rattle.laws.specs.Held.{Held}
use Rattle.laws.specs.FreeLaws.{freed_flags, freed_next, noted_used, last_leads, chain_same, chain_leads, free_same, hop_same, noted_same, chain_other, head_same, buffers_same}

module _ (q : Queue) (t : ℕ) (s : Held q) (w : WellFormed q) (o : Out q t) (a : is_add q.call ≡ false) where
  -- the chain stands first in the free list
  pub freed_free : free_list (freed q t) ≡ chain_of q t ++ free_list q
  freed_free =
      let u : q.counts.used ≤ q.n = w.used in
      let m : noted_of q t ≤ q.counts.used = noted_used q w t o.below in
      let c : free_count (freed q t) ≡ noted_of q t + free_count q = omega arith in
      ap (λ k. walk (next_of (freed q t)) k t) c
      ∙ walk_split (next_of (freed q t)) (noted_of q t) (free_count q) t
      ∙ ap₂ (λ x y. x ++ y) (chain_same q t s w o)
      (ap (walk (next_of (freed q t)) (free_count q)) (chain_leads q t s w o) ∙ free_same q t s w o)

  -- every other chain, list and noted length is as it was; and the token heads none any more
  pub freed_others : (h : ℕ) → Out q h → (h ≡ t → ⊥) → (chain_of (freed q t) h ≡ chain_of q h) × (buffers_of (freed q t) h ≡ buffers_of q h) × (noted_of (freed q t) h ≡ noted_of q h)
  freed_others h p d =
      (chain_other q t s w o h p.below d, buffers_same q t s w o h p d, noted_same q t s w o h p.below d)

  pub freed_token : noted_of (freed q t) t ≡ 0
  freed_token = get_or-set_same q.tables.noted t 0 0 (let b = o.below in let l = s.noted in omega arith)

  -- ---- the clauses of a well-formed record, one by one

  -- links stay below n
  nexts_kept : (i : ℕ) → i < q.n → next_of (freed q t) i < q.n
  nexts_kept i b =
      by_eq i (last_of q t)
      (λ e. let z : next_of (freed q t) i ≡ q.counts.free = ap (next_of (freed q t)) e ∙ last_leads q t s w o in let f = w.free in omega arith)
      (λ e. let z : next_of (freed q t) i ≡ next_of q i = freed_next q t i e in let f = w.nexts i b in omega arith)

  -- each descriptor is named as often as it was
  named_kept : (i : ℕ) → count i (named (freed q t)) ≡ count i (named q)
  named_kept i =
      let ws : List ℕ = walks (next_of q) (noted_of q) q.n 0 in
      let ws' : List ℕ = walks (next_of (freed q t)) (noted_of (freed q t)) q.n 0 in
      let b : t < q.n = o.below in
      let x : count i (named (freed q t)) ≡ count i (free_list (freed q t)) + count i ws' = count_append i (free_list (freed q t)) ws' in
      let y : count i (named q) ≡ count i (free_list q) + count i ws = count_append i (free_list q) ws in
      let f : count i (free_list (freed q t)) ≡ count i (chain_of q t) + count i (free_list q) = ap (count i) freed_free ∙ count_append i (chain_of q t) (free_list q) in
      let g : count i ws' + count i (chain_of q t) ≡ count i ws = walks_without (next_of q) (noted_of q) (next_of (freed q t)) (noted_of (freed q t)) t freed_token i q.n 0 (omega arith) (omega arith) (λ j l u d. chain_other q t s w o j (omega arith) d) in
      omega arith

  once_kept : Once q.n (named (freed q t))
  once_kept = record {
    each = λ i l. named_kept i ∙ w.once.each i l;
    only =
        below_append q.n (free_list (freed q t)) (walks (next_of (freed q t)) (noted_of (freed q t)) q.n 0)
        (walk_below (next_of (freed q t)) q.n nexts_kept (free_count (freed q t)) t o.below)
        (walks_below (next_of (freed q t)) (noted_of (freed q t)) q.n nexts_kept q.n 0 (omega arith));
  }

  -- the token was outstanding and is so no more, and every other number is as it was: the indices and the chains tell of one less
  out_same : (h : ℕ) → (h ≡ t → ⊥) → outstanding (freed q t) h ≡ outstanding q h
  out_same h d = ap (λ k. ltb h q.n && not (eqb k 0)) (get_or-set_other q.tables.noted t h 0 0 d)

  out_off : outstanding (freed q t) t ≡ false
  out_off = rw (lt-ltb t q.n o.below, eq-eqb (noted_of (freed q t) t) 0 freed_token)

  count_kept : ahead q.counts.avail (after q.counts.last) ≡ out_count (freed q t)
  count_kept =
      let b : t < q.n = o.below in
      let n : out_count (freed q t) + 1 ≡ out_count q = tally_off (outstanding q) (outstanding (freed q t)) t (means_out q t o) out_off out_same q.n 0 (omega arith) (omega arith) in
      let z : one_if (is_add q.call) ≡ 0 = ap one_if a in
      let m : ahead q.counts.avail q.counts.last + one_if (is_add q.call) ≡ out_count q = w.count in
      let l : ahead q.counts.avail (after q.counts.last) + 1 ≡ ahead q.counts.avail q.counts.last = ahead_less q.counts.avail q.counts.last s.avail (omega arith) in
      omega arith

  module _ (c : Open) where
    -- what heads a chain now is another number than the token, and headed one before
    abbrev left : Queue
    left = with_call (freed q t) c

    other_left : (h : ℕ) → Out left h → h ≡ t → ⊥
    other_left h p e = p.noted (ap (noted_of (freed q t)) e ∙ freed_token)

    out_left : (h : ℕ) → Out left h → Out q h
    out_left h p = record { below = p.below; noted = λ e. p.noted (noted_same q t s w o h p.below (other_left h p) ∙ e) }

    -- its chain goes on and stops as it did, its head and its buffers are as they were
    next_left : (i j : ℕ) → i ≡ j → has_next (desc_of left i) ≡ has_next (desc_of q j)
    next_left i j e = ap (λ f. eqb (f % 2) 1) (freed_flags q t i) ∙ ap (λ k. has_next (desc_of q k)) e

    goes_on_left : (h i : ℕ) → Out left h → i + 1 < noted_of left h → has_next (desc_of left (hop (next_of left) i h)) ≡ true
    goes_on_left h i p l =
        let d : (h ≡ t → ⊥) = other_left h p in
        let k : noted_of (freed q t) h ≡ noted_of q h = noted_same q t s w o h p.below d in
        next_left (hop (next_of left) i h) (hop (next_of q) i h) (hop_same q t s w o h p.below d i (omega arith))
        ∙ w.goes_on h i (out_left h p) (omega arith)

    stops_left : (h : ℕ) → Out left h → has_next (desc_of left (last_of left h)) ≡ false
    stops_left h p =
        let d : (h ≡ t → ⊥) = other_left h p in
        let k : noted_of (freed q t) h ≡ noted_of q h = noted_same q t s w o h p.below d in
        next_left (last_of left h) (last_of q h)
        (ap (λ m. hop (next_of left) (m - 1) h) k ∙ hop_same q t s w o h p.below d (noted_of q h - 1) (omega arith))
        ∙ w.stops h (out_left h p)

    listed_left : (h : ℕ) → Out left h → is_indirect left h ≡ true → Listed left h
    listed_left h p e =
        let x : desc_of (freed q t) h ≡ desc_of q h = head_same q t s w o h (out_left h p) (other_left h p) in
        let l : Listed q h = w.listed h (out_left h p) (ap has_indirect (sym x) ∙ e) in
        let n : entries_of (freed q t) h ≡ entries_of q h = ap (λ y. y.len / 16) x in
        let k : (desc_of (freed q t) h).len ≡ (desc_of q h).len = ap (λ y. y.len) x in
        let two : 2 ≤ entries_of q h = l.two in
        let most : entries_of q h ≤ q.n = l.most in
        let len : (desc_of q h).len ≡ 16 * entries_of q h = l.len in
        record {
          mode = l.mode;
          flags = ap (λ y. y.flags) x ∙ l.flags;
          addr = ap (λ y. y.addr) x ∙ l.addr;
          two = omega arith;
          most = omega arith;
          len = omega arith;
        }

    buffers_left : (h : ℕ) → Out left h → Sound (buffers_of left h)
    buffers_left h p =
        subst Sound (sym (buffers_same q t s w o h (out_left h p) (other_left h p))) (w.buffers h (out_left h p))

  call_left : (c : Open) → Named (freed q t) c → is_add c ≡ false → Named (with_call (freed q t) c) c
  call_left Idle n b = tt
  call_left (Add h i) n b = absurd (true≢false b)
  call_left (PopIdx t b) n e = tt
  call_left (PopId t b) n e = tt
  call_left (PopLen t b d) n e = tt
  call_left (PopStore k i l) n e = record { step = n.step; free = n.free }
  call_left PeekIdx n e = tt
  call_left PeekId n e = tt

  -- with any call but an add open that names a step that it has
  pub freed_keeps : (c : Open) → Named (freed q t) c → is_add c ≡ false → WellFormed (with_call (freed q t) c)
  freed_keeps c n b =
      let u : q.counts.used ≤ q.n = w.used in
      let z : one_if (is_add c) ≡ 0 = ap one_if b in
      let k : ahead q.counts.avail (after q.counts.last) ≡ out_count (freed q t) = count_kept in
      record {
        size = w.size;
        pool = w.pool;
        no_pool = w.no_pool;
        used = omega arith;
        free = o.below;
        nexts = nexts_kept;
        once = once_kept;
        goes_on = goes_on_left c;
        stops = stops_left c;
        listed = listed_left c;
        buffers = buffers_left c;
        count = omega arith;
        call = call_left c n b;
      }
