-- What an add's opening leaves: a well-formed record, in which the list given is outstanding under its head, and every other chain and list is as it was.
use Rattle.std.specs.Prelude.{◌≡◌, refl, Bool, true, false, not, cond, ◌&&◌, ◌⊎◌, List, ◌++◌, map, ℕ, suc, ◌+◌, ◌-◌, ◌*◌, ◌/◌, ◌≤◌, ◌<◌, ltb, eqb, length, get_or, drop}
use Rattle.std.proofs.Common.{sym, ap, ap₂, ◌∙◌, subst, true≢false, inl, inr, arith, get_or-set_same, get_or-set_other}
use Rattle.std.proofs.Math.Path.{fun_ext}
use Rattle.std.proofs.Math.Bool.{and-false}
use Rattle.lists.specs.Index.{ahead}
use Rattle.lists.specs.Tests.{by_eq}
use Rattle.lists.specs.Pick.{one_if, run_of}
use Rattle.lists.specs.PickLaws.{tally_more}
use Rattle.lists.specs.Walk.{hop, walk, walks, walk_below, walks_below, hop_below, walk_split, map_walk, map_alike}
use Rattle.lists.specs.Once.{Once, count, below_append}
use Rattle.lists.specs.Places.{count_append, on_walk, in_walks, walks_more}
use Rattle.virtio.specs.declared.Desc.{Desc}
use Rattle.virtio.specs.declared.Buffer.{Buffer}
use Rattle.virtio.specs.Desc.{no_buffer, has_next, has_indirect, buffer_of}
use Rattle.virtio.specs.Chain.{in_order}
use Rattle.rules.specs.declared.Open.TheVariants.{Idle}
use Rattle.rules.specs.Record.{Queue, desc_of, next_of, noted_of, outstanding, free_list, chain_of, last_of, is_indirect, entries_of, buffers_of, is_add}
use Rattle.rules.specs.WellFormed.{no_empty, named, out_count}
use Rattle.rules.specs.Meaning.{WellFormed, Out, Listed, Sound}
use Rattle.rules.specs.Calls.{filled, more?, add_direct}
use Rattle.laws.specs.Held.{Held}
use Rattle.laws.specs.WellFormedIs.{means_out, filled_means, order_means}
use Rattle.laws.specs.FillLaws.{filled_buffer, filled_next, filled_direct, more_on, no_more, fill_links, fill_other, fill_at}

-- what add's refusals leave: none of 11, 1, 2, 7 applies
pub record Addable (q : Queue) (bs : List Buffer) : Type 0 where
  pub idle : q.call ≡ Idle
  pub some : 0 < length bs
  pub order : in_order bs ≡ true
  pub room : q.counts.used < q.n
  pub most : length bs ≤ q.n
  pub direct : q.modes.indirect ≡ false → q.counts.used + length bs ≤ q.n
  pub filled : no_empty bs ≡ true

-- an indirect head whose descriptor stays refers to its list as before
pub listed_same
    : (q r : Queue) (h : ℕ)
    → r.n ≡ q.n
    → r.modes ≡ q.modes
    → r.base ≡ q.base
    → desc_of r h ≡ desc_of q h
    → Listed q h
    → Listed r h
listed_same q r h n m b e l =
    let len : (desc_of r h).len ≡ (desc_of q h).len = ap (λ (x : Desc). x.len) e in
    let entries : entries_of r h ≡ entries_of q h = ap (λ (x : Desc). x.len / 16) e in
    let two : 2 ≤ entries_of q h = l.two in
    let most : entries_of q h ≤ q.n = l.most in
    let old : (desc_of q h).len ≡ 16 * entries_of q h = l.len in
    record {
      mode = ap (λ x. x.indirect) m ∙ l.mode;
      flags = ap (λ (x : Desc). x.flags) e ∙ l.flags;
      addr = ap (λ (x : Desc). x.addr) e ∙ l.addr ∙ ap₂ (λ x y. x + 16 * (y * h)) (sym b) (sym n);
      two = omega arith;
      most = omega arith;
      len = omega arith;
    }

module _ (q : Queue) (bs : List Buffer) (s : Held q) (w : WellFormed q) (a : Addable q bs)
    (d : (q.modes.indirect ≡ false) ⊎ (length bs ≡ 1)) where
  -- the record opened; how many descriptors it takes, from which on; where links lead
  abbrev r : Queue
  r = add_direct q bs

  abbrev k : ℕ
  k = length bs

  abbrev head : ℕ
  head = q.counts.free

  abbrev next : ℕ → ℕ
  next = next_of q

  -- there is room for them
  room_by : (q.modes.indirect ≡ false) ⊎ (k ≡ 1) → q.counts.used + k ≤ q.n
  room_by (inl e) = a.direct e
  room_by (inr e) = let l : q.counts.used < q.n = a.room in omega arith

  room : q.counts.used + k ≤ q.n
  room = room_by d

  some : 0 < k
  some = a.some

  -- ---- links and noted lengths

  next_at : (i : ℕ) → next_of r i ≡ next_of q i
  next_at i = fill_links next q.tables.shadow head bs (λ j. refl) i

  pub nexts : next_of (add_direct q bs) ≡ next_of q
  nexts = fun_ext next_at

  next_below : (i : ℕ) → i < q.n → next_of r i < q.n
  next_below i l =
      let e : next_of r i ≡ next_of q i = next_at i in
      let b : next_of q i < q.n = w.nexts i l in
      omega arith

  pub noted_new : noted_of (add_direct q bs) q.counts.free ≡ length bs
  noted_new =
      get_or-set_same q.tables.noted head k 0 (let b : head < q.n = w.free in let f : q.n ≤ length q.tables.noted = s.noted in omega arith)

  noted_other : (h : ℕ) → (h ≡ head → ⊥) → noted_of r h ≡ noted_of q h
  noted_other h e = get_or-set_other q.tables.noted head h k 0 e

  -- ---- the free list: the descriptors taken, and the rest

  abbrev taken : List ℕ
  taken = walk next k head

  abbrev rest : List ℕ
  rest = walk next (q.n - (q.counts.used + k)) (hop next k head)

  free_split : free_list q ≡ taken ++ rest
  free_split =
      let l : q.counts.used + k ≤ q.n = room in
      let e : q.n - q.counts.used ≡ k + (q.n - (q.counts.used + k)) = omega arith in
      ap (λ m. walk next m head) e ∙ walk_split next k (q.n - (q.counts.used + k)) head

  chain_new : chain_of r head ≡ taken
  chain_new = ap₂ (λ (f : ℕ → ℕ) (m : ℕ). walk f m head) nexts noted_new

  free_new : free_list r ≡ rest
  free_new = ap (λ (f : ℕ → ℕ). walk f (q.n - (q.counts.used + k)) (hop next k head)) nexts

  -- THE LAW: the free list was the new chain, and then what is free now
  pub direct_takes : free_list q ≡ chain_of (add_direct q bs) q.counts.free ++ free_list (add_direct q bs)
  direct_takes = free_split ∙ ap₂ (λ (x y : List ℕ). x ++ y) (sym chain_new) (sym free_new)

  -- ---- where each descriptor is

  -- how often the chains name i
  abbrev chained : ℕ → ℕ
  chained i = count i (walks next (noted_of q) q.n 0)

  free_count : (i : ℕ) → count i (free_list q) ≡ count i taken + count i rest
  free_count i = ap (count i) free_split ∙ count_append i taken rest

  pub taken_free : (i : ℕ) → count i (walk (next_of q) (length bs) q.counts.free) ≤ count i (free_list q)
  taken_free i = let e : count i (free_list q) ≡ count i taken + count i rest = free_count i in omega arith

  all_count : (i : ℕ) → i < q.n → count i taken + count i rest + chained i ≡ 1
  all_count i l =
      let e : count i (named q) ≡ 1 = w.once.each i l in
      let f : count i (named q) ≡ count i (free_list q) + chained i = count_append i (free_list q) (walks next (noted_of q) q.n 0) in
      let g : count i (free_list q) ≡ count i taken + count i rest = free_count i in
      omega arith

  -- a descriptor of an outstanding chain is not taken
  not_taken : (h j : ℕ) → Out q h → j < noted_of q h → count (hop next j h) taken ≡ 0
  not_taken h j o l =
      let b : h < q.n = o.below in
      let e : count (hop next j h) taken + count (hop next j h) rest + chained (hop next j h) ≡ 1 = all_count (hop next j h) (hop_below next q.n w.nexts j h b) in
      let f : 1 ≤ count (hop next j h) (walk next (noted_of q h) h) = on_walk next (noted_of q h) h j l in
      let g : count (hop next j h) (walk next (noted_of q h) h) ≤ chained (hop next j h) = in_walks next (noted_of q) (hop next j h) q.n 0 h (omega arith) (omega arith) in
      omega arith

  -- so the free head, which is taken, headed none
  head_taken : 1 ≤ count head taken
  unfolding hop
  head_taken = on_walk next k head 0 some

  head_none : noted_of q head ≡ 0
  unfolding hop
  head_none =
      by_eq (noted_of q head) 0 (λ e. e)
      (λ e. absurd (let z : count head taken ≡ 0 = not_taken head 0 (record { below = w.free; noted = e }) (omega arith) in
      let t : 1 ≤ count head taken = head_taken in
      omega arith))

  -- ---- what the descriptors say

  pub desc_new : (j : ℕ) → j < length bs
      → desc_of (add_direct q bs) (hop (next_of q) j q.counts.free)
      ≡ filled (get_or bs j no_buffer) (more? (drop (suc j) bs)) (next_of q (hop (next_of q) j q.counts.free))
  desc_new =
      fill_at next q.n q.tables.shadow head bs s.shadow (λ j. refl) (walk_below next q.n w.nexts k head w.free)
      (λ i l. let e = all_count i l in omega arith)

  desc_other : (h j : ℕ) → Out q h → j < noted_of q h → desc_of r (hop next j h) ≡ desc_of q (hop next j h)
  desc_other h j o l =
      fill_other next q.tables.shadow head bs (λ i. refl) (hop next j h) (not_taken h j o l)

  desc_head : desc_of r head ≡ filled (get_or bs 0 no_buffer) (more? (drop 1 bs)) (next head)
  unfolding hop
  desc_head = desc_new 0 some

  head_direct : is_indirect r head ≡ false
  head_direct = ap has_indirect desc_head ∙ filled_direct (get_or bs 0 no_buffer) (more? (drop 1 bs)) (next head)

  -- THE LAW: the list given is outstanding under the head
  pub direct_adds : buffers_of (add_direct q bs) q.counts.free ≡ bs
  direct_adds =
      ap (λ t. cond t (run_of no_buffer q.tables.kept (q.n * head) (entries_of r head)) (map (λ i. buffer_of (desc_of r i)) (chain_of r head))) head_direct
      ∙ ap (map (λ i. buffer_of (desc_of r i))) chain_new
      ∙ map_walk next (λ i. buffer_of (desc_of r i)) no_buffer bs head
      (λ j l. ap buffer_of (desc_new j l) ∙ filled_buffer (get_or bs j no_buffer) (more? (drop (suc j) bs)) (next (hop next j head)))

  -- ---- the chains that were outstanding

  module _ (h : ℕ) (o : Out q h) where
    not_head : h ≡ head → ⊥
    not_head e = o.noted (ap (noted_of q) e ∙ head_none)

    desc_first : desc_of r h ≡ desc_of q h
    unfolding hop
    desc_first = desc_other h 0 o (let n : (noted_of q h ≡ 0 → ⊥) = o.noted in omega arith)

    chain_other : chain_of r h ≡ chain_of q h
    chain_other = ap₂ (λ (f : ℕ → ℕ) (m : ℕ). walk f m h) nexts (noted_other h not_head)

    buffers_other : buffers_of r h ≡ buffers_of q h
    buffers_other =
        ap₂ (λ (e : Desc) (l : List Buffer). cond (has_indirect e) (run_of no_buffer q.tables.kept (q.n * h) (e.len / 16)) l) desc_first
        (ap (map (λ i. buffer_of (desc_of r i))) chain_other
        ∙ map_alike next (λ i. buffer_of (desc_of r i)) (λ i. buffer_of (desc_of q i)) (noted_of q h) h (λ j l. ap buffer_of (desc_other h j o l)))

  -- THE LAW: every other chain, list and noted length is as it was
  pub direct_others : (h : ℕ) → Out q h → (chain_of (add_direct q bs) h ≡ chain_of q h) × (buffers_of (add_direct q bs) h ≡ buffers_of q h) × (noted_of (add_direct q bs) h ≡ noted_of q h)
  direct_others h o = (chain_other h o, buffers_other h o, noted_other h (not_head h o))

  -- ---- the clauses

  -- a head is the new one, or was outstanding
  out_new : Out r head
  out_new = record { below = w.free; noted = λ e. (let n : noted_of r head ≡ k = noted_new in let l : 0 < k = some in omega arith) }

  out_old : (h : ℕ) → Out r h → (h ≡ head → ⊥) → Out q h
  out_old h o e = record { below = o.below; noted = λ z. o.noted (noted_other h e ∙ z) }

  -- 5: each descriptor is named as often as before
  named_count : (i : ℕ) → count i (named r) ≡ count i rest + (count i taken + chained i)
  named_count i =
      let e : count i (named r) ≡ count i (rest ++ walks next (noted_of r) q.n 0) = ap (λ (f : ℕ → ℕ). count i (walk f (q.n - (q.counts.used + k)) (hop next k head) ++ walks f (noted_of r) q.n 0)) nexts in
      let f : count i (rest ++ walks next (noted_of r) q.n 0) ≡ count i rest + count i (walks next (noted_of r) q.n 0) = count_append i rest (walks next (noted_of r) q.n 0) in
      let b : head < q.n = w.free in
      let g : count i (walks next (noted_of r) q.n 0) ≡ count i (walk next (noted_of r head) head) + chained i = walks_more next (noted_of q) (noted_of r) head head_none noted_other i q.n 0 (omega arith) (omega arith) in
      let m : count i (walk next (noted_of r head) head) ≡ count i taken = ap (λ j. count i (walk next j head)) noted_new in
      omega arith

  free_below : hop next k head < q.n
  free_below = hop_below next q.n w.nexts k head w.free

  once_new : Once q.n (named r)
  once_new = record {
    each = λ i l. (let e = named_count i in let f = all_count i l in omega arith);
    only =
        below_append q.n (free_list r) (walks (next_of r) (noted_of r) q.n 0)
        (walk_below (next_of r) q.n next_below (q.n - (q.counts.used + k)) (hop next k head) free_below)
        (walks_below (next_of r) (noted_of r) q.n next_below q.n 0 (omega arith));
  }

  -- 6: the new chain goes on and stops as its list does
  flag_new : (i : ℕ) → i < k → has_next (desc_of r (hop next i head)) ≡ more? (drop (suc i) bs)
  flag_new i l =
      ap has_next (desc_new i l) ∙ filled_next (get_or bs i no_buffer) (more? (drop (suc i) bs)) (next (hop next i head))

  -- whether the descriptor i links on from h says that the chain goes on
  abbrev flag : ℕ → ℕ → Bool
  flag i h = has_next (desc_of r (hop next i h))

  goes_on_new : (h i : ℕ) → Out r h → i + 1 < noted_of r h → has_next (desc_of r (hop (next_of r) i h)) ≡ true
  goes_on_new h i o l =
      ap (λ (f : ℕ → ℕ). has_next (desc_of r (hop f i h))) nexts
      ∙ by_eq h head
      (λ e. let m : noted_of r h ≡ k = ap (noted_of r) e ∙ noted_new in
      ap (flag i) e ∙ flag_new i (omega arith) ∙ more_on (suc i) bs (omega arith))
      (λ e. let m : noted_of r h ≡ noted_of q h = noted_other h e in
      ap has_next (desc_other h i (out_old h o e) (omega arith)) ∙ w.goes_on h i (out_old h o e) (omega arith))

  stops_new : (h : ℕ) → Out r h → has_next (desc_of r (last_of r h)) ≡ false
  stops_new h o =
      ap (λ (f : ℕ → ℕ). has_next (desc_of r (hop f (noted_of r h - 1) h))) nexts
      ∙ by_eq h head
      (λ e. let l : 0 < k = some in
      ap₂ (λ j m. flag (m - 1) j) e (ap (noted_of r) e ∙ noted_new) ∙ flag_new (k - 1) (omega arith) ∙ no_more (suc (k - 1)) bs (omega arith))
      (λ e. let n : (noted_of q h ≡ 0 → ⊥) = (out_old h o e).noted in
      ap (λ m. flag (m - 1) h) (noted_other h e) ∙ ap has_next (desc_other h (noted_of q h - 1) (out_old h o e) (omega arith)) ∙ w.stops h (out_old h o e))

  -- 7: the new head refers to no list
  listed_new : (h : ℕ) → Out r h → is_indirect r h ≡ true → Listed r h
  listed_new h o i =
      by_eq h head
      (λ e. absurd (true≢false (sym i ∙ ap (is_indirect r) e ∙ head_direct)))
      (λ e. listed_same q r h refl refl refl (desc_first h (out_old h o e)) (w.listed h (out_old h o e) (ap has_indirect (sym (desc_first h (out_old h o e))) ∙ i)))

  -- 8: the list given is sound
  sound_given : Sound bs
  sound_given = record { filled = filled_means bs a.filled; sides = order_means bs a.order }

  sound_new : (h : ℕ) → Out r h → Sound (buffers_of r h)
  sound_new h o =
      by_eq h head
      (λ e. subst Sound (sym (ap (buffers_of r) e ∙ direct_adds)) sound_given)
      (λ e. subst Sound (sym (buffers_other h (out_old h o e))) (w.buffers h (out_old h o e)))

  -- 9: one more chain is outstanding
  more_out : out_count r ≡ 1 + out_count q
  more_out =
      let b : head < q.n = w.free in
      tally_more (outstanding q) (outstanding r) head
      (ap (λ m. ltb head q.n && not (eqb m 0)) head_none ∙ and-false (ltb head q.n))
      (means_out r head out_new)
      (λ j e. ap (λ m. ltb j q.n && not (eqb m 0)) (noted_other j e))
      q.n 0 (omega arith) (omega arith)

  count_new : ahead q.counts.avail q.counts.last + 1 ≡ out_count r
  count_new =
      let e : ahead q.counts.avail q.counts.last + one_if (is_add q.call) ≡ out_count q = w.count in
      let f : one_if (is_add q.call) ≡ 0 = ap (λ c. one_if (is_add c)) a.idle in
      let g : out_count r ≡ 1 + out_count q = more_out in
      omega arith

  -- THE LAW: the record opened is well formed
  pub direct_keeps : WellFormed (add_direct q bs)
  direct_keeps = record {
    size = w.size;
    pool = w.pool;
    no_pool = w.no_pool;
    used = room;
    free = free_below;
    nexts = next_below;
    once = once_new;
    goes_on = goes_on_new;
    stops = stops_new;
    listed = listed_new;
    buffers = sound_new;
    count = count_new;
    call = record { head = out_new; step = omega arith };
  }
