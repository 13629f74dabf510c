-- What the opening of an indirect add leaves: a well-formed record, in which the list given is outstanding under its head, and every other chain and list is as
-- it was.
use Rattle.std.specs.Prelude.{◌≡◌, refl, ◌⊎◌, true, false, cond, List, [], ◌∷◌, ◌++◌, map, length, get_or}
use Rattle.std.proofs.Math.Path.{sym, ap, ap₂, subst, fun_ext}
use Rattle.std.proofs.Common.{◌∙◌, inl, inr, mul-le-mul_left, mul-suc, get_or-set_same, get_or-set_other}
use Prim.Native.Nat.{ℕ, suc, ◌+◌, ◌-◌, ◌*◌, ◌/◌, ◌≤◌, ◌<◌}
use native.Mathlib.Omega.{arith}
use Rattle.lists.specs.Tests.{by_eq, cond_both}
use Rattle.lists.specs.Pick.{run_of}
use Rattle.lists.specs.PickLaws.{rising_agree}
use Rattle.lists.specs.Once.{Once, count, count_same}
use Rattle.lists.specs.Walk.{hop, walk, walks, map_alike}
use Rattle.lists.specs.Stores.{set_keeps, sets_outside, run_sets, slots_apart}
use Rattle.virtio.specs.declared.Buffer.{Buffer}
use Rattle.virtio.specs.Desc.{no_desc, no_buffer, has_next, has_indirect, buffer_of}
use Rattle.virtio.specs.Chain.{in_order}
use Rattle.rules.specs.Record.{Queue, desc_of, next_of, noted_of, free_list, chain_of, last_of, is_indirect, entries_of, buffers_of}
use Rattle.rules.specs.WellFormed.{no_empty, named}
use Rattle.rules.specs.Meaning.{WellFormed, Out, Listed, Sound}
use Rattle.rules.specs.Calls.{head_desc, add_direct, add_indirect}
use Rattle.laws.specs.Held.{Held}
use Rattle.laws.specs.WellFormedIs.{filled_means, order_means}
use Rattle.laws.specs.FillLaws.{fill_links}
use Rattle.laws.specs.FreeLaws.{hop_stands}
use Rattle.laws.specs.AddKeeps.{Addable, listed_same, direct_keeps}

module _ (q : Queue) (bs : List Buffer) (s : Held q) (w : WellFormed q) (a : Addable q bs) (i : q.modes.indirect ≡ true) (t : 1 < length bs) where
  -- the record opened; how many buffers the list has; the descriptor taken; where links lead
  abbrev r : Queue
  r = add_indirect q bs

  abbrev k : ℕ
  k = length bs

  abbrev head : ℕ
  head = q.counts.free

  abbrev next : ℕ → ℕ
  next = next_of q

  -- a direct add of any one buffer takes the same descriptor, and leaves the same links, lengths and counts
  abbrev any : Buffer
  any = record { addr = 0; len = 1; output = false }

  one : Addable q (any ∷ [])
  unfolding in_order no_empty
  one =
      let room : q.counts.used < q.n = a.room in
      record {
        idle = a.idle;
        some = omega arith;
        order = refl;
        room = a.room;
        most = omega arith;
        direct = λ e. omega arith;
        filled = refl;
      }

  abbrev direct : Queue
  direct = add_direct q (any ∷ [])

  like : WellFormed direct
  like = direct_keeps q (any ∷ []) s w one (inr refl)

  -- ---- links and noted lengths

  next_at : (j : ℕ) → next_of r j ≡ next_of q j
  next_at j = set_keeps (λ d. d.next) q.tables.shadow head (head_desc q head k) no_desc refl j

  nexts : next_of r ≡ next_of q
  nexts = fun_ext next_at

  next_below : (j : ℕ) → j < q.n → next_of r j < q.n
  next_below j l =
      let e : next_of r j ≡ next_of q j = next_at j in
      let b : next_of q j < q.n = w.nexts j l in
      omega arith

  noted_new : noted_of r head ≡ 1
  noted_new =
      get_or-set_same q.tables.noted head 1 0 (let b : head < q.n = w.free in let f : q.n ≤ length q.tables.noted = s.noted in omega arith)

  noted_other : (h : ℕ) → (h ≡ head → ⊥) → noted_of r h ≡ noted_of q h
  noted_other h e = get_or-set_other q.tables.noted head h 1 0 e

  -- THE LAW: one descriptor is taken, the first of the free list
  pub list_takes : free_list q ≡ q.counts.free ∷ free_list (add_indirect q bs)
  unfolding walk
  list_takes =
      let l : q.counts.used < q.n = a.room in
      let e : q.n - q.counts.used ≡ suc (q.n - (q.counts.used + 1)) = omega arith in
      ap (λ m. walk next m head) e ∙ ap (λ f. head ∷ walk f (q.n - (q.counts.used + 1)) (next head)) (sym nexts)

  -- ---- what the descriptors say

  desc_new : desc_of r head ≡ head_desc q head k
  desc_new =
      get_or-set_same q.tables.shadow head (head_desc q head k) no_desc (let b : head < q.n = w.free in let f : q.n ≤ length q.tables.shadow = s.shadow in omega arith)

  -- no outstanding chain has the descriptor taken, which was free
  not_taken : (h j : ℕ) → Out q h → j < noted_of q h → hop next j h ≡ head → ⊥
  not_taken h j o l e =
      let z : count (hop next j h) (free_list q) ≡ 0 = (hop_stands q w h j o.below l).not_front in
      let f : count (hop next j h) (free_list q) ≡ count (hop next j h) (head ∷ free_list r) = ap (count (hop next j h)) list_takes in
      let c : count (hop next j h) (head ∷ free_list r) ≡ suc (count (hop next j h) (free_list r)) = count_same (hop next j h) head (free_list r) e in
      omega arith

  desc_other : (h j : ℕ) → Out q h → j < noted_of q h → desc_of r (hop next j h) ≡ desc_of q (hop next j h)
  desc_other h j o l = get_or-set_other q.tables.shadow head (hop next j h) (head_desc q head k) no_desc (not_taken h j o l)

  entries_new : entries_of r head ≡ k
  entries_new = ap (λ d. d.len / 16) desc_new ∙ (omega arith)

  -- the slot has room for the list
  slot_room : q.n * head + k ≤ length q.tables.kept
  slot_room =
      let b : suc head ≤ q.n = w.free in
      let m : q.n * suc head ≤ q.n * q.n = mul-le-mul_left q.n b in
      let e : q.n * suc head ≡ q.n * head + q.n = mul-suc q.n head in
      let f : q.n * q.n ≤ length q.tables.kept = s.kept in
      let l : k ≤ q.n = a.most in
      omega arith

  -- THE LAW: the list given is outstanding under it
  pub list_adds : buffers_of (add_indirect q bs) q.counts.free ≡ bs
  list_adds =
      ap (λ d. cond (has_indirect d) (run_of no_buffer r.tables.kept (q.n * head) (entries_of r head)) (map (λ j. buffer_of (desc_of r j)) (chain_of r head))) desc_new
      ∙ ap (run_of no_buffer r.tables.kept (q.n * head)) entries_new
      ∙ run_sets no_buffer q.tables.kept (q.n * head) bs slot_room

  -- ---- the chains that were outstanding

  module _ (h : ℕ) (o : Out q h) where
    not_head : h ≡ head → ⊥
    unfolding hop
    not_head = not_taken h 0 o (let n : (noted_of q h ≡ 0 → ⊥) = o.noted in omega arith)

    desc_first : desc_of r h ≡ desc_of q h
    unfolding hop
    desc_first = desc_other h 0 o (let n : (noted_of q h ≡ 0 → ⊥) = o.noted in omega arith)

    chain_other : chain_of r h ≡ chain_of q h
    chain_other = ap₂ (λ (f : ℕ → ℕ) (m : ℕ). walk f m h) nexts (noted_other h not_head)

    -- its private list lies in another slot than the one filled
    kept_other : is_indirect q h ≡ true → (j : ℕ) → q.n * h ≤ j → j < q.n * h + entries_of q h → get_or r.tables.kept j no_buffer ≡ get_or q.tables.kept j no_buffer
    kept_other e j l u =
        let m : entries_of q h ≤ q.n = (w.listed h o e).most in
        sets_outside q.tables.kept (q.n * head) bs j no_buffer (within (slots_apart q.n h head j l (omega arith) not_head))
      where
        within : (j < q.n * head) ⊎ (q.n * head + q.n ≤ j) → (j < q.n * head) ⊎ (q.n * head + k ≤ j)
        within (inl b) = inl b
        within (inr b) = inr (let m : k ≤ q.n = a.most in omega arith)

    buffers_other : buffers_of r h ≡ buffers_of q h
    buffers_other =
        cond_both (is_indirect r h) (is_indirect q h)
        (run_of no_buffer r.tables.kept (q.n * h) (entries_of r h))
        (map (λ j. buffer_of (desc_of r j)) (chain_of r h))
        (run_of no_buffer q.tables.kept (q.n * h) (entries_of q h))
        (map (λ j. buffer_of (desc_of q j)) (chain_of q h))
        (ap has_indirect desc_first)
        (λ e. ap (λ d. run_of no_buffer r.tables.kept (q.n * h) (d.len / 16)) desc_first
        ∙ rising_agree (λ j. get_or r.tables.kept j no_buffer) (λ j. get_or q.tables.kept j no_buffer) (entries_of q h) (q.n * h) (kept_other e))
        (λ e. ap (map (λ j. buffer_of (desc_of r j))) chain_other
        ∙ map_alike next (λ j. buffer_of (desc_of r j)) (λ j. buffer_of (desc_of q j)) (noted_of q h) h (λ j l. ap buffer_of (desc_other h j o l)))

  -- THE LAW: every other chain, list and noted length is as it was
  pub list_others : (h : ℕ) → Out q h → (chain_of (add_indirect q bs) h ≡ chain_of q h) × (buffers_of (add_indirect q bs) h ≡ buffers_of q h) × (noted_of (add_indirect q bs) h ≡ noted_of q h)
  list_others h o = (chain_other h o, buffers_other h o, noted_other h (not_head h o))

  -- ---- the clauses

  -- a head is the new one, or was outstanding
  out_new : Out r head
  out_new = record { below = w.free; noted = λ e. (let n : noted_of r head ≡ 1 = noted_new in omega arith) }

  out_old : (h : ℕ) → Out r h → (h ≡ head → ⊥) → Out q h
  out_old h o e = record { below = o.below; noted = λ z. o.noted (noted_other h e ∙ z) }

  -- 5: the lists name what they name after the direct add
  once_new : Once q.n (named r)
  unfolding hop
  once_new =
      subst (λ (f : ℕ → ℕ). Once q.n (walk f (q.n - (q.counts.used + 1)) (next head) ++ walks f (noted_of r) q.n 0)) (fun_ext alike) like.once
    where
      alike : (j : ℕ) → next_of direct j ≡ next_of r j
      alike j = fill_links next q.tables.shadow head (any ∷ []) (λ x. refl) j ∙ sym (next_at j)

  -- 6: the new chain is of one descriptor, which stops
  goes_on_new : (h j : ℕ) → Out r h → j + 1 < noted_of r h → has_next (desc_of r (hop (next_of r) j h)) ≡ true
  goes_on_new h j o l =
      ap (λ (f : ℕ → ℕ). has_next (desc_of r (hop f j h))) nexts
      ∙ by_eq h head
      (λ e. absurd (let m : noted_of r h ≡ 1 = ap (noted_of r) e ∙ noted_new in omega arith))
      (λ e. let m : noted_of r h ≡ noted_of q h = noted_other h e in
      ap has_next (desc_other h j (out_old h o e) (omega arith)) ∙ w.goes_on h j (out_old h o e) (omega arith))

  stops_new : (h : ℕ) → Out r h → has_next (desc_of r (last_of r h)) ≡ false
  unfolding hop
  stops_new h o =
      ap (λ (f : ℕ → ℕ). has_next (desc_of r (hop f (noted_of r h - 1) h))) nexts
      ∙ by_eq h head
      (λ e. ap₂ (λ j m. has_next (desc_of r (hop next (m - 1) j))) e (ap (noted_of r) e ∙ noted_new) ∙ ap has_next desc_new)
      (λ e. let n : (noted_of q h ≡ 0 → ⊥) = (out_old h o e).noted in
      ap (λ m. has_next (desc_of r (hop next (m - 1) h))) (noted_other h e) ∙ ap has_next (desc_other h (noted_of q h - 1) (out_old h o e) (omega arith)) ∙ w.stops h (out_old h o e))

  -- 7: the new head refers to its slot
  listed_head : Listed r head
  listed_head =
      let e : entries_of r head ≡ k = entries_new in
      let l : (desc_of r head).len ≡ 16 * k = ap (λ d. d.len) desc_new in
      let m : k ≤ q.n = a.most in
      record {
        mode = i;
        flags = ap (λ d. d.flags) desc_new;
        addr = ap (λ d. d.addr) desc_new;
        two = omega arith;
        most = omega arith;
        len = omega arith;
      }

  listed_new : (h : ℕ) → Out r h → is_indirect r h ≡ true → Listed r h
  listed_new h o f =
      by_eq h head
      (λ e. subst (Listed r) (sym e) listed_head)
      (λ e. listed_same q r h refl refl refl (desc_first h (out_old h o e)) (w.listed h (out_old h o e) (ap has_indirect (sym (desc_first h (out_old h o e))) ∙ f)))

  -- 8: the list given is sound
  sound_new : (h : ℕ) → Out r h → Sound (buffers_of r h)
  sound_new h o =
      by_eq h head
      (λ e. subst Sound (sym (ap (buffers_of r) e ∙ list_adds)) (record { filled = filled_means bs a.filled; sides = order_means bs a.order }))
      (λ e. subst Sound (sym (buffers_other h (out_old h o e))) (w.buffers h (out_old h o e)))

  -- THE LAW: the record opened is well formed
  pub list_keeps : WellFormed (add_indirect q bs)
  list_keeps = record {
    size = w.size;
    pool = w.pool;
    no_pool = w.no_pool;
    used = like.used;
    free = w.nexts head w.free;
    nexts = next_below;
    once = once_new;
    goes_on = goes_on_new;
    stops = stops_new;
    listed = listed_new;
    buffers = sound_new;
    count = like.count;
    call = record { head = out_new; step = omega arith };
  }
