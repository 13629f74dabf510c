-- The freeing of a token's chain, part by part: what the emptying of descriptors and the new link leave, where the chain's last descriptor stands, and the
-- walks of the other chains and of the free list.
use Rattle.std.specs.Prelude.{◌≡◌, refl, ◌⊎◌, true, List, [], ◌∷◌, map, ℕ, suc, ◌+◌, ◌-◌, ◌*◌, ◌/◌, ◌≤◌, ◌<◌, length, get_or, set, replicate}
use Rattle.std.proofs.Common.{sym, ap, ◌∙◌, inl, inr, arith, length-append, length-set, get_or-set_same, get_or-set_other}
use Rattle.std.proofs.lemmas.List.{length-replicate}
use Rattle.lists.specs.Tests.{by_test, by_eq, cond_both}
use Rattle.lists.specs.Pick.{run_of}
use Rattle.lists.specs.PickLaws.{rising_agree}
use Rattle.lists.specs.Once.{count, count_same, count_other, once_length}
use Rattle.lists.specs.Walk.{hop, walk, walks, walk_length, hop_next, hop_below, map_alike}
use Rattle.lists.specs.WalkLaws.{hop_counted, hop_twice, hop_agree, walk_agree, walk_agree_last, walks_longer, StandsIn, stands}
use Rattle.lists.specs.Stores.{set_keeps, sets_outside, slots_apart}
use Rattle.virtio.specs.declared.Desc.{Desc}
use Rattle.virtio.specs.Desc.{no_desc, no_buffer, has_indirect, buffer_of}
use Rattle.rules.specs.Record.{Queue, desc_of, next_of, noted_of, free_count, free_list, chain_of, last_of, is_indirect, entries_of, size_of, buffers_of}
use Rattle.rules.specs.WellFormed.{named}
use Rattle.rules.specs.Meaning.{WellFormed, Out}
use Rattle.rules.specs.Step.{emptied, empty_all, freed}
use Rattle.laws.specs.Held.{Held}

-- ---- emptied descriptors

pub empty_length : (s : List Desc) (is : List ℕ) → length (empty_all s is) ≡ length s
unfolding empty_all
empty_length s [] = refl
empty_length s (i ∷ is) =
    let d : Desc = emptied (get_or s i no_desc) in
    empty_length (set s i d) is ∙ length-set s i d

-- what emptying keeps of a descriptor, it keeps of all
pub empty_keeps : {A : Type 0} (f : Desc → A) → ((d : Desc) → f (emptied d) ≡ f d) → (s : List Desc) (is : List ℕ) (j : ℕ) → f (get_or (empty_all s is) j no_desc) ≡ f (get_or s j no_desc)
unfolding empty_all
empty_keeps f e s [] j = refl
empty_keeps f e s (i ∷ is) j =
    let d : Desc = emptied (get_or s i no_desc) in
    empty_keeps f e (set s i d) is j ∙ set_keeps f s i d no_desc (e (get_or s i no_desc)) j

-- a descriptor that is not named stays
pub empty_other : (s : List Desc) (is : List ℕ) (j : ℕ) → count j is ≡ 0 → get_or (empty_all s is) j no_desc ≡ get_or s j no_desc
unfolding empty_all
empty_other s [] j c = refl
empty_other s (i ∷ is) j c =
    let d : Desc = emptied (get_or s i no_desc) in
    by_eq j i
    (λ e. absurd (let a = count_same j i is e in omega arith))
    (λ e. empty_other (set s i d) is j (sym (count_other j i is e) ∙ c) ∙ get_or-set_other s i j d no_desc e)

module _ (q : Queue) (t : ℕ) where
  -- the table with the chain empty, and the descriptor that then gets the new link
  abbrev empty_table : List Desc
  empty_table = empty_all q.tables.shadow (chain_of q t)

  abbrev new_last : Desc
  new_last =
      let d : Desc = get_or empty_table (last_of q t) no_desc in
      record { addr = d.addr; len = d.len; flags = d.flags; next = q.counts.free }

  -- every descriptor keeps its flags, and its link but for the chain's last one
  pub freed_flags : (i : ℕ) → (desc_of (freed q t) i).flags ≡ (desc_of q i).flags
  freed_flags i =
      set_keeps (λ d. d.flags) empty_table (last_of q t) new_last no_desc refl i
      ∙ empty_keeps (λ d. d.flags) (λ d. refl) q.tables.shadow (chain_of q t) i

  pub freed_next : (i : ℕ) → (i ≡ last_of q t → ⊥) → next_of (freed q t) i ≡ next_of q i
  freed_next i e =
      ap (λ d. d.next) (get_or-set_other empty_table (last_of q t) i new_last no_desc e)
      ∙ empty_keeps (λ d. d.next) (λ d. refl) q.tables.shadow (chain_of q t) i

  pub freed_last : last_of q t < length q.tables.shadow → next_of (freed q t) (last_of q t) ≡ q.counts.free
  freed_last l =
      let k : length empty_table ≡ length q.tables.shadow = empty_length q.tables.shadow (chain_of q t) in
      ap (λ d. d.next) (get_or-set_same empty_table (last_of q t) new_last no_desc (omega arith))

  -- one outside the chain is as it was
  pub freed_desc : (i : ℕ) → count i (chain_of q t) ≡ 0 → (i ≡ last_of q t → ⊥) → desc_of (freed q t) i ≡ desc_of q i
  freed_desc i c e =
      get_or-set_other empty_table (last_of q t) i new_last no_desc e ∙ empty_other q.tables.shadow (chain_of q t) i c

-- ---- where descriptors stand

module _ (q : Queue) (w : WellFormed q) where
  -- number i of the chain at head h is below n, and stands there once and nowhere else
  pub hop_low : (h i : ℕ) → h < q.n → hop (next_of q) i h < q.n
  hop_low h i b = hop_below (next_of q) q.n w.nexts i h b

  abbrev pub Stands : ℕ → ℕ → Type 0
  Stands i h = StandsIn (next_of q) (noted_of q) q.n (free_list q) i h

  pub hop_stands : (h i : ℕ) → h < q.n → i < noted_of q h → Stands (hop (next_of q) i h) h
  hop_stands h i b l =
      stands (next_of q) (noted_of q) q.n (free_list q) (hop (next_of q) i h) h
      (w.once.each (hop (next_of q) i h) (hop_low h i b)) b
      (hop_counted (next_of q) (noted_of q h) h i (hop (next_of q) i h) l refl)

  -- the chains together have used descriptors, so one has no more
  pub noted_used : (h : ℕ) → h < q.n → noted_of q h ≤ q.counts.used
  noted_used h b =
      let n : length (named q) ≡ q.n = once_length q.n (named q) w.once in
      let a : length (named q) ≡ length (free_list q) + length (walks (next_of q) (noted_of q) q.n 0) = length-append (free_list q) (walks (next_of q) (noted_of q) q.n 0) in
      let f : length (free_list q) ≡ free_count q = walk_length (next_of q) (free_count q) q.counts.free in
      let l : noted_of q h ≤ length (walks (next_of q) (noted_of q) q.n 0) = walks_longer (next_of q) (noted_of q) q.n 0 h (omega arith) (omega arith) in
      let u : q.counts.used ≤ q.n = w.used in
      omega arith

  -- a chain has at most n buffers: in the table that many descriptors are used, and a list has no more entries
  pub size_most : (h : ℕ) → Out q h → size_of q h ≤ q.n
  size_most h o =
      let u : q.counts.used ≤ q.n = w.used in
      let m : noted_of q h ≤ q.counts.used = noted_used h o.below in
      by_test (is_indirect q h) (λ i. rw i (w.listed h o i).most) (λ i. rw i (omega arith))

module _ (q : Queue) (t : ℕ) (s : Held q) (w : WellFormed q) (o : Out q t) where
  -- the chain's last descriptor stands in it alone
  some_noted : 0 < noted_of q t
  some_noted = let n = o.noted in omega arith

  pub last_stands : Stands q w (last_of q t) t
  last_stands = hop_stands q w t (noted_of q t - 1) o.below (let n = some_noted in omega arith)

  -- it leads to the old free list
  pub last_leads : next_of (freed q t) (last_of q t) ≡ q.counts.free
  last_leads =
      freed_last q t (let a = hop_low q w t (noted_of q t - 1) o.below in let b = s.shadow in omega arith)

  -- the chain has a descriptor more than stand before its last
  one_more : noted_of q t ≡ suc (noted_of q t - 1)
  one_more = let n = some_noted in omega arith

  -- which are others, and so are those of other chains and of the free list
  before_last : (j : ℕ) → j < noted_of q t - 1 → hop (next_of q) j t ≡ last_of q t → ⊥
  before_last j l e =
      let a : 1 < count (last_of q t) (walk (next_of q) (suc (noted_of q t - 1)) t) = hop_twice (next_of q) (noted_of q t - 1) t j (last_of q t) l e refl in
      let b : count (last_of q t) (chain_of q t) ≡ count (last_of q t) (walk (next_of q) (suc (noted_of q t - 1)) t) = ap (λ m. count (last_of q t) (walk (next_of q) m t)) one_more in
      let c : count (last_of q t) (chain_of q t) ≡ 1 = last_stands.once in
      omega arith

  not_last : (h j : ℕ) → h < q.n → (h ≡ t → ⊥) → j < noted_of q h → hop (next_of q) j h ≡ last_of q t → ⊥
  not_last h j b d l e =
      let a : 0 < count (last_of q t) (chain_of q h) = hop_counted (next_of q) (noted_of q h) h j (last_of q t) l e in
      let c : count (last_of q t) (chain_of q h) ≡ 0 = last_stands.others h b d in
      omega arith

  not_last_free : (j : ℕ) → j < free_count q → hop (next_of q) j q.counts.free ≡ last_of q t → ⊥
  not_last_free j l e =
      let a : 0 < count (last_of q t) (free_list q) = hop_counted (next_of q) (free_count q) q.counts.free j (last_of q t) l e in
      let c : count (last_of q t) (free_list q) ≡ 0 = last_stands.not_front in
      omega arith

  -- so the new links lead through the chain, and from it to the old free list, and through every other chain, as the old ones did
  pub chain_same : walk (next_of (freed q t)) (noted_of q t) t ≡ chain_of q t
  chain_same =
      ap (λ m. walk (next_of (freed q t)) m t) one_more
      ∙ walk_agree_last (next_of q) (next_of (freed q t)) (noted_of q t - 1) t (λ j l. freed_next q t (hop (next_of q) j t) (before_last j l))
      ∙ ap (λ m. walk (next_of q) m t) (sym one_more)

  pub chain_leads : hop (next_of (freed q t)) (noted_of q t) t ≡ q.counts.free
  chain_leads =
      ap (λ m. hop (next_of (freed q t)) m t) one_more
      ∙ hop_next (next_of (freed q t)) (noted_of q t - 1) t
      ∙ ap (next_of (freed q t)) (hop_agree (next_of q) (next_of (freed q t)) (noted_of q t - 1) t (λ j l. freed_next q t (hop (next_of q) j t) (before_last j l)))
      ∙ last_leads

  pub free_same : walk (next_of (freed q t)) (free_count q) q.counts.free ≡ free_list q
  free_same =
      walk_agree (next_of q) (next_of (freed q t)) (free_count q) q.counts.free
      (λ j l. freed_next q t (hop (next_of q) j q.counts.free) (not_last_free j l))

  module _ (h : ℕ) (b : h < q.n) (d : h ≡ t → ⊥) where
    walk_same : walk (next_of (freed q t)) (noted_of q h) h ≡ chain_of q h
    walk_same =
        walk_agree (next_of q) (next_of (freed q t)) (noted_of q h) h
        (λ j l. freed_next q t (hop (next_of q) j h) (not_last h j b d l))

    pub hop_same : (j : ℕ) → j ≤ noted_of q h → hop (next_of (freed q t)) j h ≡ hop (next_of q) j h
    hop_same j l =
        hop_agree (next_of q) (next_of (freed q t)) j h
        (λ i u. freed_next q t (hop (next_of q) i h) (not_last h i b d (omega arith)))

    -- the descriptors of that chain are as they were
    pub desc_same : (j : ℕ) → j < noted_of q h → desc_of (freed q t) (hop (next_of q) j h) ≡ desc_of q (hop (next_of q) j h)
    desc_same j l =
        freed_desc q t (hop (next_of q) j h) ((hop_stands q w h j b l).others t o.below (λ e. d (sym e))) (not_last h j b d l)

    -- so are its noted length, the chain and the head
    pub noted_same : noted_of (freed q t) h ≡ noted_of q h
    noted_same = get_or-set_other q.tables.noted t h 0 0 d

    pub chain_other : chain_of (freed q t) h ≡ chain_of q h
    chain_other = ap (λ k. walk (next_of (freed q t)) k h) noted_same ∙ walk_same

  module _ (h : ℕ) (p : Out q h) (d : h ≡ t → ⊥) where
    pub head_same : desc_of (freed q t) h ≡ desc_of q h
    unfolding hop
    head_same = desc_same h p.below d 0 (let n = p.noted in omega arith)

    -- and its private list, which lies in another slot than the one that becomes empty
    kept_same : is_indirect q h ≡ true → (i : ℕ) → q.n * h ≤ i → i < q.n * h + entries_of q h → get_or (freed q t).tables.kept i no_buffer ≡ get_or q.tables.kept i no_buffer
    kept_same e i l u =
        by_test (is_indirect q t)
        (λ f. let m : entries_of q t ≤ q.n = (w.listed t o f).most in
        let k : entries_of q h ≤ q.n = (w.listed h p e).most in
        let r : length (replicate (entries_of q t) no_buffer) ≡ entries_of q t = length-replicate (entries_of q t) no_buffer in
        rw f (sets_outside q.tables.kept (q.n * t) (replicate (entries_of q t) no_buffer) i no_buffer (within (slots_apart q.n h t i l (omega arith) d) (omega arith))))
        (λ f. rw f)
      where
        within : {x y z : ℕ} → (i < x) ⊎ (y ≤ i) → z ≤ y → (i < x) ⊎ (z ≤ i)
        within (inl a) b = inl a
        within (inr a) b = inr (omega arith)

    pub buffers_same : buffers_of (freed q t) h ≡ buffers_of q h
    buffers_same =
        cond_both (is_indirect (freed q t) h) (is_indirect q h)
        (run_of no_buffer (freed q t).tables.kept (q.n * h) (entries_of (freed q t) h))
        (map (λ i. buffer_of (desc_of (freed q t) i)) (chain_of (freed q t) h))
        (run_of no_buffer q.tables.kept (q.n * h) (entries_of q h))
        (map (λ i. buffer_of (desc_of q i)) (chain_of q h))
        (ap has_indirect head_same)
        (λ e. ap (λ x. run_of no_buffer (freed q t).tables.kept (q.n * h) (x.len / 16)) head_same
        ∙ rising_agree (λ i. get_or (freed q t).tables.kept i no_buffer) (λ i. get_or q.tables.kept i no_buffer) (entries_of q h) (q.n * h) (kept_same e))
        (λ e. ap (map (λ i. buffer_of (desc_of (freed q t) i))) (chain_other h p.below d)
        ∙ map_alike (next_of q) (λ i. buffer_of (desc_of (freed q t) i)) (λ i. buffer_of (desc_of q i)) (noted_of q h) h (λ j l. ap buffer_of (desc_same h p.below d j l)))
