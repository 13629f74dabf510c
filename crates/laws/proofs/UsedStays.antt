-- No call changes region two, nor a byte of the used ring, wherever the layout has it.
use Rattle.std.specs.Prelude.{◌≡◌, Bool, cond, ◌&&◌, ◌⊎◌, length, take, drop}
use Rattle.std.proofs.Math.Path.{refl}
use Rattle.std.proofs.Common.{sym, ap, subst, ◌∙◌, true≢false, inl, inr, mod-lt, arith, length-drop, get_or-drop, ext_get_or}
use Rattle.std.proofs.Math.Bool.{true, false}
use mathlib.Core.List.{List, [], ◌∷◌, ◌++◌, map}
use Prim.Native.Nat.{ℕ, zero, suc, ◌+◌, ◌-◌, ◌*◌, ◌%◌, ◌≤◌, ◌<◌}
use Rattle.std.proofs.lemmas.Bool.{not-true}
use Rattle.std.proofs.Math.Dec.{ltb, eqb}
use Rattle.lists.specs.Pick.{rising}
use Rattle.lists.specs.Walk.{walk}
use Rattle.virtio.specs.declared.Buffer.{Buffer}
use Rattle.virtio.specs.Layout.{avail_size, used_size, avail_at, used_at}
use Rattle.virtio.specs.Memory.{Memory, Region, in_one, in_two, in_pool, Place, desc, avail_flags, avail_idx, used_event, avail_ring, used_flags, used_idx, avail_event, used_id, used_len, entry, Spot, used_region, spot, bytes_of, with_bytes, store_at, used_ring}
use Rattle.virtio.specs.Device.{device_writes}
use Rattle.virtio.specs.Sizes.{Has, front_fields, legacy_apart}
use Rattle.rules.specs.declared.Open.{Open}
use Rattle.rules.specs.declared.Open.TheVariants.{Idle, Add, PopIdx, PopId, PopLen, PopStore, PeekIdx, PeekId}
use Rattle.rules.specs.Record.{Queue, next_of, noted_of, chain_of, is_indirect, entries_of, with_call}
use Rattle.rules.specs.Meaning.{WellFormed, Out, Named, Adding}
use Rattle.rules.specs.Answer.{Outcome, refused}
use Rattle.rules.specs.Step.{Access, nothing, load, store, store_desc, accessed, loaded, access, move}
use Rattle.rules.specs.Calls.{add_refusal, call_refusal, step_refusal, add_direct, add_indirect, add_opened, opened, matches, open_add, open_pop, and_then, moves, run, add, pop_used, answered, set_dev_notify}
use Rattle.laws.specs.CallKeeps.{Good, move_keeps, open_pop_keeps}
use Rattle.laws.specs.Opening.{open_add_keeps}
use Rattle.laws.specs.Regions.{react_shaped}
use Rattle.laws.specs.Writers.{Keeps, keeps_to_side}
use Rattle.laws.specs.Changes.{Lies, Among, Clear, SameByte, SameLengths, publishing, event_places, adding_places, storing_places, access_changes, access_wide}
use Rattle.laws.proofs.Changes.{step_stores}
use Rattle.laws.specs.CallChanges.{moves_hold, unless_holds, whole_holds}
use Rattle.laws.specs.Still.{EveryCall, every_call, lengths_stay}

-- ---- region two

-- no field of the driver's lies there
two_apart : (legacy : Bool) (n : ℕ) (p : Place) (m : Memory) (s : List ℕ) → device_writes p ≡ false → (with_bytes (spot legacy n p).region m s).two ≡ m.two
two_apart legacy n (desc i) m s e = refl
two_apart legacy n avail_flags m s e = refl
two_apart legacy n avail_idx m s e = refl
two_apart legacy n (avail_ring i) m s e = refl
two_apart legacy n used_event m s e = refl
two_apart legacy n used_flags m s e = absurd (true≢false e)
two_apart legacy n used_idx m s e = absurd (true≢false e)
two_apart legacy n (used_id i) m s e = absurd (true≢false e)
two_apart legacy n (used_len i) m s e = absurd (true≢false e)
two_apart legacy n avail_event m s e = absurd (true≢false e)
two_apart legacy n (entry j) m s e = refl

access_two : (q : Queue) (a : Access) (m : Memory) → Keeps a → (accessed q a m).two ≡ m.two
access_two q nothing m k = refl
access_two q (load p) m k = refl
access_two q (store p v) m k = two_apart q.modes.legacy q.n p m _ (not-true (device_writes p) k)
access_two q (store_desc p d) m k = two_apart q.modes.legacy q.n p m _ (not-true (device_writes p) k)

module _ (q : Queue) (m : Memory) where
  abbrev Two : Outcome → Type 0
  Two o = o.memory.two ≡ m.two

  moves_two : (b : ℕ) (r : Queue) → (moves b (opened r m)).memory.two ≡ m.two
  unfolding move
  moves_two b r =
      moves_hold Two (λ o s. access_two o.queue (access o.queue o.queue.call) o.memory (keeps_to_side o.queue o.queue.call) ∙ s) b (opened r m) refl

  -- THE LAW
  pub two_stays : EveryCall (λ x. x.two ≡ m.two) q m
  unfolding open_add open_pop run set_dev_notify
  two_stays =
      every_call (λ x. x.two ≡ m.two) q m refl
      (λ b. unless_holds Two (step_refusal q m) q m (moves b (opened q m)) refl (λ z. moves_two b q))
      (λ bs. whole_holds Two q.n (add_refusal q m bs) q (add_opened q bs) m refl (λ z. moves_two (q.n + 4) (add_opened q bs)))
      (λ t bs. whole_holds Two q.n (call_refusal q m) q (with_call q (PopIdx t (matches q t bs))) m refl
      (λ z. moves_two (q.n + 4) (with_call q (PopIdx t (matches q t bs)))))
      (λ b. unless_holds Two (call_refusal q m) q m _ refl (λ z. notified b q.modes.event_idx))
    where
      notified : (b e : Bool) → Two (cond e (answered 0 0 q m) (answered 1 0 q (store_at (spot q.modes.legacy q.n avail_flags) (cond b 0 1) m)))
      notified b true = refl
      notified b false = refl

-- ---- the bytes behind the available ring

-- byte i of region r lies in region two, or in region one behind the available ring
abbrev pub Behind : ℕ → Region → ℕ → Type 0
Behind n r i = (r ≡ in_two) ⊎ ((r ≡ in_one) × (avail_at n + avail_size n ≤ i))

-- a place in the pool, or in region one up to the end of the available ring
abbrev Front : ℕ → Spot → Type 0
Front n s = (s.region ≡ in_pool) ⊎ ((s.region ≡ in_one) × (s.offset + s.width ≤ avail_at n + avail_size n))

apart : (n : ℕ) (r : Region) (i : ℕ) (s : Spot) → Front n s → Behind n r i → Lies r i s → ⊥
apart n r i s (inl f) (inl b) l = let e = l.region in let z : ◌≡◌ {A = ℕ} 0 1 = cc in omega arith
apart n r i s (inl f) (inr b) l = let e = l.region in let c = b.0 in let z : ◌≡◌ {A = ℕ} 0 1 = cc in omega arith
apart n r i s (inr f) (inl b) l = let e = l.region in let c = f.0 in let z : ◌≡◌ {A = ℕ} 0 1 = cc in omega arith
apart n r i s (inr f) (inr b) l = let e = l.below in omega arith

-- such a byte lies in none of the places that an open add or a storing pop may store to
module _ (q : Queue) (r : Region) (i : ℕ) (b : Behind q.n r i) where
  clear_both : (xs ys : List Place) → Clear q xs r i → Clear q ys r i → (p : Place) → Among p (xs ++ ys) → Lies r i (spot q.modes.legacy q.n p) → ⊥
  clear_both [] ys c d p a = d p a
  clear_both (x ∷ xs) ys c d p (inl e) = c p (inl e)
  clear_both (x ∷ xs) ys c d p (inr a) = clear_both xs ys (λ y z. c y (inr z)) d p a

  clear_more : (x : Place) (xs : List Place) → Front q.n (spot q.modes.legacy q.n x) → Clear q xs r i → (p : Place) → Among p (x ∷ xs) → Lies r i (spot q.modes.legacy q.n p) → ⊥
  clear_more x xs f c p (inl e) l =
      apart q.n r i (spot q.modes.legacy q.n x) f b (subst (λ y. Lies r i (spot q.modes.legacy q.n y)) e l)
  clear_more x xs f c p (inr a) l = c p a l

  clear_none : Clear q [] r i
  clear_none p a l = a

  clear_entries : (k a : ℕ) → Clear q (map entry (rising k a)) r i
  unfolding rising
  clear_entries zero a = clear_none
  clear_entries (suc k) a = clear_more (entry a) (map entry (rising k (suc a))) (inl refl) (clear_entries k (suc a))

  module _ (w : WellFormed q) where
    front : (p : Place) → Has q.n p → device_writes p ≡ false → Front q.n (spot q.modes.legacy q.n p)
    front p h e = front_fields q.modes.legacy q.n p h e

    clear_walk : (k j : ℕ) → j < q.n → Clear q (map desc (walk (next_of q) k j)) r i
    unfolding walk Has
    clear_walk zero j l = clear_none
    clear_walk (suc k) j l =
        clear_more (desc j) (map desc (walk (next_of q) k (next_of q j))) (front (desc j) l refl) (clear_walk k (next_of q j) (w.nexts j l))

    clear_publishing : Clear q (publishing q) r i
    unfolding Has
    clear_publishing =
        let f : q.counts.free < q.n = w.free in
        clear_more (avail_ring (q.counts.avail % q.n)) (avail_idx ∷ []) (front (avail_ring (q.counts.avail % q.n)) (mod-lt q.counts.avail (omega arith)) refl)
        (clear_more avail_idx [] (front avail_idx tt refl) clear_none)

    clear_event : Clear q (event_places q) r i
    unfolding Has
    clear_event = go q.modes.event_idx
      where
        go : (t : Bool) → Clear q (cond t (used_event ∷ []) []) r i
        go true = clear_more used_event [] (front used_event tt refl) clear_none
        go false = clear_none

    clear_adding : (h : ℕ) → Out q h → Clear q (adding_places q h) r i
    unfolding Has
    clear_adding h o = go (is_indirect q h)
      where
        go : (t : Bool) → Clear q (cond t (map entry (rising (entries_of q h) (q.n * h)) ++ (desc h ∷ publishing q)) (map desc (chain_of q h) ++ publishing q)) r i
        go true =
            clear_both (map entry (rising (entries_of q h) (q.n * h))) (desc h ∷ publishing q) (clear_entries (entries_of q h) (q.n * h))
            (clear_more (desc h) (publishing q) (front (desc h) o.below refl) clear_publishing)
        go false =
            clear_both (map desc (chain_of q h)) (publishing q) (clear_walk (noted_of q h) h o.below) clear_publishing

    -- so a step leaves them
    step_behind : (m : Memory) (c : Open) → q.call ≡ c → SameByte r i (accessed q (access q c) m) m
    step_behind m Idle e = refl
    step_behind m (Add h j) e =
        let n : Adding q h j = subst (λ c. Named q c) e w.call in
        access_changes q m (access q (Add h j)) (adding_places q h) r i (access_wide q (Add h j)) (step_stores q w (Add h j) e) (clear_adding h n.head)
    step_behind m (PopIdx t d) e = refl
    step_behind m (PopId t d) e = refl
    step_behind m (PopLen t d v) e = refl
    step_behind m (PopStore k j l) e =
        access_changes q m (access q (PopStore k j l)) (storing_places q k) r i (access_wide q (PopStore k j l)) (step_stores q w (PopStore k j l) e)
        (clear_both (map desc (walk (next_of q) k q.counts.free)) (event_places q) (clear_walk k q.counts.free w.free) clear_event)
    step_behind m PeekIdx e = refl
    step_behind m PeekId e = refl

-- ---- runs and calls

-- so a run leaves it
module _ (n : ℕ) (r : Region) (i : ℕ) (b : Behind n r i) (m : Memory) where
  record Left (o : Outcome) : Type 0 where
    good : Good o.queue
    size : o.queue.n ≡ n
    byte : SameByte r i o.memory m

  left_on : (o : Outcome) → Left o → Left (and_then o (move o.queue o.memory))
  unfolding move
  left_on o l =
      let q : Queue = o.queue in
      record {
        good = move_keeps q o.memory l.good;
        size = (react_shaped q q.call (loaded q (access q q.call) o.memory)).n ∙ l.size;
        byte =
            step_behind q r i (subst (λ k. Behind k r i) (sym l.size) b) l.good.well o.memory q.call refl ∙ l.byte;
      }

  moves_left : (k : ℕ) (q : Queue) → Good q → q.n ≡ n → SameByte r i (moves k (opened q m)).memory m
  moves_left k q g e = (moves_hold Left left_on k (opened q m) (record { good = g; size = e; byte = refl })).byte

module _ (q : Queue) (m : Memory) (g : Good q) (r : Region) (i : ℕ) (b : Behind q.n r i) where
  abbrev Byte : Outcome → Type 0
  Byte o = SameByte r i o.memory m

  -- the record of an add or of a pop that is open is good and has the same size
  add_left : (bs : List Buffer) → add_refusal q m bs ≡ 0 → Byte (moves (q.n + 4) (opened (add_opened q bs) m))
  unfolding open_add
  add_left bs z =
      moves_left q.n r i b m (q.n + 4) (add_opened q bs)
      (subst (λ t. Good (cond t (opened (add_opened q bs) m) (refused (add_refusal q m bs) q m)).queue) (ap (λ k. eqb k 0) z) (open_add_keeps q m bs g))
      (size (q.modes.indirect && ltb 1 (length bs)))
    where
      size : (t : Bool) → (cond t (add_indirect q bs) (add_direct q bs)).n ≡ q.n
      size true = refl
      size false = refl

  pop_left : (t : ℕ) (bs : List Buffer) → call_refusal q m ≡ 0 → Byte (moves (q.n + 4) (opened (with_call q (PopIdx t (matches q t bs))) m))
  unfolding open_pop
  pop_left t bs z =
      moves_left q.n r i b m (q.n + 4) (with_call q (PopIdx t (matches q t bs)))
      (subst (λ y. Good (cond y (opened (with_call q (PopIdx t (matches q t bs))) m) (refused (call_refusal q m) q m)).queue) (ap (λ k. eqb k 0) z) (open_pop_keeps q m t bs g))
      refl

  notify_left : (w e : Bool) → Byte (cond e (answered 0 0 q m) (answered 1 0 q (store_at (spot q.modes.legacy q.n avail_flags) (cond w 0 1) m)))
  unfolding Has
  notify_left w true = refl
  notify_left w false =
      access_changes q m (store avail_flags (cond w 0 1)) (avail_flags ∷ []) r i tt (inl refl)
      (clear_more q r i b avail_flags [] (front q r i b g.well avail_flags tt refl) (clear_none q r i b))

  -- THE LAW
  pub behind_stays : EveryCall (λ x. SameByte r i x m) q m
  unfolding open_add open_pop run set_dev_notify
  behind_stays =
      every_call (λ x. SameByte r i x m) q m refl
      (λ k. unless_holds Byte (step_refusal q m) q m (moves k (opened q m)) refl (λ z. moves_left q.n r i b m k q g refl))
      (λ bs. whole_holds Byte q.n (add_refusal q m bs) q (add_opened q bs) m refl (add_left bs))
      (λ t bs. whole_holds Byte q.n (call_refusal q m) q (with_call q (PopIdx t (matches q t bs))) m refl (pop_left t bs))
      (λ w. unless_holds Byte (call_refusal q m) q m _ refl (λ z. notify_left w q.modes.event_idx))

-- ---- the used ring

-- it lies there, in either layout
ring_behind : (legacy : Bool) (n i : ℕ) → used_at legacy n ≤ i → Behind n (used_region legacy) i
ring_behind true n i l = inr (refl, (let a = legacy_apart n in omega arith))
ring_behind false n i l = inl refl

bytes_lengths : (r : Region) (m m' : Memory) → SameLengths m m' → length (bytes_of r m) ≡ length (bytes_of r m')
bytes_lengths in_one m m' s = s.one
bytes_lengths in_two m m' s = s.two
bytes_lengths in_pool m m' s = s.pool

-- as a list of bytes, where each of them and all lengths are the same
ring_same : (legacy : Bool) (n : ℕ) (m m' : Memory) → SameLengths m m' → ((i : ℕ) → used_at legacy n ≤ i → SameByte (used_region legacy) i m m') → used_ring legacy n m ≡ used_ring legacy n m'
ring_same legacy n m m' s h =
    let x : List ℕ = bytes_of (used_region legacy) m in
    let y : List ℕ = bytes_of (used_region legacy) m' in
    let a : ℕ = used_at legacy n in
    ap (take (used_size n))
    (ext_get_or 0 (drop a x) (drop a y)
    (length-drop a x ∙ ap (λ k. k - a) (bytes_lengths (used_region legacy) m m' s) ∙ sym (length-drop a y))
    (λ i l. get_or-drop a x i 0 ∙ h (a + i) (omega arith) ∙ sym (get_or-drop a y i 0)))

module _ (q : Queue) (m : Memory) (g : Good q) where
  stays : (i : ℕ) → used_at q.modes.legacy q.n ≤ i → EveryCall (λ x. SameByte (used_region q.modes.legacy) i x m) q m
  stays i l = behind_stays q m g (used_region q.modes.legacy) i (ring_behind q.modes.legacy q.n i l)

  lengths : EveryCall (λ x. SameLengths x m) q m
  lengths = lengths_stay q m

  abbrev ring : Memory → List ℕ
  ring x = used_ring q.modes.legacy q.n x

  same : (x : Memory) → SameLengths x m → ((i : ℕ) → used_at q.modes.legacy q.n ≤ i → SameByte (used_region q.modes.legacy) i x m) → ring x ≡ ring m
  same x s h = ring_same q.modes.legacy q.n x m s h

  -- THE LAW
  pub used_ring_stays : EveryCall (λ x. used_ring q.modes.legacy q.n x ≡ used_ring q.modes.legacy q.n m) q m
  used_ring_stays =
      every_call (λ x. ring x ≡ ring m) q m refl
      (λ b. same (run b q m).memory (lengths.after_run b) (λ i l. (stays i l).after_run b))
      (λ bs. same (add q m bs).memory (lengths.after_add bs) (λ i l. (stays i l).after_add bs))
      (λ t bs. same (pop_used q m t bs).memory (lengths.after_pop t bs) (λ i l. (stays i l).after_pop t bs))
      (λ w. same (set_dev_notify q m w).memory (lengths.after_set_notify w) (λ i l. (stays i l).after_set_notify w))
