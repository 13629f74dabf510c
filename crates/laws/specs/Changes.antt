-- What memory an access and a step of an open call may change, byte by byte: none but the bytes of the one place that it stores to; and the places that each
-- call may store to. That a step stores to one of its call's is in proofs/.
use Rattle.std.specs.Prelude.{◌≡◌, Bool, not, ◌&&◌, ◌⊎◌, ℕ, ◌+◌, ◌-◌, ◌*◌, ◌%◌, ◌≤◌, ◌<◌, ltb, length, get_or}
use Rattle.std.proofs.Math.Path.{refl, ap}
use Rattle.std.proofs.Common.{sym, subst, ◌∙◌, true≢false, inl, inr, arith, ltb-true, ltb-false, eqb-true}
use Rattle.std.proofs.Math.Bool.{true, false, cond}
use mathlib.Core.List.{List, [], ◌∷◌, ◌++◌, map}
use Rattle.std.proofs.lemmas.Bool.{not-false}
use Rattle.std.proofs.Math.Dec.{eqb}
use Rattle.lists.specs.Bytes.{put_le, put_length, put_outside}
use Rattle.lists.specs.Tests.{by_test, by_eq}
use Rattle.lists.specs.Pick.{Test, ◌when◌, rising}
use Rattle.lists.specs.PickLaws.{first_none, NoneOf}
use Rattle.lists.specs.Walk.{hop, walk}
use Rattle.virtio.specs.declared.Buffer.{Buffer}
use Rattle.virtio.specs.Desc.{put_desc, put_desc_length, put_desc_outside}
use Rattle.virtio.specs.Memory.{Memory, Region, in_one, in_two, in_pool, Place, desc, avail_flags, avail_idx, used_event, avail_ring, entry, Spot, spot, bytes_of, with_bytes}
use Rattle.rules.specs.declared.Open.{Open}
use Rattle.rules.specs.declared.Open.TheVariants.{Idle, Add, PopIdx, PopId, PopLen, PopStore, PeekIdx, PeekId}
use Rattle.rules.specs.Record.{Queue, next_of, noted_of, outstanding, chain_of, last_of, is_indirect, entries_of, size_of, with_call}
use Rattle.rules.specs.WellFormed.{add_steps, store_steps}
use Rattle.rules.specs.Meaning.{WellFormed, Out}
use Rattle.rules.specs.Answer.{WrongToken, NotOutstanding, Mismatch}
use Rattle.rules.specs.Step.{Access, nothing, load, store, store_desc, accessed, access, Reaction, token_of, freed, stored_count, verdict, react, move}
use Rattle.laws.specs.WellFormedIs.{out_means}
use Rattle.laws.specs.FreeLaws.{chain_same}
use Rattle.laws.specs.CallKeeps.{Good}

-- ---- bytes and places

-- byte i of region r lies in the spot
pub record Lies (r : Region) (i : ℕ) (s : Spot) : Type 0 where
  pub region : r ≡ s.region
  pub from : s.offset ≤ i
  pub below : i < s.offset + s.width

-- p is one of the places
abbrev pub Among : Place → List Place → Type 0
Among p [] = ⊥
Among p (x ∷ xs) = (p ≡ x) ⊎ Among p xs

-- byte i of region r lies in none of the places
abbrev pub Clear : Queue → List Place → Region → ℕ → Type 0
Clear q ps r i = (p : Place) → Among p ps → Lies r i (spot q.modes.legacy q.n p) → ⊥

-- byte i of region r is the same in two memories; and all lengths are
abbrev pub SameByte : Region → ℕ → Memory → Memory → Type 0
SameByte r i m m' = get_or (bytes_of r m) i 0 ≡ get_or (bytes_of r m') i 0

pub record SameLengths (m m' : Memory) : Type 0 where
  pub one : length m.one ≡ length m'.one
  pub two : length m.two ≡ length m'.two
  pub pool : length m.pool ≡ length m'.pool

-- ---- a store

put_byte : (r t : Region) (m : Memory) (s : List ℕ) (i : ℕ) → (r ≡ t → get_or s i 0 ≡ get_or (bytes_of t m) i 0) → SameByte r i (with_bytes t m s) m
put_byte in_one in_one m s i h = h refl
put_byte in_one in_two m s i h = refl
put_byte in_one in_pool m s i h = refl
put_byte in_two in_one m s i h = refl
put_byte in_two in_two m s i h = h refl
put_byte in_two in_pool m s i h = refl
put_byte in_pool in_one m s i h = refl
put_byte in_pool in_two m s i h = refl
put_byte in_pool in_pool m s i h = h refl

put_lengths : (t : Region) (m : Memory) (s : List ℕ) → length s ≡ length (bytes_of t m) → SameLengths (with_bytes t m s) m
put_lengths in_one m s e = record { one = e; two = refl; pool = refl }
put_lengths in_two m s e = record { one = refl; two = e; pool = refl }
put_lengths in_pool m s e = record { one = refl; two = refl; pool = e }

-- a byte that does not lie in a spot of its region is before or behind it
beside : (r : Region) (i : ℕ) (s : Spot) → (Lies r i s → ⊥) → r ≡ s.region → (i < s.offset) ⊎ (s.offset + s.width ≤ i)
beside r i s n e =
    by_test (ltb i s.offset)
    (λ t. inl (ltb-true i s.offset t))
    (λ t. by_test (ltb i (s.offset + s.width))
    (λ u. absurd (n (record { region = e; from = ltb-false i s.offset t; below = ltb-true i (s.offset + s.width) u })))
    (λ u. inr (ltb-false i (s.offset + s.width) u)))

-- ---- an access

-- it stores to one of these places, or to none
abbrev pub StoresTo : List Place → Access → Type 0
StoresTo ps nothing = Unit {0}
StoresTo ps (load p) = Unit {0}
StoresTo ps (store p v) = Among p ps
StoresTo ps (store_desc p d) = Among p ps

-- where it stores a descriptor, the place is as wide as one
abbrev pub Wide : Queue → Access → Type 0
Wide q nothing = Unit {0}
Wide q (load p) = Unit {0}
Wide q (store p v) = Unit {0}
Wide q (store_desc p d) = (spot q.modes.legacy q.n p).width ≡ 16

module _ (q : Queue) (m : Memory) where
  -- THE LAWS of an access
  pub access_changes : (a : Access) (ps : List Place) (r : Region) (i : ℕ) → Wide q a → StoresTo ps a → Clear q ps r i → SameByte r i (accessed q a m) m
  access_changes nothing ps r i w s c = refl
  access_changes (load p) ps r i w s c = refl
  access_changes (store p v) ps r i w s c =
      let x : Spot = spot q.modes.legacy q.n p in
      put_byte r x.region m (put_le x.width (bytes_of x.region m) x.offset v) i
      (λ e. put_outside x.width (bytes_of x.region m) x.offset v i (beside r i x (c p s) e))
  access_changes (store_desc p d) ps r i w s c =
      let x : Spot = spot q.modes.legacy q.n p in
      put_byte r x.region m (put_desc (bytes_of x.region m) x.offset d) i
      (λ e. put_desc_outside (bytes_of x.region m) x.offset d i
      (subst (λ k. (i < x.offset) ⊎ (x.offset + k ≤ i)) w (beside r i x (c p s) e)))

  pub access_lengths : (a : Access) → SameLengths (accessed q a m) m
  access_lengths nothing = record { one = refl; two = refl; pool = refl }
  access_lengths (load p) = record { one = refl; two = refl; pool = refl }
  access_lengths (store p v) =
      let x : Spot = spot q.modes.legacy q.n p in
      put_lengths x.region m _ (put_length x.width (bytes_of x.region m) x.offset v)
  access_lengths (store_desc p d) =
      let x : Spot = spot q.modes.legacy q.n p in
      put_lengths x.region m _ (put_desc_length (bytes_of x.region m) x.offset d)

-- ---- the places that a call may store to

module _ (q : Queue) where
  -- the ring slot and idx, that publish a chain; used_event, where it is in use
  abbrev pub publishing : List Place
  publishing = avail_ring (q.counts.avail % q.n) ∷ avail_idx ∷ []

  abbrev pub event_places : List Place
  event_places = cond q.modes.event_idx (used_event ∷ []) []

  -- an add of bs: its list's entries in the head's slot and the head's descriptor, or the chain's descriptors
  abbrev pub add_places : List Buffer → List Place
  add_places bs =
      cond (q.modes.indirect && ltb 1 (length bs))
      (map entry (rising (length bs) (q.n * q.counts.free)) ++ (desc q.counts.free ∷ publishing))
      (map desc (walk (next_of q) (length bs) q.counts.free) ++ publishing)

  -- an add that is open at head h
  abbrev pub adding_places : ℕ → List Place
  adding_places h =
      cond (is_indirect q h) (map entry (rising (entries_of q h) (q.n * h)) ++ (desc h ∷ publishing)) (map desc (chain_of q h) ++ publishing)

  -- a pop of token t
  abbrev pub pop_places : ℕ → List Place
  pop_places t = cond (is_indirect q t) [] (map desc (chain_of q t)) ++ event_places

  -- a pop that freed k descriptors, which now stand first in the free list
  abbrev pub storing_places : ℕ → List Place
  storing_places k = map desc (walk (next_of q) k q.counts.free) ++ event_places

  -- set_dev_notify
  abbrev pub notify_places : List Place
  notify_places = cond q.modes.event_idx [] (avail_flags ∷ [])

  -- all that the open call may yet store to
  abbrev pub open_places : Open → List Place
  open_places Idle = []
  open_places (Add h i) = adding_places h
  open_places (PopIdx t b) = pop_places t
  open_places (PopId t b) = pop_places t
  open_places (PopLen t b d) = pop_places t
  open_places (PopStore k i l) = storing_places k
  open_places PeekIdx = []
  open_places PeekId = []

-- ---- where a step stores a descriptor, the place is as wide as one

pick_wide : (q : Queue) (b : Bool) (x y : Access) → Wide q x → Wide q y → Wide q (cond b x y)
pick_wide q true x y f g = f
pick_wide q false x y f g = g

pub access_wide : (q : Queue) (c : Open) → Wide q (access q c)
access_wide q Idle = tt
access_wide q (Add h i) =
    pick_wide q (ltb i (size_of q h)) _ _ (pick_wide q (is_indirect q h) _ _ refl refl)
    (pick_wide q (eqb i (size_of q h)) _ _ refl (pick_wide q (eqb i (size_of q h + 1)) _ _ tt tt))
access_wide q (PopIdx t b) = tt
access_wide q (PopId t b) = tt
access_wide q (PopLen t b d) = tt
access_wide q (PopStore k i l) = pick_wide q (ltb i k) _ _ refl tt
access_wide q PeekIdx = tt
access_wide q PeekId = tt

module _ (q : Queue) (w : WellFormed q) where
  -- an indirect head is all of its chain
  pub one_noted : (h : ℕ) → Out q h → is_indirect q h ≡ true → noted_of q h ≡ 1
  unfolding hop
  one_noted h o e =
      by_eq (noted_of q h) 1 (λ f. f)
      (λ f. let n : (noted_of q h ≡ 0 → ⊥) = o.noted in
      absurd (true≢false (sym (w.goes_on h 0 o (omega arith)) ∙ ap (λ x. eqb (x % 2) 1) (w.listed h o e).flags)))

  pub last_head : (h : ℕ) → Out q h → is_indirect q h ≡ true → last_of q h ≡ h
  unfolding hop
  last_head h o e = ap (λ k. hop (next_of q) (k - 1) h) (one_noted h o e)

-- byte i of region r does not lie in the place that the access stores to, where it stores
abbrev pub Outside : Queue → Access → Region → ℕ → Type 0
Outside q nothing r i = Unit {0}
Outside q (load p) r i = Unit {0}
Outside q (store p v) r i = Lies r i (spot q.modes.legacy q.n p) → ⊥
Outside q (store_desc p d) r i = Lies r i (spot q.modes.legacy q.n p) → ⊥

module _ (q : Queue) (r : Region) (i : ℕ) where
  only : (p : Place) → (Lies r i (spot q.modes.legacy q.n p) → ⊥) → Clear q (p ∷ []) r i
  only p f x (inl e) l = f (subst (λ y. Lies r i (spot q.modes.legacy q.n y)) e l)
  only p f x (inr a) l = absurd a

  pub access_changes_one : (m : Memory) (a : Access) → Wide q a → Outside q a r i → SameByte r i (accessed q a m) m
  access_changes_one m nothing w f = refl
  access_changes_one m (load p) w f = refl
  access_changes_one m (store p v) w f = access_changes q m (store p v) (p ∷ []) r i w (inl refl) (only p f)
  access_changes_one m (store_desc p d) w f = access_changes q m (store_desc p d) (p ∷ []) r i w (inl refl) (only p f)

-- THE LAW of the one place: over any record a step changes no byte outside the place that its own access stores to, and none at all where it stores nothing
pub step_changes_one : (q : Queue) (m : Memory) (r : Region) (i : ℕ) → Outside q (access q q.call) r i → SameByte r i (move q m).memory m
unfolding move
step_changes_one q m r i f = access_changes_one q r i m (access q q.call) (access_wide q q.call) f

pub step_lengths : (q : Queue) (m : Memory) → SameLengths (move q m).memory m
unfolding move
step_lengths q m = access_lengths q m (access q q.call)

-- ---- and what the call may store to after it, it might before

abbrev pub ClearNow : Region → ℕ → Queue → Type 0
ClearNow r i q = Clear q (open_places q q.call) r i

either : (r : Region) (i : ℕ) (b : Bool) (x y : Reaction) → (b ≡ true → ClearNow r i x.queue) → (b ≡ false → ClearNow r i y.queue) → ClearNow r i (cond b x y).queue
either r i true x y f g = f refl
either r i false x y f g = g refl

module _ (q : Queue) (g : Good q) (r : Region) (i : ℕ) where
  nowhere : ClearNow r i (with_call q Idle)
  nowhere p a l = a

  -- a chain that was freed stands first in the free list
  freed_places : (t : ℕ) → Out q t → map desc (walk (next_of (freed q t)) (stored_count q t) t) ++ event_places q ≡ pop_places q t
  unfolding walk
  freed_places t o = go (is_indirect q t)
    where
      go : (b : Bool) → map desc (walk (next_of (freed q t)) (cond b 0 (noted_of q t)) t) ++ event_places q ≡ cond b [] (map desc (chain_of q t)) ++ event_places q
      go true = refl
      go false = ap (λ l. map desc l ++ event_places q) (chain_same q t g.held g.well o)

  abbrev tests : ℕ → Bool → ℕ → List Test
  tests t b d =
      (WrongToken when not (eqb (token_of d) t)) ∷ (NotOutstanding when not (outstanding q t)) ∷ (Mismatch when not b) ∷ []

  length_clear : (t : ℕ) (b : Bool) (d v : ℕ) → Clear q (pop_places q t) r i → ClearNow r i (react q (PopLen t b d) v).queue
  length_clear t b d v c =
      either r i (eqb (verdict q t b d) 0) _ _
      (λ z. let n : NoneOf (tests t b d) = first_none (tests t b d) (omega arith) (eqb-true (verdict q t b d) 0 z) in
      let o : Out q t = out_means q t (not-false (outstanding q t) n.1.0) in
      either r i (eqb (store_steps q (stored_count q t)) 0) _ _
      (λ y p a l. a)
      (λ y. subst (λ ps. Clear q ps r i) (sym (freed_places t o)) c))
      (λ z. nowhere)

  pub clear_on : (c : Open) → q.call ≡ c → (v : ℕ) → Clear q (open_places q c) r i → ClearNow r i (react q c v).queue
  clear_on Idle e v c = subst (λ x. Clear q (open_places q x) r i) (sym e) c
  clear_on (Add h j) e v c = either r i (ltb (j + 1) (add_steps q h)) _ _ (λ t. c) (λ t. nowhere)
  clear_on (PopIdx t b) e v c = either r i (eqb v q.counts.last) _ _ (λ z. nowhere) (λ z. c)
  clear_on (PopId t b) e v c = c
  clear_on (PopLen t b d) e v c = length_clear t b d v c
  clear_on (PopStore k j l) e v c = either r i (ltb (j + 1) (store_steps q k)) _ _ (λ z. c) (λ z. nowhere)
  clear_on PeekIdx e v c = either r i (eqb v q.counts.last) _ _ (λ z. nowhere) (λ z. c)
  clear_on PeekId e v c = nowhere
