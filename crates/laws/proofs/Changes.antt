-- An access and a step of an open call store to none but the places of the call's list, so that a step changes no byte outside of them.
use Rattle.std.specs.Prelude.{◌≡◌, Bool, ℕ, zero, suc, ◌+◌, ◌-◌, ◌*◌, ◌%◌, ◌≤◌, ◌<◌, ltb}
use Rattle.std.proofs.Math.Path.{refl, ap}
use Rattle.std.proofs.Common.{sym, subst, ◌∙◌, true≢false, inl, inr, arith, ltb-true, ltb-false}
use Rattle.std.proofs.Math.Bool.{true, false, cond}
use mathlib.Core.List.{List, [], ◌∷◌, ◌++◌, map}
use Rattle.std.proofs.Math.Dec.{eqb}
use Rattle.lists.specs.Pick.{rising, one_if}
use Rattle.lists.specs.Walk.{hop, walk}
use Rattle.virtio.specs.Memory.{Memory, Region, Place, desc, avail_idx, used_event, avail_ring, entry}
use Rattle.rules.specs.declared.Open.{Open}
use Rattle.rules.specs.declared.Open.TheVariants.{Idle, Add, PopIdx, PopId, PopLen, PopStore, PeekIdx, PeekId}
use Rattle.rules.specs.Record.{Queue, next_of, noted_of, chain_of, last_of, is_indirect, entries_of, size_of}
use Rattle.rules.specs.Meaning.{WellFormed, Named, Adding, Storing}
use Rattle.rules.specs.Step.{Access, add_access, pop_access, access, move}
use Rattle.laws.specs.Changes.{Among, Clear, SameByte, StoresTo, access_changes, publishing, event_places, adding_places, storing_places, open_places, access_wide, last_head}

-- ---- a step stores to one of them

among_left : (p : Place) (xs ys : List Place) → Among p xs → Among p (xs ++ ys)
among_left p [] ys a = absurd a
among_left p (x ∷ xs) ys (inl e) = inl e
among_left p (x ∷ xs) ys (inr a) = inr (among_left p xs ys a)

among_right : (p : Place) (xs ys : List Place) → Among p ys → Among p (xs ++ ys)
among_right p [] ys a = a
among_right p (x ∷ xs) ys a = inr (among_right p xs ys a)

among_walk : (next : ℕ → ℕ) (k i j : ℕ) → j < k → Among (desc (hop next j i)) (map desc (walk next k i))
unfolding hop walk
among_walk next zero i j l = absurd (omega arith)
among_walk next (suc k) i zero l = inl refl
among_walk next (suc k) i (suc j) l = inr (among_walk next k (next i) j (omega arith))

among_rising : (k a j : ℕ) → j < k → Among (entry (a + j)) (map entry (rising k a))
unfolding rising
among_rising zero a j l = absurd (omega arith)
among_rising (suc k) a zero l = inl (ap entry (omega arith))
among_rising (suc k) a (suc j) l =
    let e : suc a + j ≡ a + suc j = omega arith in
    inr (subst (λ x. Among (entry x) (map entry (rising k (suc a)))) e (among_rising k (suc a) j (omega arith)))

pick : (ps : List Place) (b : Bool) (x y : Access) → (b ≡ true → StoresTo ps x) → (b ≡ false → StoresTo ps y) → StoresTo ps (cond b x y)
pick ps true x y f g = f refl
pick ps false x y f g = g refl

module _ (q : Queue) (w : WellFormed q) where
  add_stores : (h i : ℕ) → Adding q h i → StoresTo (adding_places q h) (add_access q h i)
  add_stores h i n = go (is_indirect q h) refl
    where
      go : (b : Bool) → is_indirect q h ≡ b → StoresTo (cond b (map entry (rising (entries_of q h) (q.n * h)) ++ (desc h ∷ publishing q)) (map desc (chain_of q h) ++ publishing q)) (add_access q h i)
      go true e =
          let xs : List Place = map entry (rising (entries_of q h) (q.n * h)) in
          let ys : List Place = desc h ∷ publishing q in
          let k : size_of q h ≡ entries_of q h = ap (λ b. cond b (entries_of q h) (noted_of q h)) e in
          pick (xs ++ ys) (ltb i (size_of q h)) _ _
          (λ l. pick (xs ++ ys) (is_indirect q h) _ _
          (λ f. among_left (entry (q.n * h + i)) xs ys (among_rising (entries_of q h) (q.n * h) i (let b : i < size_of q h = ltb-true i (size_of q h) l in omega arith)))
          (λ f. absurd (true≢false (sym e ∙ f))))
          (λ l. pick (xs ++ ys) (eqb i (size_of q h)) _ _
          (λ f. among_right (desc (last_of q h)) xs ys (inl (ap desc (last_head q w h n.head e))))
          (λ f. pick (xs ++ ys) (eqb i (size_of q h + 1)) _ _
          (λ g. among_right (avail_ring (q.counts.avail % q.n)) xs ys (inr (inl refl)))
          (λ g. among_right avail_idx xs ys (inr (inr (inl refl))))))
      go false e =
          let xs : List Place = map desc (chain_of q h) in
          let ys : List Place = publishing q in
          let k : size_of q h ≡ noted_of q h = ap (λ b. cond b (entries_of q h) (noted_of q h)) e in
          let o : (noted_of q h ≡ 0 → ⊥) = n.head.noted in
          pick (xs ++ ys) (ltb i (size_of q h)) _ _
          (λ l. pick (xs ++ ys) (is_indirect q h) _ _
          (λ f. absurd (true≢false (sym f ∙ e)))
          (λ f. among_left (desc (hop (next_of q) i h)) xs ys (among_walk (next_of q) (noted_of q h) h i (let b : i < size_of q h = ltb-true i (size_of q h) l in omega arith))))
          (λ l. pick (xs ++ ys) (eqb i (size_of q h)) _ _
          (λ f. among_left (desc (last_of q h)) xs ys (among_walk (next_of q) (noted_of q h) h (noted_of q h - 1) (omega arith)))
          (λ f. pick (xs ++ ys) (eqb i (size_of q h + 1)) _ _
          (λ g. among_right (avail_ring (q.counts.avail % q.n)) xs ys (inl refl))
          (λ g. among_right avail_idx xs ys (inr (inl refl)))))

  pop_stores : (k i : ℕ) → Storing q k i → StoresTo (storing_places q k) (pop_access q k i)
  pop_stores k i n =
      let xs : List Place = map desc (walk (next_of q) k q.counts.free) in
      pick (storing_places q k) (ltb i k) _ _
      (λ l. among_left (desc (hop (next_of q) i q.counts.free)) xs (event_places q) (among_walk (next_of q) k q.counts.free i (ltb-true i k l)))
      (λ l. among_right used_event xs (event_places q) (event q.modes.event_idx n.step (ltb-false i k l)))
    where
      event : (b : Bool) → i < k + one_if b → k ≤ i → Among used_event (cond b (used_event ∷ []) [])
      event true l u = inl refl
      event false l u = absurd (omega arith)

  -- THE LAW
  pub step_stores : (c : Open) → q.call ≡ c → StoresTo (open_places q c) (access q c)
  step_stores Idle e = tt
  step_stores (Add h i) e = add_stores h i (subst (λ c. Named q c) e w.call)
  step_stores (PopIdx t b) e = tt
  step_stores (PopId t b) e = tt
  step_stores (PopLen t b d) e = tt
  step_stores (PopStore k i l) e = pop_stores k i (subst (λ c. Named q c) e w.call)
  step_stores PeekIdx e = tt
  step_stores PeekId e = tt

-- so a step changes no byte outside of them
pub step_changes : (q : Queue) (m : Memory) → WellFormed q → (r : Region) (i : ℕ) → Clear q (open_places q q.call) r i → SameByte r i (move q m).memory m
unfolding move
step_changes q m w r i c =
    access_changes q m (access q q.call) (open_places q q.call) r i (access_wide q q.call) (step_stores q w q.call refl) c
