-- Which bytes of shared memory the owning queue's calls may change. Poll and release: one token's descriptor, its slot of the available ring, that ring's
-- idx, and used_event where it is in use. New: descriptors, slots of the available ring, and its idx. No call changes the used ring, in either layout, nor region two.
use Rattle.std.specs.Prelude.{Option, None, Some, ◌≡◌, ◌⊎◌, Bool, true, false, cond, List, [], ◌∷◌, ◌++◌, map, ltb, leb, eqb}
use Rattle.std.proofs.Math.Path.{refl, subst}
use Rattle.std.proofs.Common.{sym, ap, ap₂, ◌∙◌, inl, inr, arith, mod-lt}
use Rattle.std.proofs.Math.Bool.{and-false}
use Prim.Native.Nat.{ℕ, zero, suc, ◌*◌, ◌%◌, ◌<◌}
use borrow.Author.Tests.{eqb-true, eqb-false, ltb-true}
use Rattle.lists.specs.Pick.{rising}
use Rattle.lists.specs.Tests.{by_eq}
use Rattle.lists.specs.Walk.{walk}
use Rattle.virtio.specs.declared.Buffer.{Buffer}
use Rattle.virtio.specs.Memory.{Memory, Region, Place, desc, entry, avail_ring, avail_idx, spot, used_ring}
use Rattle.rules.specs.declared.Modes.{Modes}
use Rattle.rules.specs.declared.Held.{Held}
use Rattle.rules.specs.Record.{Queue, next_of}
use Rattle.rules.specs.Answer.{Outcome}
use Rattle.rules.specs.Calls.{add_refusal, add, pop_used}
use Rattle.rules.specs.Owning.{holds, Owning, Owned, own_buffer, own_list, add_own, own_new_refusal, own_new, poll_refusal, poll, release_refusal, released, release}
use Rattle.laws.specs.Changes.{Lies, Clear, SameByte, publishing, event_places, add_places, pop_places}
use Rattle.laws.specs.CallKeeps.{Good, pop_keeps}
use Rattle.laws.proofs.CallChanges.{add_changes, pop_changes}
use Rattle.laws.specs.Opening.{add_keeps}
use Rattle.laws.specs.Regions.{Shaped, add_shaped}
use Rattle.laws.proofs.UsedStays.{two_stays, used_ring_stays}
use Rattle.laws.specs.Added.{add_done}
use Rattle.laws.specs.Whole.{add_refused}
use Rattle.laws.specs.Popped.{used_idx_of}
use Rattle.laws.specs.PopFrees.{Refuses, Frees, pop_frees_or_nothing}
use Rattle.laws.specs.OwnIs.{Away, OwnGood, own_means, all_away}
use Rattle.laws.specs.OwnFree.{away_one, away_plain}
use Rattle.laws.proofs.OwnFree.{held_next}
use Rattle.laws.specs.OwnViews.{poll_allowed}
use Rattle.laws.specs.OwnPoll.{poll_named, taken_out, taken_memory, taken, popped}

-- ---- what a whole call of the queue leaves of the layout

pub pop_shaped : (q : Queue) (m : Memory) (t : ℕ) (bs : List Buffer) → Good q → Shaped (pop_used q m t bs).queue q
pop_shaped q m t bs g = go (pop_frees_or_nothing q m t bs g)
  where
    go : Refuses q m (pop_used q m t bs) ⊎ Frees q t bs (pop_used q m t bs) → Shaped (pop_used q m t bs).queue q
    go (inl r) = record { n = ap (λ (x : Queue). x.n) r.queue; modes = ap (λ (x : Queue). x.modes) r.queue }
    go (inr f) = record { n = ap (λ (x : Queue). x.n) f.left; modes = ap (λ (x : Queue). x.modes) f.left }

pub whole_add_shaped : (q : Queue) (m : Memory) (bs : List Buffer) → Good q → Shaped (add q m bs).queue q
whole_add_shaped q m bs g =
    by_eq (add_refusal q m bs) 0
    (λ e. record {
      n = ap (λ (x : Outcome). x.queue.n) (add_done q m bs g e) ∙ (add_shaped q bs).n;
      modes = ap (λ (x : Outcome). x.queue.modes) (add_done q m bs g e) ∙ (add_shaped q bs).modes;
    })
    (λ e. record {
      n = ap (λ (x : Outcome). x.queue.n) (add_refused q m bs e);
      modes = ap (λ (x : Outcome). x.queue.modes) (add_refused q m bs e);
    })

-- ---- the used ring and region two

-- those of memory x are those of memory m
pub record UsedSame (q : Queue) (x m : Memory) : Type 0 where
  pub ring : used_ring q.modes.legacy q.n x ≡ used_ring q.modes.legacy q.n m
  pub two : x.two ≡ m.two

used_here : (q : Queue) (m : Memory) → UsedSame q m m
used_here q m = record { ring = refl; two = refl }

used_then : (q : Queue) (x y m : Memory) → UsedSame q x y → UsedSame q y m → UsedSame q x m
used_then q x y m a b = record { ring = a.ring ∙ b.ring; two = a.two ∙ b.two }

-- an add by a queue of the same layout
used_add : (p q : Queue) (m : Memory) (bs : List Buffer) → Good p → Shaped p q → UsedSame q (add p m bs).memory m
used_add p q m bs g s =
    let at : Modes → ℕ → Memory → List ℕ = λ o n x. used_ring o.legacy n x in
    record {
      ring =
          ap₂ (λ o n. at o n (add p m bs).memory) (sym s.modes) (sym s.n)
          ∙ (used_ring_stays p m g).after_add bs
          ∙ ap₂ (λ o n. at o n m) s.modes s.n;
      two = (two_stays p m).after_add bs;
    }

-- ---- what memory a poll and a release may leave

module _ (P : Memory → Type 0) where
  either_holds : (b : Bool) (x y : Owned) → (b ≡ true → P x.memory) → (b ≡ false → P y.memory) → P (cond b x y).memory
  either_holds true x y f g = f refl
  either_holds false x y f g = g refl

  module _ (o : Owning) (m : Memory) (s : List ℕ) where
    abbrev q : Queue
    q = o.queue

    abbrev pop : ℕ → Outcome
    pop t = pop_used q m t (own_list o t)

    -- what it was, what a pop of the named token leaves, or what that and an add of the same buffer leave
    poll_leaves
        : P m
        → (poll_refusal o m s ≡ 0 → (used_idx_of o.queue m ≡ o.queue.counts.last → ⊥) → poll_named o m < o.queue.n → P (pop (poll_named o m)).memory)
        → (poll_refusal o m s ≡ 0 → (used_idx_of o.queue m ≡ o.queue.counts.last → ⊥) → poll_named o m < o.queue.n → P (add (pop (poll_named o m)).queue (pop (poll_named o m)).memory (own_list o (poll_named o m))).memory)
        → P (poll o m s).memory
    unfolding poll
    poll_leaves here pops adds =
        let t : ℕ = poll_named o m in
        either_holds (eqb (poll_refusal o m s) 0) _ _
        (λ e. let z : poll_refusal o m s ≡ 0 = eqb-true (poll_refusal o m s) 0 e in
        either_holds (eqb (used_idx_of q m) q.counts.last) _ _
        (λ i. here)
        (λ i. let d : (used_idx_of q m ≡ q.counts.last → ⊥) = eqb-false (used_idx_of q m) q.counts.last i in
        either_holds (ltb t q.n) _ _
        (λ l. let b : t < q.n = ltb-true t q.n l in
        either_holds (eqb (pop t).answer 0) _ _
        (λ a. either_holds (leb (pop t).value o.size) _ _ (λ v. pops z d b) (λ v. adds z d b))
        (λ a. pops z d b))
        (λ l. here)))
        (λ e. here)

    release_leaves : P m → ((t l : ℕ) → o.held ≡ holds t l → P (add o.queue m (own_list o t)).memory) → P (release o m s).memory
    unfolding release
    release_leaves here adds = either_holds (eqb (release_refusal o m s) 0) _ _ (λ e. go o.held refl) (λ e. here)
      where
        go : (h : Option Held) → o.held ≡ h → P (released o h m s).memory
        go None f = here
        go (Some h) f = adds h.token h.len f

-- ---- THE LAWS: the used ring and region two stay

module _ (o : Owning) (m : Memory) (s : List ℕ) (g : OwnGood o) where
  pub poll_used_stays : UsedSame o.queue (poll o m s).memory m
  poll_used_stays =
      let k : Queue = o.queue in
      let t : ℕ = poll_named o m in
      let r : Outcome = pop_used k m t (own_list o t) in
      let u : UsedSame k r.memory m = record { ring = (used_ring_stays k m g.good).after_pop t (own_list o t); two = (two_stays k m).after_pop t (own_list o t) } in
      poll_leaves (λ x. UsedSame k x m) o m s (used_here k m) (λ z d b. u)
      (λ z d b. used_then k _ r.memory m
      (used_add r.queue k r.memory (own_list o t) (pop_keeps k m t (own_list o t) g.good) (pop_shaped k m t (own_list o t) g.good))
      u)

  pub release_used_stays : UsedSame o.queue (release o m s).memory m
  release_used_stays =
      release_leaves (λ x. UsedSame o.queue x m) o m s (used_here o.queue m)
      (λ t l h. used_add o.queue o.queue m (own_list o t) g.good (record { n = refl; modes = refl }))

-- each add of new
used_adds : (base size k i : ℕ) (p q : Queue) (m : Memory) → Good p → Shaped p q → UsedSame q (add_own base size k i p m).memory m
unfolding add_own
used_adds base size zero i p q m g s = used_here q m
used_adds base size (suc k) i p q m g s =
    let bs : List Buffer = own_buffer base size i ∷ [] in
    let h : Shaped (add p m bs).queue p = whole_add_shaped p m bs g in
    used_then q _ (add p m bs).memory m
    (used_adds base size k (suc i) (add p m bs).queue q (add p m bs).memory (add_keeps p m bs g) (record { n = h.n ∙ s.n; modes = h.modes ∙ s.modes }))
    (used_add p q m bs g s)

pub new_used_stays : (q : Queue) (base size : ℕ) (m : Memory) (s : List ℕ) → Good q → UsedSame q (own_new q base size m s).memory m
unfolding own_new
new_used_stays q base size m s g =
    either_holds (λ x. UsedSame q x m) (eqb (own_new_refusal q base size m s) 0) _ _
    (λ e. used_adds base size q.n 0 q q m g (record { n = refl; modes = refl }))
    (λ e. used_here q m)

-- ---- the other bytes

-- one more buffer under token t: its descriptor, the next slot of the available ring, and idx; and where it is popped too, used_event
abbrev pub giving_places : Queue → ℕ → List Place
giving_places q t = desc t ∷ publishing q

abbrev pub own_places : Queue → ℕ → List Place
own_places q t = desc t ∷ (publishing q ++ event_places q)

-- a pop of a token that is out alone stores to its descriptor and to used_event
alone_places : (o : Owning) (t : ℕ) → OwnGood o → Away o t → pop_places o.queue t ≡ desc t ∷ event_places o.queue
unfolding walk
alone_places o t g a =
    ap₂ (λ c k. cond c [] (map desc (walk (next_of o.queue) k t)) ++ event_places o.queue)
    (away_plain o (own_means o g.well) t a)
    (away_one o (own_means o g.well) t a)

-- an add of one buffer is direct
one_places : (q : Queue) (b : Buffer) → add_places q (b ∷ []) ≡ giving_places q q.counts.free
unfolding walk
one_places q b =
    ap (λ c. cond c (map entry (rising 1 (q.n * q.counts.free)) ++ giving_places q q.counts.free) (map desc (walk (next_of q) 1 q.counts.free) ++ publishing q))
    (and-false q.modes.indirect)

module _ (q : Queue) (t : ℕ) (r : Region) (i : ℕ) where
  clear_popped : Clear q (own_places q t) r i → Clear q (desc t ∷ event_places q) r i
  clear_popped c p (inl e) = c p (inl e)
  clear_popped c p (inr x) = c p (inr (inr (inr x)))

  clear_given : Clear q (own_places q t) r i → Clear q (giving_places q t) r i
  clear_given c p (inl e) = c p (inl e)
  clear_given c p (inr (inl e)) = c p (inr (inl e))
  clear_given c p (inr (inr (inl e))) = c p (inr (inr (inl e)))
  clear_given c p (inr (inr (inr e))) = absurd e

module _ (o : Owning) (m : Memory) (s : List ℕ) (g : OwnGood o) (r : Region) (i : ℕ) where
  -- THE LAW of release: with nothing held no byte is changed
  pub release_changes : ((t l : ℕ) → o.held ≡ holds t l → Clear o.queue (giving_places o.queue t) r i) → SameByte r i (release o m s).memory m
  release_changes c =
      release_leaves (λ x. SameByte r i x m) o m s refl
      (λ t l h. add_changes o.queue m (own_list o t) g.good r i
      (subst (λ ps. Clear o.queue ps r i)
      (ap (giving_places o.queue) (sym (held_next o (own_means o g.well) t ((own_means o g.well).holding t l h))) ∙ sym (one_places o.queue (own_buffer o.base o.size t)))
      (c t l h)))

  -- THE LAW of poll
  pub poll_changes : Clear o.queue (own_places o.queue (poll_named o m)) r i → SameByte r i (poll o m s).memory m
  poll_changes c =
      poll_leaves (λ x. SameByte r i x m) o m s refl pops
      (λ z d b. let e : pop_used k m t (own_list o t) ≡ taken o m s z d g b = popped o m s z d g b in
      subst (λ (x : Outcome). SameByte r i (add x.queue x.memory (own_list o t)).memory m) (sym e)
      (add_changes (taken_out o m) (taken_memory o m) (own_list o t) (subst (λ (x : Outcome). Good x.queue) e (pop_keeps k m t (own_list o t) g.good)) r i
      (subst (λ ps. Clear (taken_out o m) ps r i) (sym (one_places (taken_out o m) (own_buffer o.base o.size t))) (clear_given k t r i c))
      ∙ subst (λ (x : Outcome). SameByte r i x.memory m) e (pops z d b)))
    where
      k : Queue
      k = o.queue

      t : ℕ
      t = poll_named o m

      pops : poll_refusal o m s ≡ 0 → (used_idx_of o.queue m ≡ o.queue.counts.last → ⊥) → poll_named o m < o.queue.n → SameByte r i (pop_used o.queue m (poll_named o m) (own_list o (poll_named o m))).memory m
      pops z d b =
          pop_changes o.queue m (poll_named o m) (own_list o (poll_named o m)) g.good r i
          (subst (λ ps. Clear o.queue ps r i)
          (sym (alone_places o (poll_named o m) g (all_away o (own_means o g.well) (poll_allowed o m s z).none (poll_named o m) b)))
          (clear_popped o.queue (poll_named o m) r i c))

-- a byte of no descriptor, of no slot of the available ring, and not of that ring's idx
pub record ClearFront (legacy : Bool) (n : ℕ) (r : Region) (i : ℕ) : Type 0 where
  pub descs : (h : ℕ) → h < n → Lies r i (spot legacy n (desc h)) → ⊥
  pub slots : (h : ℕ) → h < n → Lies r i (spot legacy n (avail_ring h)) → ⊥
  pub idx : Lies r i (spot legacy n avail_idx) → ⊥

module _ (base size : ℕ) (r : Region) (j : ℕ) where
  front_clear : (q : Queue) → Good q → ClearFront q.modes.legacy q.n r j → Clear q (giving_places q q.counts.free) r j
  front_clear q g c p (inl e) =
      λ l. c.descs q.counts.free g.well.free (subst (λ x. Lies r j (spot q.modes.legacy q.n x)) e l)
  front_clear q g c p (inr (inl e)) =
      let u : q.counts.free < q.n = g.well.free in
      λ l. c.slots (q.counts.avail % q.n) (mod-lt q.counts.avail (omega arith)) (subst (λ x. Lies r j (spot q.modes.legacy q.n x)) e l)
  front_clear q g c p (inr (inr (inl e))) =
      λ l. c.idx (subst (λ x. Lies r j (spot q.modes.legacy q.n x)) e l)
  front_clear q g c p (inr (inr (inr e))) = absurd e

  adds_change : (k i : ℕ) (q : Queue) (m : Memory) → Good q → ClearFront q.modes.legacy q.n r j → SameByte r j (add_own base size k i q m).memory m
  unfolding add_own
  adds_change zero i q m g c = refl
  adds_change (suc k) i q m g c =
      let b : Buffer = own_buffer base size i in
      let h : Shaped (add q m (b ∷ [])).queue q = whole_add_shaped q m (b ∷ []) g in
      let d : ClearFront (add q m (b ∷ [])).queue.modes.legacy (add q m (b ∷ [])).queue.n r j = subst (λ (o : Modes). ClearFront o.legacy (add q m (b ∷ [])).queue.n r j) (sym h.modes) (subst (λ n. ClearFront q.modes.legacy n r j) (sym h.n) c) in
      adds_change k (suc i) (add q m (b ∷ [])).queue (add q m (b ∷ [])).memory (add_keeps q m (b ∷ []) g) d
      ∙ add_changes q m (b ∷ []) g r j (subst (λ ps. Clear q ps r j) (sym (one_places q b)) (front_clear q g c))

-- THE LAW of new
pub new_changes : (q : Queue) (base size : ℕ) (m : Memory) (s : List ℕ) → Good q → (r : Region) (i : ℕ) → ClearFront q.modes.legacy q.n r i → SameByte r i (own_new q base size m s).memory m
unfolding own_new
new_changes q base size m s g r i c =
    either_holds (λ x. SameByte r i x m) (eqb (own_new_refusal q base size m s) 0) _ _
    (λ e. adds_change base size r i q.n 0 q m g c)
    (λ e. refl)
