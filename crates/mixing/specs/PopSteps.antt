-- Every step of a pop and of a peek keeps the invariant; so every step of an open call does.
use Rattle.std.specs.Prelude.{◌≡◌, Bool, true, false, not, ◌&&◌, ◌⊎◌, ℕ, ◌+◌, ◌%◌, ◌≤◌, ◌<◌, ltb, eqb}
use Rattle.std.proofs.Math.Path.{refl, subst}
use Rattle.std.proofs.Common.{sym, ap, ◌∙◌, inl, inr, arith, get_or-set_other}
use Rattle.std.proofs.Math.Bool.{cond}
use borrow.Author.Tests.{lt-ltb, eqb-true, eqb-false, eq-eqb, ltb-true}
use Rattle.lists.specs.Tests.{by_test, by_eq, either}
use Rattle.lists.specs.Index.{after, after_counts}
use Rattle.lists.specs.Once.{count}
use Rattle.lists.specs.Places.{InFront, InWalk, placed}
use Rattle.lists.specs.Walk.{hop, hop_below}
use Rattle.lists.specs.WalkLaws.{hop_counted}
use Rattle.virtio.specs.Device.{device_writes}
use Rattle.virtio.specs.Memory.{Memory, Place, desc, used_event, used_idx, used_id}
use Rattle.virtio.specs.Sizes.{Has}
use Rattle.rules.specs.declared.Open.{Open}
use Rattle.rules.specs.declared.Open.TheVariants.{Idle, Add, PopIdx, PopId, PopLen, PopStore, PeekIdx, PeekId}
use Rattle.rules.specs.Record.{Queue, desc_of, next_of, noted_of, outstanding, free_count, free_list, chain_of, is_add, with_call}
use Rattle.rules.specs.WellFormed.{store_steps}
use Rattle.rules.specs.Meaning.{WellFormed, Out, Named, Storing}
use Rattle.rules.specs.Calls.{fits}
use Rattle.rules.specs.Step.{Access, store, store_desc, loaded, accessed, pop_access, access, Reaction, will_go_on, ends, freed_tables, freed_counts, freed, stored_count, verdict, popped, react, move}
use Rattle.laws.specs.Changes.{access_lengths}
use Rattle.laws.specs.WellFormedIs.{out_means}
use Rattle.laws.specs.FreeLaws.{head_same}
use Rattle.laws.specs.PopKeeps.{freed_others, freed_token}
use Rattle.laws.specs.HeldKeeps.{held_react}
use Rattle.laws.specs.StepKeeps.{react_keeps}
use Rattle.laws.specs.StepsLeft.{passed}
use Rattle.laws.specs.CallKeeps.{Good}
use Rattle.laws.specs.Regions.{still_fits}
use Rattle.laws.specs.Runs.{move_at}
use Rattle.mixing.specs.Device.{Device}
use Rattle.mixing.specs.Fields.{num, Changed, put_changed, desc_changed}
use Rattle.mixing.specs.Facts.{Stage, none, taken, offered, returned, is_out, Notes, Blank, DriverAt, Facts}
use Rattle.mixing.specs.Stages.{kind, number_of, turned, turned_here, turned_there, turned_keeps, turned_back}
use Rattle.mixing.specs.Shows.{small, staged_out, last_slot}
use Rattle.mixing.specs.DriverMoves.{Moves, moved, called, stored}
use Rattle.mixing.specs.Publishes.{add_left}

module _ (base : ℕ) (q : Queue) (m : Memory) (d : Device) (g : Notes) (f : Facts base q m d g) where
  abbrev well : WellFormed q
  well = f.good.well

  -- what the driver leaves
  abbrev pub Left : Queue → Memory → Type 0
  Left r x = (g' : Notes) × Facts base r x d g'

  react_good : (c : Open) → q.call ≡ c → (v : ℕ) → Good (react q c v).queue
  react_good c e v = record { held = held_react q f.good.held c v; well = react_keeps q f.good.held well c e v }

  abbrev Leaves : Memory → Reaction → Type 0
  Leaves x r = Good r.queue → Left r.queue x

  -- ---- the loads of idx

  idle_left : Good (with_call q Idle) → Left (with_call q Idle) m
  idle_left k = (g, called base q m d g f Idle k tt)

  -- a used idx that is not last_used_idx: an element was returned
  some_used : eqb (num q used_idx m) q.counts.last ≡ false → g.pops < g.uses
  some_used e =
      let a : g.pops ≤ g.uses = f.popped in
      let b : num q used_idx m ≡ g.uses % 65536 = f.shown.used in
      let n : (num q used_idx m ≡ q.counts.last → ⊥) = eqb-false (num q used_idx m) q.counts.last e in
      by_eq g.pops g.uses (λ z. absurd (n (b ∙ ap (λ y. y % 65536) (sym z) ∙ sym f.last))) (λ z. omega arith)

  idx_left : (c o : Open) → q.call ≡ c → (v : ℕ) → (g.pops < g.uses → DriverAt base (with_call q o) m g o)
      → Good (cond (eqb (num q used_idx m) q.counts.last) (ends q v 0) (will_go_on q o)).queue
      → Left (cond (eqb (num q used_idx m) q.counts.last) (ends q v 0) (will_go_on q o)).queue m
  idx_left c o e v a k =
      either (Leaves m) (eqb (num q used_idx m) q.counts.last) (ends q v 0) (will_go_on q o)
      (λ z y. idle_left y)
      (λ z y. (g, called base q m d g f o y (a (some_used z)))) k

  -- ---- the third load

  module _ (t : ℕ) (b : Bool) (x : ℕ) (e : q.call ≡ PopLen t b x) (ok : verdict q t b x ≡ 0) where
    reads : (g.pops < g.uses) × (x ≡ num q (used_id (q.counts.last % q.n)) m)
    reads = subst (λ c. DriverAt base q m g c) e f.at_driver

    -- the element names the chain that was returned first
    named : g.stage x ≡ returned g.pops
    named =
        ap g.stage (reads.1 ∙ ap (λ z. num q (used_id z) m) (last_slot q m d g f)) ∙ f.shown.elements g.pops (omega arith) reads.0

    token : t ≡ x
    token =
        let l : x < q.n = (staged_out q m d g f x (ap is_out named)).below in
        let n : q.n ≤ 64 = small q well in
        let z : x % 65536 ≡ t = (passed q t b x ok).0 in
        omega arith

    out : Out q t
    out = out_means q t (passed q t b x ok).1

    first_returned : g.stage t ≡ returned g.pops
    first_returned = ap g.stage token ∙ named

    no_add : is_add q.call ≡ false
    no_add = ap is_add e

    abbrev stage' : ℕ → Stage
    stage' = turned g.stage t none

    not_first : (s : Stage) → (returned g.pops ≡ s → ⊥) → g.stage t ≡ s → ⊥
    not_first s n z = n (sym first_returned ∙ z)

    module _ (o : Open) (k : Good (with_call (freed q t) o)) where
      outs_are : (h : ℕ) → outstanding (freed q t) h ≡ is_out (stage' h)
      outs_are h =
          by_eq h t
          (λ z. ap (outstanding (freed q t)) z ∙
          (rw (lt-ltb t q.n out.below, eq-eqb (noted_of (freed q t) t) 0 (freed_token q t f.good.held well out no_add)))
          ∙ sym (ap is_out (turned_here g.stage t none h z)))
          (λ z. ap (λ y. ltb h q.n && not (eqb y 0)) (get_or-set_other q.tables.noted t h 0 0 z) ∙ f.outs h ∙ sym
          (ap is_out (turned_there g.stage t none h z)))

      frees : Moves base q m d g f (freed_counts q t) (freed_tables q t) o (g.pops + 1) stage'
      frees =
          let l : g.pops < g.uses = reads.0 in
          record {
            good = k;
            avail = refl;
            last = ap after f.last ∙ after_counts g.pops;
            more = omega arith;
            most = omega arith;
            outs = outs_are;
            held = λ h z. turned_keeps g.stage t none h taken z (not_first taken (λ y. let c : ◌≡◌ {A = ℕ} 4 2 = ap kind y in omega arith));
            offers = λ h j z. turned_keeps g.stage t none h (offered j) z
                (not_first (offered j) (λ y. let c : ◌≡◌ {A = ℕ} 4 3 = ap kind y in omega arith));
            back = λ h j z. (turned_back g.stage t none h (offered j) z (λ y. let c : ◌≡◌ {A = ℕ} 0 3 = ap kind y in omega arith)).0;
            returns = λ h j l z. turned_keeps g.stage t none h (returned j) z
                (not_first (returned j) (λ y. let c : g.pops ≡ j = ap number_of y in omega arith));
            chain = λ h j z.
                let n : (h ≡ t → ⊥) =
                λ y. not_first (offered j) (λ v. let c : ◌≡◌ {A = ℕ} 4 3 = ap kind v in omega arith) (ap g.stage (sym y) ∙ z) in
                let p : Out q h = staged_out q m d g f h (ap is_out z) in
                ((freed_others q t f.good.held well out no_add h p n).0, head_same q t f.good.held well out h p n);
          }

      freed_left : DriverAt base (with_call (freed q t) o) m (record { adds = g.adds; takes = g.takes; uses = g.uses; pops = g.pops + 1; stage = stage' }) o → Left (with_call (freed q t) o) m
      freed_left a = (_, moved base q m d g f (freed_counts q t) (freed_tables q t) o (g.pops + 1) stage' frees a)

    popped_left : (len : ℕ) → Good (popped q t len).queue → Left (popped q t len).queue m
    popped_left len k =
        either (Leaves m) (eqb (store_steps q (stored_count q t)) 0) _ _ (λ z y. freed_left Idle y tt)
        (λ z y. freed_left (PopStore (stored_count q t) 0 len) y tt) k

  length_left : (t : ℕ) (b : Bool) (x v : ℕ) → q.call ≡ PopLen t b x → Good (react q (PopLen t b x) v).queue
      → Left (react q (PopLen t b x) v).queue m
  length_left t b x v e k =
      either (Leaves m) (eqb (verdict q t b x) 0) _ _ (λ z y. popped_left t b x e (eqb-true (verdict q t b x) 0 z) v y) (λ z y. idle_left y) k

  -- ---- the stores

  still_fit : (a : Access) → fits q (accessed q a m) ≡ true
  still_fit a = still_fits q q (accessed q a m) m (record { n = refl; modes = refl }) (access_lengths q m a) ∙ f.fit

  -- a free descriptor is in no chain
  pub free_blank : (i : ℕ) → i < free_count q → Blank q g (desc (hop (next_of q) i q.counts.free))
  free_blank i l h j z = go (placed (next_of q) (noted_of q) q.n (free_list q) x (well.once.each x low))
    where
      x : ℕ
      x = hop (next_of q) i q.counts.free

      low : hop (next_of q) i q.counts.free < q.n
      low = hop_below (next_of q) q.n well.nexts i q.counts.free well.free

      go : InFront (next_of q) (noted_of q) q.n (free_list q) (hop (next_of q) i q.counts.free) ⊎ InWalk (next_of q) (noted_of q) q.n (free_list q) (hop (next_of q) i q.counts.free)
          → count (hop (next_of q) i q.counts.free) (chain_of q h) ≡ 0
      go (inl p) = p.nowhere h (omega arith) (let b : h < q.n = (staged_out q m d g f h (ap is_out z)).below in omega arith)
      go (inr p) =
          absurd (let a : 0 < count (hop (next_of q) i q.counts.free) (free_list q) = hop_counted (next_of q) (free_count q) q.counts.free i
          (hop (next_of q) i q.counts.free) l refl in
          let c : count (hop (next_of q) i q.counts.free) (free_list q) ≡ 0 = p.not_front in
          omega arith)

  -- the driver's store to a field that the invariant does not speak of, where the open call is a pop that stores
  module _ (k i l : ℕ) (e : q.call ≡ PopStore k i l) where
    named_store : Storing q k i
    named_store = subst (λ c. Named q c) e well.call

    stores : (p : Place) (a : Access) → Has q.n p → device_writes p ≡ false → Blank q g p → Changed q p m (accessed q a m)
        → (c : Open) → Good (with_call q c) → DriverAt base (with_call q c) (accessed q a m) g c → Facts base (with_call q c) (accessed q a m) d g
    stores p a has own b x c y z =
        stored base q m d g f p (accessed q a m) has own b x (still_fit a) (subst (λ v. DriverAt base q (accessed q a m) g v) (sym e) tt) c y z

    store_facts : (c : Open) → Good (with_call q c) → ((x : Memory) → DriverAt base (with_call q c) x g c)
        → Facts base (with_call q c) (accessed q (pop_access q k i) m) d g
    unfolding Has
    store_facts c y z =
        by_test (ltb i k)
        (λ b. let a : Access = store_desc (desc (hop (next_of q) i q.counts.free)) (desc_of q (hop (next_of q) i q.counts.free)) in
        let u : i < k = ltb-true i k b in
        let v : k ≤ free_count q = named_store.free in
        subst (λ w. Facts base (with_call q c) (accessed q w m) d g) (sym (ap (λ w. cond w a (store used_event q.counts.last)) b))
        (stores (desc (hop (next_of q) i q.counts.free)) a (hop_below (next_of q) q.n well.nexts i q.counts.free well.free) refl
        (free_blank i (omega arith)) (desc_changed q (desc (hop (next_of q) i q.counts.free))
        (desc_of q (hop (next_of q) i q.counts.free)) m refl) c y (z (accessed q a m))))
        (λ b. let a : Access = store used_event q.counts.last in
        subst (λ w. Facts base (with_call q c) (accessed q w m) d g)
        (sym (ap (λ w. cond w (store_desc (desc (hop (next_of q) i q.counts.free)) (desc_of q (hop (next_of q) i q.counts.free))) a) b))
        (stores used_event a tt refl tt (put_changed q used_event q.counts.last m) c y (z (accessed q a m))))

    store_left : Left (react q (PopStore k i l) 0).queue (accessed q (pop_access q k i) m)
    store_left =
        either (Leaves (accessed q (pop_access q k i) m)) (ltb (i + 1) (store_steps q k)) _ _
        (λ z y. (g, store_facts (PopStore k (i + 1) l) y (λ x. tt)))
        (λ z y. (g, store_facts Idle y (λ x. tt)))
        (react_good (PopStore k i l) e 0)

  -- ---- THE LAW: every step of an open call

  steps : (c : Open) → q.call ≡ c → Left (react q c (loaded q (access q c) m)).queue (accessed q (access q c) m)
  steps Idle e = (g, f)
  steps (Add h i) e = subst (λ o. Left o.queue o.memory) (move_at q m (Add h i) e) (add_left base q m d g f h i e)
  steps (PopIdx t b) e = idx_left (PopIdx t b) (PopId t b) e 3 (λ l. l) (react_good (PopIdx t b) e (num q used_idx m))
  steps (PopId t b) e = (
    g,
    called base q m d g f (PopLen t b (num q (used_id (q.counts.last % q.n)) m))
        (react_good (PopId t b) e (num q (used_id (q.counts.last % q.n)) m))
        (subst (λ c. DriverAt base q m g c) e f.at_driver, refl),
  )
  steps (PopLen t b x) e = length_left t b x _ e (react_good (PopLen t b x) e _)
  steps (PopStore k i l) e =
      subst (λ v. Left (react q (PopStore k i l) v).queue (accessed q (pop_access q k i) m)) (none_loaded (ltb i k)) (store_left k i l e)
    where
      none_loaded : (b : Bool)
          → 0 ≡ loaded q (cond b (store_desc (desc (hop (next_of q) i q.counts.free)) (desc_of q (hop (next_of q) i q.counts.free))) (store used_event q.counts.last)) m
      none_loaded true = refl
      none_loaded false = refl
  steps PeekIdx e = idx_left PeekIdx PeekId e 3 (λ l. l) (react_good PeekIdx e (num q used_idx m))
  steps PeekId e = idle_left (react_good PeekId e (num q (used_id (q.counts.last % q.n)) m))

  pub move_left : Left (move q m).queue (move q m).memory
  move_left = subst (λ o. Left o.queue o.memory) (sym (move_at q m q.call refl)) (steps q.call refl)
