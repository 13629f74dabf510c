-- Every opening of a call, and every call of a single step, keeps the invariant.
use Rattle.std.specs.Prelude.{◌≡◌, Bool, not, cond, ◌&&◌, ◌⊎◌, List, [], ◌∷◌, ℕ, suc, ◌≤◌, ◌<◌, ltb, eqb, length, get_or, drop}
use Rattle.std.proofs.Math.Path.{refl}
use Rattle.std.proofs.Common.{sym, ap, subst, ◌∙◌, true≢false, arith, eqb-true, get_or-set_same, get_or-set_other}
use Rattle.std.proofs.Math.Bool.{true, false}
use Rattle.lists.specs.Tests.{by_test, by_eq}
use Rattle.lists.specs.Pick.{Test, ◌when◌}
use Rattle.lists.specs.PickLaws.{first_none, NoneOf}
use Rattle.lists.specs.Once.{count}
use Rattle.lists.specs.Walk.{hop}
use Rattle.lists.specs.WalkLaws.{hop_counted}
use Rattle.virtio.specs.declared.Desc.{Desc}
use Rattle.virtio.specs.declared.Buffer.{Buffer}
use Rattle.virtio.specs.Desc.{no_desc, no_buffer, has_indirect, flags_of}
use Rattle.virtio.specs.Memory.{Memory, avail_flags}
use Rattle.virtio.specs.Sizes.{Has}
use Rattle.rules.specs.declared.Open.{Open}
use Rattle.rules.specs.declared.Open.TheVariants.{Idle, Add, PopIdx, PeekIdx}
use Rattle.rules.specs.Record.{Queue, Counts, Tables, desc_of, next_of, noted_of, outstanding, free_count, free_list, chain_of, is_indirect, is_open, with_call}
use Rattle.rules.specs.WellFormed.{well_formed}
use Rattle.rules.specs.Meaning.{WellFormed, Out}
use Rattle.rules.specs.Answer.{Outcome, refused, unless, BadRecord, BadRegion, Busy}
use Rattle.rules.specs.Step.{store}
use Rattle.rules.specs.Calls.{fits, add_refusal, call_refusal, count_refusal, more?, add_direct, head_desc, add_indirect, add_opened, opened, matches, open_add, open_pop, open_peek, answered, can_pop, should_notify, set_dev_notify, available_desc}
use Rattle.laws.specs.WellFormedIs.{out_means, means_out}
use Rattle.laws.specs.FillLaws.{fill_other}
use Rattle.laws.specs.FreeLaws.{hop_stands}
use Rattle.laws.specs.AddKeeps.{Addable, nexts, noted_new, taken_free, desc_new, direct_others}
use Rattle.laws.specs.ListKeeps.{list_others}
use Rattle.laws.specs.CallKeeps.{Good, none_open, open_pop_keeps, open_peek_keeps}
use Rattle.laws.specs.Opening.{by_opening, addable, open_add_keeps}
use Rattle.laws.specs.Added.{open_done}
use Rattle.laws.specs.Changes.{access_lengths}
use Rattle.laws.specs.Regions.{still_fits}
use Rattle.mixing.specs.Device.{Device}
use Rattle.mixing.specs.Mix.{Call, add, pop_used_call, peek_used_call, can_pop_call, should_notify_call, available_desc_call, set_dev_notify_call, opening}
use Rattle.mixing.specs.Fields.{put, put_changed}
use Rattle.mixing.specs.Facts.{Stage, none, adding, taken, offered, returned, is_out, Notes, DriverAt, Facts}
use Rattle.mixing.specs.Stages.{kind, turned, turned_here, turned_there, turned_keeps, turned_back}
use Rattle.mixing.specs.Shows.{staged_out}
use Rattle.mixing.specs.DriverMoves.{Moves, moved, called, stored_idle}

none_of : (s : Stage) → is_out s ≡ false → s ≡ none
none_of none e = refl
none_of adding e = absurd (true≢false e)
none_of taken e = absurd (true≢false e)
none_of (offered k) e = absurd (true≢false e)
none_of (returned k) e = absurd (true≢false e)

flags_low : (a b : Bool) → flags_of a b false < 4
flags_low true true = omega arith
flags_low true false = omega arith
flags_low false true = omega arith
flags_low false false = omega arith

module _ (base : ℕ) (q : Queue) (m : Memory) (d : Device) (g : Notes) (f : Facts base q m d g) where
  abbrev well : WellFormed q
  well = f.good.well

  abbrev head : ℕ
  head = q.counts.free

  -- what the driver leaves
  abbrev pub Left : Outcome → Type 0
  Left o = (g' : Notes) × Facts base o.queue o.memory d g'

  unless_left : (number : ℕ) (o : Outcome) → (number ≡ 0 → Left o) → Left (unless number q m o)
  unless_left number o a = go (eqb number 0) refl
    where
      go : (b : Bool) → eqb number 0 ≡ b → Left (cond b o (refused number q m))
      go true e = a (eqb-true number 0 e)
      go false e = (g, f)

  -- ---- the opening of an add

  -- the notes after it
  abbrev stage' : ℕ → Stage
  stage' = turned g.stage head adding

  module _ (bs : List Buffer) (a : Addable q bs) where
    -- the free head heads no chain
    head_free : 0 < count head (free_list q)
    unfolding hop
    head_free = let r : q.counts.used < q.n = a.room in hop_counted (next_of q) (free_count q) head 0 head (omega arith) refl

    out_used : (h : ℕ) → Out q h → count h (free_list q) ≡ 0
    unfolding hop
    out_used h o = (hop_stands q well h 0 o.below (let n : (noted_of q h ≡ 0 → ⊥) = o.noted in omega arith)).not_front

    head_none : outstanding q head ≡ false
    head_none =
        by_test (outstanding q head)
        (λ e. absurd (let z : count head (free_list q) ≡ 0 = out_used head (out_means q head e) in let y : 0 < count head
        (free_list q) = head_free in omega arith))
        (λ e. e)

    not_head : (h : ℕ) → Out q h → h ≡ head → ⊥
    not_head h o e =
        let z : count h (free_list q) ≡ 0 = out_used h o in let y : 0 < count head (free_list q) = head_free in let x : count h
        (free_list q) ≡ count head (free_list q) = ap (λ v. count v (free_list q)) e in omega arith

    stage_none : g.stage head ≡ none
    stage_none = none_of (g.stage head) (sym (f.outs head) ∙ head_none)

    not_none : (s : Stage) → (none ≡ s → ⊥) → g.stage head ≡ s → ⊥
    not_none s n z = n (sym stage_none ∙ z)

    -- what is asked of the record opened, direct or indirect
    module _ (c : Counts) (t : Tables) where
      abbrev r : Queue
      r = record { n = q.n; modes = q.modes; base = q.base; counts = c; tables = t; call = Add head 0 }

      record Opened : Type 0 where
        avail : c.avail ≡ q.counts.avail
        last : c.last ≡ q.counts.last
        noted : (h : ℕ) → (h ≡ head → ⊥) → noted_of r h ≡ noted_of q h
        chain : (h : ℕ) → Out q h → (chain_of r h ≡ chain_of q h) × (desc_of r h ≡ desc_of q h)
        flags : is_indirect r head ≡ false → (j : ℕ) → j < noted_of r head → (desc_of r (hop (next_of r) j head)).flags < 4

      opens : Good r → Opened → Moves base q m d g f c t (Add head 0) g.pops stage'
      opens k o = record {
        good = k;
        avail = o.avail;
        last = o.last ∙ f.last;
        more = omega arith;
        most = f.popped;
        outs = λ h. by_eq h head
            (λ z. ap (outstanding r) z ∙ means_out r head k.well.call.head ∙ sym (ap is_out (turned_here g.stage head adding h z)))
            (λ z. ap (λ y. ltb h q.n && not (eqb y 0)) (o.noted h z) ∙ f.outs h ∙ sym (ap is_out (turned_there g.stage head adding h z)));
        held = λ h z. turned_keeps g.stage head adding h taken z (not_none taken (λ y. let x : ◌≡◌ {A = ℕ} 0 2 = ap kind y in omega arith));
        offers = λ h j z. turned_keeps g.stage head adding h (offered j) z
            (not_none (offered j) (λ y. let x : ◌≡◌ {A = ℕ} 0 3 = ap kind y in omega arith));
        back = λ h j z. (turned_back g.stage head adding h (offered j) z (λ y. let x : ◌≡◌ {A = ℕ} 1 3 = ap kind y in omega arith)).0;
        returns = λ h j l z. turned_keeps g.stage head adding h (returned j) z
            (not_none (returned j) (λ y. let x : ◌≡◌ {A = ℕ} 0 4 = ap kind y in omega arith));
        chain = λ h j z. o.chain h (staged_out q m d g f h (ap is_out z));
      }

      opened_facts : Good r → Opened → Facts base r m d (record { adds = g.adds; takes = g.takes; uses = g.uses; pops = g.pops; stage = stage' })
      opened_facts k o =
          moved base q m d g f c t (Add head 0) g.pops stage' (opens k o) (
            turned_here g.stage head adding head refl,
            record {
              flags = o.flags;
              table = λ j l u. absurd (omega arith);
              last = λ u. absurd (omega arith);
              list = λ i j l u. absurd (omega arith);
              slot = λ u. absurd (omega arith);
            },
          )

    -- ---- direct

    module _ (x : (q.modes.indirect ≡ false) ⊎ (length bs ≡ 1)) where
      abbrev direct : Queue
      direct = add_direct q bs

      direct_opened : Opened direct.counts direct.tables
      direct_opened = record {
        avail = refl;
        last = refl;
        noted = λ h z. get_or-set_other q.tables.noted head h (length bs) 0 z;
        chain = λ h o. (
          (direct_others q bs f.good.held well a x h o).0,
          fill_other (next_of q) q.tables.shadow head bs (λ j. refl) h (let z = taken_free q bs f.good.held well a x h in let y = out_used h o in omega arith),
        );
        flags = λ i j l.
            let b : j < length bs = subst (λ z. j < z) (noted_new q bs f.good.held well a x) l in
            let e : (desc_of direct (hop (next_of direct) j head)).flags ≡ flags_of (more? (drop (suc j) bs)) (get_or bs j no_buffer).output false =
            ap (λ (z : ℕ → ℕ). (desc_of direct (hop z j head)).flags) (nexts q bs f.good.held well a x)
            ∙ ap (λ (z : Desc). z.flags) (desc_new q bs f.good.held well a x j b) in
            subst (λ z. z < 4) (sym e) (flags_low (more? (drop (suc j) bs)) (get_or bs j no_buffer).output);
      }

    -- ---- indirect

    module _ (i : q.modes.indirect ≡ true) (l : 1 < length bs) where
      abbrev indirect : Queue
      indirect = add_indirect q bs

      head_list : is_indirect indirect head ≡ true
      head_list =
          ap has_indirect (get_or-set_same q.tables.shadow head (head_desc q head (length bs)) no_desc
          (let b : head < q.n = well.free in let z : q.n ≤ length q.tables.shadow = f.good.held.shadow in omega arith))

      list_opened : Opened indirect.counts indirect.tables
      list_opened = record {
        avail = refl;
        last = refl;
        noted = λ h z. get_or-set_other q.tables.noted head h 1 0 z;
        chain = λ h o. (
          (list_others q bs f.good.held well a i l h o).0,
          get_or-set_other q.tables.shadow head h
              (head_desc q head (length bs)) no_desc (not_head h o),
        );
        flags = λ z j u. absurd (true≢false (sym head_list ∙ z));
      }

    add_opened_lem : Good (add_opened q bs)
        → Facts base (add_opened q bs) m d (record { adds = g.adds; takes = g.takes; uses = g.uses; pops = g.pops; stage = stage' })
    add_opened_lem =
        by_opening q bs a (λ r. Good r → Facts base r m d
        (record { adds = g.adds; takes = g.takes; uses = g.uses; pops = g.pops; stage = stage' }))
        (λ i l k. opened_facts (add_indirect q bs).counts (add_indirect q bs).tables k (list_opened i l))
        (λ x k. opened_facts (add_direct q bs).counts (add_direct q bs).tables k (direct_opened x))

  add_left : (bs : List Buffer) → Left (open_add q m bs)
  unfolding open_add
  add_left bs =
      unless_left (add_refusal q m bs) (opened (add_opened q bs) m)
      (λ e. (
        _,
        add_opened_lem bs (addable q m bs well e)
            (subst (λ o. Good o.queue) (open_done q m bs f.good e) (open_add_keeps q m bs f.good)),
      ))

  -- ---- pop, peek, and the calls of a single step

  -- with none of the refusals nothing is open
  idle : call_refusal q m ≡ 0 → q.call ≡ Idle
  idle e =
      let ts : List Test = (BadRecord when not (well_formed q)) ∷ (BadRegion when not (fits q m)) ∷ (Busy when is_open q.call) ∷ [] in
      let n : NoneOf ts = first_none ts (omega arith) e in
      none_open q.call n.1.1.0

  call_left : (o : Open) → ((x : Notes) → DriverAt base (with_call q o) m x o) → Good (unless (call_refusal q m) q m (opened (with_call q o) m)).queue
      → Left (unless (call_refusal q m) q m (opened (with_call q o) m))
  call_left o a k = go (eqb (call_refusal q m) 0) k
    where
      go : (b : Bool) → Good (cond b (opened (with_call q o) m) (refused (call_refusal q m) q m)).queue
          → Left (cond b (opened (with_call q o) m) (refused (call_refusal q m) q m))
      go true y = (g, called base q m d g f o y (a g))
      go false y = (g, f)

  notified : (v : ℕ) → call_refusal q m ≡ 0 → Facts base q (put q avail_flags v m) d g
  unfolding Has
  notified v e =
      stored_idle base q m d g f avail_flags (put q avail_flags v m) tt refl tt (put_changed q avail_flags v m)
      (still_fits q q (put q avail_flags v m) m (record { n = refl; modes = refl }) (access_lengths q m (store avail_flags v)) ∙ f.fit)
      (subst (λ c. DriverAt base q (put q avail_flags v m) g c) (sym (idle e)) tt)

  notify_left : (b : Bool) → Left (set_dev_notify q m b)
  unfolding set_dev_notify
  notify_left b = unless_left (call_refusal q m) _ (λ e. go q.modes.event_idx e)
    where
      go : (x : Bool) → call_refusal q m ≡ 0 → Left (cond x (answered 0 0 q m) (answered 1 0 q (put q avail_flags (cond b 0 1) m)))
      go true e = (g, f)
      go false e = (g, notified (cond b 0 1) e)

  -- THE LAW
  pub opening_left : (c : Call) → Left (opening c q m)
  unfolding open_pop open_peek can_pop should_notify available_desc
  opening_left (add bs) = add_left bs
  opening_left (pop_used_call t bs) = call_left (PopIdx t (matches q t bs)) (λ x. tt) (open_pop_keeps q m t bs f.good)
  opening_left peek_used_call = call_left PeekIdx (λ x. tt) (open_peek_keeps q m f.good)
  opening_left can_pop_call = unless_left (call_refusal q m) _ (λ e. (g, f))
  opening_left should_notify_call = unless_left (call_refusal q m) _ (λ e. (g, f))
  opening_left available_desc_call = unless_left (count_refusal q) _ (λ e. (g, f))
  opening_left (set_dev_notify_call b) = notify_left b
