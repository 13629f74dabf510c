-- Poll and release, exactly: each refusal, nothing ready, number 4, a buffer shown; and what number 10 and a buffer given back leave in record and memory,
-- which proofs/ shows.
use Rattle.std.specs.Prelude.{None, ◌≡◌, refl, true, false, not, List, [], ◌∷◌, ℕ, ◌+◌, ◌*◌, ◌≤◌, ◌<◌, ltb, leb, eqb}
use Rattle.std.proofs.Common.{sym, ap₂, subst, ◌∙◌, inl, inr, arith, lt-ltb, le-ltb, le-leb, eq-eqb, ne_eqb}
use Rattle.std.proofs.Math.Path.{ap}
use Rattle.std.proofs.Math.Bool.{cond}
use Rattle.lists.specs.Pick.{◌when◌}
use Rattle.lists.specs.PickLaws.{none_first}
use Rattle.lists.specs.Tests.{by_eq, and_both}
use Rattle.virtio.specs.Memory.{Memory}
use Rattle.rules.specs.declared.Open.TheVariants.{Idle, PopIdx}
use Rattle.rules.specs.Record.{Queue, noted_of, outstanding, buffers_of, is_open, is_add, with_call}
use Rattle.rules.specs.WellFormed.{store_steps}
use Rattle.rules.specs.Answer.{Outcome, WrongToken, NotOutstanding, Mismatch, OverLength, Busy, BadRecord, BadRegion}
use Rattle.rules.specs.Step.{token_of, freed, stored_count}
use Rattle.rules.specs.Calls.{fits, call_tests, call_refusal, same_list, matches, opened, pop_used, add}
use Rattle.rules.specs.Owning.{holds, Owning, Owned, part, no_view, own_buffer, own_list, holds_none, own_well_formed, own_fits, poll_refusal, release_refusal}
use Rattle.rules.specs.Owning.{plainly, own_refused, poll_popped, poll_token, poll_ready, poll, released, release}
use Rattle.laws.specs.WellFormedIs.{means_well_formed, means_out}
use Rattle.laws.specs.PopKeeps.{freed_others, freed_token}
use Rattle.laws.specs.CallKeeps.{Good, pop_keeps}
use Rattle.laws.specs.Regions.{moves_fit}
use Rattle.laws.specs.Whole.{pop_is}
use Rattle.laws.specs.Popped.{pop_stored, used_idx_of, used_id_of, used_len_of, pop_verdict, pop_freed, pop_passes}
use Rattle.laws.specs.OwnIs.{Away, InHand, OwnWell, OwnGood, own_means, means_own, means_list, all_away, same_token, same_len}
use Rattle.laws.specs.OwnFree.{away_one, away_plain}
use Rattle.laws.specs.OwnAdds.{one_added, one_published}
use Rattle.laws.specs.OwnViews.{poll_allowed}

-- ---- the refusals, in their order: each alters nothing

module _ (o : Owning) (m : Memory) (s : List ℕ) where
  -- THE LAWS: 12, 13 and 11 of poll
  pub poll_bad_record : own_well_formed o ≡ false → poll_refusal o m s ≡ BadRecord
  poll_bad_record e = rw e

  pub poll_bad_region : own_well_formed o ≡ true → own_fits o m s ≡ false → poll_refusal o m s ≡ BadRegion
  poll_bad_region e f = rw (e, f)

  pub poll_busy : own_well_formed o ≡ true → own_fits o m s ≡ true → holds_none o.held ≡ false → poll_refusal o m s ≡ Busy
  poll_busy e f h = rw (e, f, h)

  pub poll_refused : (poll_refusal o m s ≡ 0 → ⊥) → poll o m s ≡ own_refused o (poll_refusal o m s) m s
  unfolding poll
  poll_refused d =
      ap (λ b. cond b (poll_ready o m s) (own_refused o (poll_refusal o m s) m s)) (ne_eqb (poll_refusal o m s) 0 d)

  poll_goes : poll_refusal o m s ≡ 0 → poll o m s ≡ poll_ready o m s
  unfolding poll
  poll_goes e =
      ap (λ b. cond b (poll_ready o m s) (own_refused o (poll_refusal o m s) m s)) (eq-eqb (poll_refusal o m s) 0 e)

  -- THE LAWS: 12, 13 and 8 of release
  pub release_bad_record : own_well_formed o ≡ false → release_refusal o m s ≡ BadRecord
  release_bad_record e = rw e

  pub release_bad_region : own_well_formed o ≡ true → own_fits o m s ≡ false → release_refusal o m s ≡ BadRegion
  release_bad_region e f = rw (e, f)

  pub release_none : own_well_formed o ≡ true → own_fits o m s ≡ true → holds_none o.held ≡ true → release_refusal o m s ≡ NotOutstanding
  release_none e f h = rw (e, f, h)

  pub release_refused : (release_refusal o m s ≡ 0 → ⊥) → release o m s ≡ own_refused o (release_refusal o m s) m s
  unfolding release
  release_refused d =
      ap (λ b. cond b (released o o.held m s) (own_refused o (release_refusal o m s) m s)) (ne_eqb (release_refusal o m s) 0 d)

  pub release_goes : release_refusal o m s ≡ 0 → release o m s ≡ released o o.held m s
  unfolding release
  release_goes e =
      ap (λ b. cond b (released o o.held m s) (own_refused o (release_refusal o m s) m s)) (eq-eqb (release_refusal o m s) 0 e)

-- ---- a buffer given back

-- the record and the memory with the buffer of token t added to the queue q
abbrev pub given_back : Owning → ℕ → Queue → Queue
given_back o t q = one_added q (own_buffer o.base o.size t)

abbrev pub republished : Owning → ℕ → Queue → Memory → Memory
republished o t q m = one_published q (own_buffer o.base o.size t) m

-- ---- poll

module _ (o : Owning) (m : Memory) where
  -- the token that the waiting element names, and the length that the device reports
  abbrev pub poll_named : ℕ
  poll_named = token_of (used_id_of o.queue m)

  abbrev pub poll_len : ℕ
  poll_len = used_len_of o.queue m

  -- the record and the memory with that token's buffer popped
  abbrev pub taken_out : Queue
  taken_out = with_call (freed o.queue poll_named) Idle

  abbrev pub taken_memory : Memory
  taken_memory = pop_stored (freed o.queue poll_named) 1 m

module _ (o : Owning) (m : Memory) (s : List ℕ) where
  -- the answer with that buffer held, and its first bytes shown, as many as the device reported
  abbrev pub poll_shown : Owned
  poll_shown = record {
    answer = 0;
    value = poll_named o m;
    view = part (poll_named o m * o.size) (poll_len o m);
    owning = record { queue = taken_out o m; base = o.base; size = o.size; held = holds (poll_named o m) (poll_len o m) };
    memory = taken_memory o m;
    store = s;
  }

  -- the answer with that buffer added again under its token
  abbrev pub poll_again : Owned
  poll_again = record {
    answer = OverLength;
    value = 0;
    view = no_view;
    owning = record { queue = given_back o (poll_named o m) (taken_out o m); base = o.base; size = o.size; held = None };
    memory = republished o (poll_named o m) (taken_out o m) (taken_memory o m);
    store = s;
  }

  -- what a poll comes to, from the numbers that there are to load
  abbrev pub poll_end : Owned
  poll_end =
      cond (eqb (poll_refusal o m s) 0)
      (cond (eqb (used_idx_of o.queue m) o.queue.counts.last) (own_refused o 0 m s)
      (cond (ltb (poll_named o m) o.queue.n)
      (cond (leb (poll_len o m) o.size) poll_shown poll_again)
      (own_refused o WrongToken m s)))
      (own_refused o (poll_refusal o m s) m s)

module _ (o : Owning) (m : Memory) (s : List ℕ) (e : poll_refusal o m s ≡ 0) where
  -- THE LAW: nothing ready is answer 0 with no view, and alters nothing
  pub poll_nothing : used_idx_of o.queue m ≡ o.queue.counts.last → poll o m s ≡ own_refused o 0 m s
  poll_nothing i =
      poll_goes o m s e
      ∙ ap (λ b. cond b (own_refused o 0 m s) (poll_token o (poll_named o m) m s)) (eq-eqb (used_idx_of o.queue m) o.queue.counts.last i)

  module _ (d : used_idx_of o.queue m ≡ o.queue.counts.last → ⊥) where
    pub poll_named_lem : poll o m s ≡ poll_token o (poll_named o m) m s
    poll_named_lem =
        poll_goes o m s e
        ∙ ap (λ b. cond b (own_refused o 0 m s) (poll_token o (poll_named o m) m s)) (ne_eqb (used_idx_of o.queue m) o.queue.counts.last d)

    -- THE LAW: an id that is, mod 65,536, at or above n is 4, and alters nothing
    pub poll_wrong : o.queue.n ≤ poll_named o m → poll o m s ≡ own_refused o WrongToken m s
    poll_wrong u =
        let t : ℕ = poll_named o m in
        let x : Owned = poll_popped o (pop_used o.queue m t (own_list o t)) t s in
        poll_named_lem ∙ ap (λ b. cond b x (own_refused o WrongToken m s)) (le-ltb (poll_named o m) o.queue.n u)

    module _ (g : OwnGood o) (b : poll_named o m < o.queue.n) where
      abbrev q : Queue
      q = o.queue

      abbrev t : ℕ
      t = poll_named o m

      w : OwnWell o
      w = own_means o g.well

      away : Away o t
      away = all_away o w (poll_allowed o m s e).none t b

      -- the queue's pop is not refused, and its checks pass
      call_goes : call_refusal q m ≡ 0
      call_goes =
          none_first (call_tests q (fits q m))
          (ap not (means_well_formed q g.good.well), (ap not (poll_allowed o m s e).fit, (ap is_open w.idle, tt)))

      matched : matches q t (own_list o t) ≡ true
      matched =
          and_both (outstanding q t) (same_list (buffers_of q t) (own_list o t)) (means_out q t away.out)
          (means_list (buffers_of q t) (own_list o t) away.list)

      checked : pop_verdict q m t (own_list o t) ≡ 0
      checked =
          none_first
          ((WrongToken when not (eqb t t)) ∷ (NotOutstanding when not (outstanding q t)) ∷ (Mismatch when not (matches q t (own_list o t))) ∷ [])
          (ap not (eq-eqb t t refl), (ap not (means_out q t away.out), (ap not matched, tt)))

      stored_one : stored_count q t ≡ 1
      stored_one = ap₂ (λ c k. cond c 0 k) (away_plain o w t away) (away_one o w t away)

      -- so it takes the buffer out
      abbrev pub taken : Outcome
      taken =
          record { answer = 0; value = poll_len o m; steps = 3 + store_steps o.queue 1; queue = taken_out o m; memory = taken_memory o m }

      pub popped : pop_used o.queue m (poll_named o m) (own_list o (poll_named o m)) ≡ taken
      popped =
          pop_passes q m t (own_list o t) call_goes g.good d checked
          ∙ ap (λ k. pop_freed q m t (own_list o t) (3 + store_steps q k) (pop_stored (freed q t) k m)) stored_one

      pub poll_pops : poll o m s ≡ poll_popped o taken t s
      poll_pops =
          poll_named_lem
          ∙ ap (λ c. cond c (poll_popped o (pop_used q m t (own_list o t)) t s) (own_refused o WrongToken m s)) (lt-ltb t q.n b)
          ∙ ap (λ p. poll_popped o p t s) popped

      taken_good : Good (taken_out o m)
      taken_good = subst (λ (r : Outcome). Good r.queue) popped (pop_keeps q m t (own_list o t) g.good)

      pub taken_fit : fits (taken_out o m) (taken_memory o m) ≡ true
      taken_fit =
          ap (λ (r : Outcome). fits r.queue r.memory) (sym popped ∙ pop_is q m t (own_list o t) call_goes)
          ∙ moves_fit (q.n + 4) (opened (with_call q (PopIdx t (matches q t (own_list o t)))) m)
          ∙ (poll_allowed o m s e).fit

      -- the record in which it is held
      module _ (l : ℕ) (v : l ≤ o.size) where
        abbrev p : Owning
        p = record { queue = taken_out o m; base = o.base; size = o.size; held = holds t l }

        not_adding : is_add q.call ≡ false
        not_adding = ap is_add w.idle

        pub in_hand : (h k : ℕ) → h < q.n → p.held ≡ holds h k → InHand p h
        in_hand h k c f =
            let x : h ≡ t = same_token h k t l (sym f) in
            let y : l ≡ k = same_len t l h k f in
            record {
              below = c;
              len = k;
              held = f;
              within = omega arith;
              not_out =
                  λ z. z.noted (ap (noted_of (freed q t)) x ∙ freed_token q t g.good.held g.good.well away.out not_adding);
            }

        still_away : (h : ℕ) → h < q.n → (h ≡ t → ⊥) → Away p h
        still_away h c n =
            let a : Away o h = all_away o w (poll_allowed o m s e).none h c in
            let k = freed_others q t g.good.held g.good.well away.out not_adding h a.out n in
            record { out = record { below = c; noted = λ z. a.out.noted (sym k.2 ∙ z) }; list = k.1 ∙ a.list }

        held_well : OwnWell p
        held_well = record {
          queue = taken_good.well;
          idle = refl;
          based = w.based;
          some = w.some;
          most = w.most;
          tokens = λ h c. by_eq h t (λ x. inr (in_hand h l c (ap (λ k. holds k l) (sym x)))) (λ n. inl (still_away h c n));
          holding = λ h k f. in_hand h k (let x : h ≡ t = same_token h k t l (sym f) in let y : t < q.n = b in omega arith) f;
        }

        pub held_good : OwnGood p
        held_good = record { good = taken_good; well = means_own p held_well }

      -- the buffer added again at once
      abbrev pub over : Owned
      over =
          let again : Outcome = add (taken_out o m) (taken_memory o m) (own_list o t) in
          plainly o OverLength 0 again.queue None again.memory s

      -- THE LAWS: with a length within the size the buffer is popped and held, and its first bytes are shown, as many as the device reported
      pub poll_shows : poll_len o m ≤ o.size → poll o m s ≡ poll_shown o m s
      poll_shows l =
          poll_pops
          ∙ ap (λ c. cond c (poll_shown o m s) over)
          (le-leb (poll_len o m) o.size l)

      pub poll_shows_good : poll_len o m ≤ o.size → OwnGood (poll o m s).owning
      poll_shows_good l = subst (λ (r : Owned). OwnGood r.owning) (sym (poll_shows l)) (held_good (poll_len o m) l)
