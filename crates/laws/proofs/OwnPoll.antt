-- Poll and release, exactly: a buffer given back, and one whose length is above the size; and poll in one equation.
use Rattle.std.specs.Prelude.{None, ◌≡◌, refl, Bool, true, false, List, ℕ, ◌*◌, ◌≤◌, ◌<◌, ltb, leb, eqb, length}
use Rattle.std.proofs.Common.{sym, subst, ◌∙◌, arith, eqb-true, ltb-true, ltb-false, leb-true, leb-false}
use Rattle.std.proofs.Math.Path.{ap}
use Rattle.std.proofs.Math.Bool.{cond}
use Rattle.std.proofs.lemmas.Bool.{lt-leb, eqb-false}
use Rattle.virtio.specs.Memory.{Memory}
use Rattle.rules.specs.Record.{Queue}
use Rattle.rules.specs.Answer.{Outcome, OverLength}
use Rattle.rules.specs.Calls.{fits, add}
use Rattle.rules.specs.Owning.{holds, Owning, Owned, no_view, own_buffer, own_list, holds_none, poll_refusal, release_refusal}
use Rattle.rules.specs.Owning.{plainly, poll, released, release}
use Rattle.laws.specs.Popped.{used_idx_of}
use Rattle.laws.specs.OwnIs.{Away, InHand, OwnGood, own_means, all_away}
use Rattle.laws.specs.OwnAdds.{one_outcome}
use Rattle.laws.proofs.OwnAdds.{back_done, back_good}
use Rattle.laws.specs.OwnViews.{ReleaseAllowed, release_allowed, allowed_release}
use Rattle.laws.specs.OwnPoll.{poll_refused, release_goes, given_back, republished, poll_named, poll_len, taken_out, taken_memory, poll_shown, poll_again, poll_end, poll_nothing, poll_wrong, poll_pops, taken_fit, in_hand, held_good, over, poll_shows}

-- ---- release

module _ (o : Owning) (m : Memory) (s : List ℕ) (g : OwnGood o) (e : release_refusal o m s ≡ 0) (t l : ℕ) (h : o.held ≡ holds t l) where
  hand : InHand o t
  hand = (own_means o g.well).holding t l h

  fit : fits o.queue m ≡ true
  fit = (release_allowed o m s e).fit

  -- THE LAW: a release that nothing refuses answers 0 and the held token, and adds that token's buffer again
  pub release_done : release o m s ≡ record {
    answer = 0;
    value = t;
    view = no_view;
    owning = record { queue = given_back o t o.queue; base = o.base; size = o.size; held = None };
    memory = republished o t o.queue m;
    store = s;
  }
  release_done =
      release_goes o m s e
      ∙ ap (λ x. released o x m s) h
      ∙ ap (λ (p : Outcome). plainly o p.answer p.value p.queue None p.memory s) (back_done o g m t hand fit)

  -- THE LAWS: the record is good again, and the token out with its own buffer
  pub release_good : OwnGood (release o m s).owning
  release_good =
      subst OwnGood
      (ap (λ (p : Outcome). record { queue = p.queue; base = o.base; size = o.size; held = None }) (back_done o g m t hand fit)
      ∙ ap (λ (r : Owned). r.owning) (sym release_done))
      (back_good o g m t hand fit)

  pub release_away : Away (release o m s).owning t
  release_away =
      let p : Owning = (release o m s).owning in
      let k : p.queue.n ≡ o.queue.n = ap (λ (r : Owned). r.owning.queue.n) release_done in
      let b : t < o.queue.n = hand.below in
      all_away p (own_means p release_good.well) (ap (λ (r : Owned). r.owning.held) release_done) t (omega arith)

-- THE LAW: a held buffer can always be given back: over memory and a store that do, release answers 0 and the held token
pub release_answers : (o : Owning) (m : Memory) (s : List ℕ) → OwnGood o → fits o.queue m ≡ true → o.queue.n * o.size ≤ length s
    → (t l : ℕ) → o.held ≡ holds t l → ((release o m s).answer ≡ 0) × ((release o m s).value ≡ t)
release_answers o m s g f r t l h =
    let a : ReleaseAllowed o m s = record { well = g.well; fit = f; room = r; some = ap holds_none h } in
    let e = release_done o m s g (allowed_release o m s a) t l h in
    (ap (λ (x : Owned). x.answer) e, ap (λ (x : Owned). x.value) e)

-- ---- poll

module _ (o : Owning) (m : Memory) (s : List ℕ) (e : poll_refusal o m s ≡ 0) (d : used_idx_of o.queue m ≡ o.queue.counts.last → ⊥) (g : OwnGood o) (b : poll_named o m < o.queue.n) where
  abbrev q : Queue
  q = o.queue

  abbrev t : ℕ
  t = poll_named o m

  -- the record in which the buffer is held with no byte shown
  abbrev p : Owning
  p = record { queue = taken_out o m; base = o.base; size = o.size; held = holds t 0 }

  -- that is as if it had been held with no byte shown, and released
  none : 0 ≤ o.size
  none = omega arith

  again_done
      : add (taken_out o m) (taken_memory o m) (own_list o t)
      ≡ one_outcome (taken_out o m) (own_buffer o.base o.size t) (taken_memory o m) t
  again_done = back_done p (held_good o m s e d g b 0 none) (taken_memory o m) t (in_hand o m s e d g b 0 none t 0 b refl) (taken_fit o m s e d g b)

  -- THE LAWS: a length above the size is 10 with no view, and the buffer is popped and added again under the same token
  pub poll_over : o.size < poll_len o m → poll o m s ≡ poll_again o m s
  poll_over l =
      poll_pops o m s e d g b
      ∙ ap (λ c. cond c (poll_shown o m s) (over o m s e d g b))
      (lt-leb (poll_len o m) o.size l)
      ∙ ap (λ (r : Outcome). plainly o OverLength 0 r.queue None r.memory s) again_done

  pub poll_over_good : o.size < poll_len o m → OwnGood (poll o m s).owning
  poll_over_good l =
      subst OwnGood
      (ap (λ (r : Outcome). record { queue = r.queue; base = o.base; size = o.size; held = None }) again_done
      ∙ ap (λ (r : Owned). r.owning) (sym (poll_over l)))
      (back_good p (held_good o m s e d g b 0 none) (taken_memory o m) t (in_hand o m s e d g b 0 none t 0 b refl) (taken_fit o m s e d g b))

  -- and is out again, whole
  pub poll_over_away : o.size < poll_len o m → Away (poll o m s).owning (poll_named o m)
  poll_over_away l =
      let r : Owning = (poll o m s).owning in
      let k : r.queue.n ≡ q.n = ap (λ (x : Owned). x.owning.queue.n) (poll_over l) in
      let c : t < q.n = b in
      all_away r (own_means r (poll_over_good l).well) (ap (λ (x : Owned). x.owning.held) (poll_over l)) t (omega arith)

-- ---- poll in one equation

chosen : (b : Bool) (r x y : Owned) → (b ≡ true → r ≡ x) → (b ≡ false → r ≡ y) → r ≡ cond b x y
chosen true r x y f g = f refl
chosen false r x y f g = g refl

-- THE LAW of poll
pub poll_closed : (o : Owning) (m : Memory) (s : List ℕ) → OwnGood o → poll o m s ≡ poll_end o m s
poll_closed o m s g =
    let q : Queue = o.queue in
    chosen (eqb (poll_refusal o m s) 0) (poll o m s) _ _
    (λ e. let r : poll_refusal o m s ≡ 0 = eqb-true (poll_refusal o m s) 0 e in
    chosen (eqb (used_idx_of q m) q.counts.last) (poll o m s) _ _
    (λ i. poll_nothing o m s r (eqb-true (used_idx_of q m) q.counts.last i))
    (λ i. let d : (used_idx_of q m ≡ q.counts.last → ⊥) = eqb-false (used_idx_of q m) q.counts.last i in
    chosen (ltb (poll_named o m) q.n) (poll o m s) _ _
    (λ l. let b : poll_named o m < q.n = ltb-true (poll_named o m) q.n l in
    chosen (leb (poll_len o m) o.size) (poll o m s) _ _
    (λ v. poll_shows o m s r d g b (leb-true (poll_len o m) o.size v))
    (λ v. poll_over o m s r d g b (leb-false (poll_len o m) o.size v)))
    (λ l. poll_wrong o m s r d (ltb-false (poll_named o m) q.n l))))
    (λ e. poll_refused o m s (eqb-false (poll_refusal o m s) 0 e))
