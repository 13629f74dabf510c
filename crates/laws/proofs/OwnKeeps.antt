-- Every call of the owning queue leaves a good record good, whatever the device writes. So no buffer is lost or doubled.
use Rattle.std.specs.Prelude.{Option, None, Some, ◌≡◌, refl, ◌⊎◌, false, List, [], ◌∷◌, ℕ, ◌≤◌, ◌<◌, ltb, leb}
use Rattle.std.proofs.Common.{ap₂, ◌∙◌, inl, inr, arith, ltb-true, ltb-false, leb-true, leb-false}
use Rattle.std.proofs.Math.Path.{ap}
use Rattle.std.proofs.Math.Bool.{cond}
use Rattle.lists.specs.Tests.{by_test, by_eq}
use Rattle.virtio.specs.Memory.{Memory}
use Rattle.rules.specs.declared.Held.{Held}
use Rattle.rules.specs.Owning.{Owning, Owned, own_buffer, holds_none, poll_refusal, release_refusal}
use Rattle.rules.specs.Owning.{poll, release, own_should_notify, own_set_dev_notify}
use Rattle.laws.specs.Popped.{used_idx_of}
use Rattle.laws.specs.OwnIs.{Away, InHand, OwnGood, each_token}
use Rattle.laws.specs.OwnViews.{release_allowed}
use Rattle.laws.specs.OwnPoll.{poll_named, poll_len, poll_refused, poll_nothing, poll_wrong, poll_shows, poll_shows_good}
use Rattle.laws.specs.OwnPoll.{release_refused}
use Rattle.laws.proofs.OwnPoll.{poll_over, poll_over_good, release_done, release_good}
use Rattle.laws.specs.OwnKeeps.{Keeps, as_was, should_notify_keeps, set_notify_keeps, EveryOwned, Still, OneEach, OwnCall, polls, releases, asks, orders, called, after_all, Lasts}

-- ---- what each call keeps

module _ (o : Owning) (m : Memory) (s : List ℕ) (g : OwnGood o) where
  -- one that is known, and whose record is good
  known
      : (r x : Owned)
      → r ≡ x
      → OwnGood r.owning
      → x.owning.queue.n ≡ o.queue.n
      → x.owning.base ≡ o.base
      → x.owning.size ≡ o.size
      → x.store ≡ s
      → Keeps o s r
  known r x e h a b c d = record {
    good = h;
    n = ap (λ (y : Owned). y.owning.queue.n) e ∙ a;
    base = ap (λ (y : Owned). y.owning.base) e ∙ b;
    size = ap (λ (y : Owned). y.owning.size) e ∙ c;
    store = ap (λ (y : Owned). y.store) e ∙ d;
  }

  -- THE LAWS
  pub poll_keeps : Keeps o s (poll o m s)
  poll_keeps =
      by_eq (poll_refusal o m s) 0
      (λ e. by_eq (used_idx_of o.queue m) o.queue.counts.last
      (λ i. as_was o m s g (poll o m s) 0 (poll_nothing o m s e i))
      (λ d. by_test (ltb (poll_named o m) o.queue.n)
      (λ l. let b : poll_named o m < o.queue.n = ltb-true (poll_named o m) o.queue.n l in
      by_test (leb (poll_len o m) o.size)
      (λ v. let u : poll_len o m ≤ o.size = leb-true (poll_len o m) o.size v in
      known (poll o m s) _ (poll_shows o m s e d g b u) (poll_shows_good o m s e d g b u) refl refl refl refl)
      (λ v. let u : o.size < poll_len o m = leb-false (poll_len o m) o.size v in
      known (poll o m s) _ (poll_over o m s e d g b u) (poll_over_good o m s e d g b u) refl refl refl refl))
      (λ l. as_was o m s g (poll o m s) 4 (poll_wrong o m s e d (ltb-false (poll_named o m) o.queue.n l)))))
      (λ e. as_was o m s g (poll o m s) (poll_refusal o m s) (poll_refused o m s e))

  release_held : release_refusal o m s ≡ 0 → (x : Option Held) → o.held ≡ x → holds_none x ≡ false → Keeps o s (release o m s)
  release_held e None f z = absurd (let y : ◌≡◌ {A = ℕ} 0 1 = ap (λ b. cond b 0 1) z in omega arith)
  release_held e (Some h) f z =
      known (release o m s) _ (release_done o m s g e h.token h.len f) (release_good o m s g e h.token h.len f) refl refl refl refl

  pub release_keeps : Keeps o s (release o m s)
  release_keeps =
      by_eq (release_refusal o m s) 0
      (λ e. release_held e o.held refl (release_allowed o m s e).some)
      (λ e. as_was o m s g (release o m s) (release_refusal o m s) (release_refused o m s e))

-- ---- every call

-- THE LAW: every call keeps a good record good
pub own_every_keeps : (o : Owning) (m : Memory) (s : List ℕ) → OwnGood o → EveryOwned (Keeps o s) o m s
own_every_keeps o m s g = record {
  after_poll = poll_keeps o m s g;
  after_release = release_keeps o m s g;
  after_should_notify = should_notify_keeps o m s g;
  after_set_notify = set_notify_keeps o m s g;
}

-- ---- no buffer is lost or doubled

one_each : (o : Owning) (s : List ℕ) (r : Owned) → Keeps o s r → OneEach o r
one_each o s r k = record { either = λ h b. from h (each_token r.owning k.good h (under h b)); not_both = λ h x y. y.not_out x.out }
  where
    under : (h : ℕ) → h < o.queue.n → h < r.owning.queue.n
    under h b = let e : r.owning.queue.n ≡ o.queue.n = k.n in omega arith

    from : (h : ℕ) → Away r.owning h ⊎ InHand r.owning h → Still o r.owning.queue h ⊎ InHand r.owning h
    from h (inl a) =
        inl (record { out = a.out; list = a.list ∙ ap₂ (λ x y. own_buffer x y h ∷ []) k.base k.size })
    from h (inr x) = inr x

-- THE LAW
pub no_buffer_lost : (o : Owning) (m : Memory) (s : List ℕ) → OwnGood o → EveryOwned (OneEach o) o m s
no_buffer_lost o m s g = record {
  after_poll = one_each o s (poll o m s) (poll_keeps o m s g);
  after_release = one_each o s (release o m s) (release_keeps o m s g);
  after_should_notify = one_each o s (own_should_notify o m s) (should_notify_keeps o m s g);
  after_set_notify = λ wanted. one_each o s (own_set_dev_notify o m s wanted) (set_notify_keeps o m s g wanted);
}

-- ---- any calls, one after the other

lasts : (o : Owning) (s : List ℕ) (r : Owned) → Keeps o s r → Lasts o r.owning
lasts o s r k = record { good = k.good; n = k.n; base = k.base; size = k.size }

called_lasts : (o : Owning) → OwnGood o → (c : OwnCall) → Lasts o (called o c).owning
called_lasts o g (polls m s) = lasts o s (poll o m s) (poll_keeps o m s g)
called_lasts o g (releases m s) = lasts o s (release o m s) (release_keeps o m s g)
called_lasts o g (asks m s) = lasts o s (own_should_notify o m s) (should_notify_keeps o m s g)
called_lasts o g (orders m s wanted) = lasts o s (own_set_dev_notify o m s wanted) (set_notify_keeps o m s g wanted)

-- THE LAW: whatever calls are made, and whatever the device writes before each, a good record stays good
pub own_lasts : (cs : List OwnCall) (o : Owning) → OwnGood o → Lasts o (after_all o cs)
unfolding after_all
own_lasts [] o g = record { good = g; n = refl; base = refl; size = refl }
own_lasts (c ∷ cs) o g =
    let a : Lasts o (called o c).owning = called_lasts o g c in
    let b : Lasts (called o c).owning (after_all (called o c).owning cs) = own_lasts cs (called o c).owning a.good in
    record { good = b.good; n = b.n ∙ a.n; base = b.base ∙ a.base; size = b.size ∙ a.size }
