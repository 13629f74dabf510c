-- What is shown: what it is that the view of a poll lies inside its own token's buffer, which proofs/ shows; no other call has a view; and what is viewed
-- of any record and store are bytes of the held buffer, or none.
use Rattle.std.specs.Prelude.{Option, None, Some, ◌≡◌, ◌⊎◌, Bool, true, false, cond, ◌&&◌, List, [], ℕ, ◌+◌, ◌*◌, ◌≤◌, ◌<◌, eqb, length, take, drop}
use Rattle.std.proofs.Math.Path.{refl}
use Rattle.std.proofs.Common.{ap, ◌∙◌, inl, inr, arith}
use borrow.Author.Tests.{le-leb, leb-true, not-false}
use Rattle.lists.specs.PickLaws.{first_none}
use Rattle.lists.specs.Tests.{by_test, and_left, and_right, and_both}
use Rattle.virtio.specs.Memory.{Memory}
use Rattle.rules.specs.declared.Held.{Held}
use Rattle.rules.specs.Record.{Queue}
use Rattle.rules.specs.Calls.{fits}
use Rattle.rules.specs.Owning.{holds, Owning, no_view, shown, Owned, holds_none, own_well_formed, own_new_refusal, own_new}
use Rattle.rules.specs.Owning.{store_fits, own_fits, poll_tests, poll_refusal, release_tests, release_refusal}
use Rattle.rules.specs.Owning.{released, release, own_should_notify, own_set_dev_notify, held_part, own_view}
use Rattle.laws.specs.OwnIs.{InHand, own_means, slot_ends}

-- ---- what is so of a poll and of a release that nothing refuses

pub record PollAllowed (o : Owning) (m : Memory) (s : List ℕ) : Type 0 where
  pub well : own_well_formed o ≡ true
  pub fit : fits o.queue m ≡ true
  pub room : o.queue.n * o.size ≤ length s
  pub none : o.held ≡ None

pub record ReleaseAllowed (o : Owning) (m : Memory) (s : List ℕ) : Type 0 where
  pub well : own_well_formed o ≡ true
  pub fit : fits o.queue m ≡ true
  pub room : o.queue.n * o.size ≤ length s
  pub some : holds_none o.held ≡ false

nothing_held : (x : Option Held) → holds_none x ≡ true → x ≡ None
nothing_held None e = refl
nothing_held (Some h) e = absurd (let z : ◌≡◌ {A = ℕ} 0 1 = ap (λ b. cond b 1 0) e in omega arith)

module _ (o : Owning) (m : Memory) (s : List ℕ) where
  fit_of : own_fits o m s ≡ true → fits o.queue m ≡ true
  fit_of e = and_left (fits o.queue m) (store_fits o s) e

  room_of : own_fits o m s ≡ true → o.queue.n * o.size ≤ length s
  room_of e = leb-true (o.queue.n * o.size) (length s) (and_right (fits o.queue m) (store_fits o s) e)

  pub poll_allowed : poll_refusal o m s ≡ 0 → PollAllowed o m s
  poll_allowed e =
      let t = first_none (poll_tests o (own_fits o m s)) (omega arith) e in
      let f : own_fits o m s ≡ true = not-false (own_fits o m s) t.1.0 in
      record {
        well = not-false (own_well_formed o) t.0;
        fit = fit_of f;
        room = room_of f;
        none = nothing_held o.held (not-false (holds_none o.held) t.1.1.0);
      }

  pub release_allowed : release_refusal o m s ≡ 0 → ReleaseAllowed o m s
  release_allowed e =
      let t = first_none (release_tests o (own_fits o m s)) (omega arith) e in
      let f : own_fits o m s ≡ true = not-false (own_fits o m s) t.1.0 in
      record { well = not-false (own_well_formed o) t.0; fit = fit_of f; room = room_of f; some = t.1.1.0 }

-- and the other way round: it is refused by nothing else
module _ (o : Owning) (m : Memory) (s : List ℕ) where
  fits_if : fits o.queue m ≡ true → o.queue.n * o.size ≤ length s → own_fits o m s ≡ true
  fits_if f r =
      and_both (fits o.queue m) (store_fits o s) f (le-leb (o.queue.n * o.size) (length s) r)

  pub allowed_poll : PollAllowed o m s → poll_refusal o m s ≡ 0
  allowed_poll a = rw (a.well, fits_if a.fit a.room, a.none)

  pub allowed_release : ReleaseAllowed o m s → release_refusal o m s ≡ 0
  allowed_release a = rw (a.well, fits_if a.fit a.room, a.some)

-- ---- what the view of a poll is

-- the answer r shows count bytes from an offset on: they lie inside the buffer of one token, which is the value answered, and which the caller
-- now holds with so many bytes; all buffers, and so that one, lie inside the store, and the store is as it was
pub record InBuffer (o : Owning) (s : List ℕ) (r : Owned) (from count : ℕ) : Type 0 where
  pub token : ℕ
  pub below : token < o.queue.n
  pub starts : from ≡ token * o.size
  pub most : count ≤ o.size
  pub room : o.queue.n * o.size ≤ length s
  pub buffer : token * o.size + o.size ≤ length s
  pub inside : from + count ≤ length s
  pub answer : r.answer ≡ 0
  pub value : r.value ≡ token
  pub held : r.owning.held ≡ holds token count
  pub store : r.store ≡ s

-- ---- no call but poll has a view

-- of two answers without a view, neither has one
blind : (b : Bool) (x y : Owned) → x.view ≡ no_view → y.view ≡ no_view → (cond b x y).view ≡ no_view
blind true x y f g = f
blind false x y f g = g

module _ (o : Owning) (m : Memory) (s : List ℕ) where
  -- THE LAWS

  released_blind : (x : Option Held) → (released o x m s).view ≡ no_view
  released_blind None = refl
  released_blind (Some h) = refl

  pub release_no_view : (release o m s).view ≡ no_view
  unfolding release
  release_no_view = blind (eqb (release_refusal o m s) 0) _ _ (released_blind o.held) refl

  pub should_notify_no_view : (own_should_notify o m s).view ≡ no_view
  unfolding own_should_notify
  should_notify_no_view = blind (own_well_formed o) _ _ refl refl

  pub set_notify_no_view : (wanted : Bool) → (own_set_dev_notify o m s wanted).view ≡ no_view
  unfolding own_set_dev_notify
  set_notify_no_view wanted = blind (own_well_formed o) _ _ refl refl

pub new_no_view : (q : Queue) (base size : ℕ) (m : Memory) (s : List ℕ) → (own_new q base size m s).view ≡ no_view
unfolding own_new
new_no_view q base size m s = blind (eqb (own_new_refusal q base size m s) 0) _ _ refl refl

-- ---- what is viewed, of any record and any store

-- the caller holds a token of the queue's, with no more bytes than its buffer has; that buffer lies inside the store, and its first bytes are viewed
pub record Views (o : Owning) (s : List ℕ) : Type 0 where
  pub token : ℕ
  pub len : ℕ
  pub held : o.held ≡ holds token len
  pub below : token < o.queue.n
  pub most : len ≤ o.size
  pub buffer : token * o.size + o.size ≤ length s
  pub bytes : own_view o s ≡ take len (drop (token * o.size) s)

module _ (o : Owning) (s : List ℕ) where
  abbrev tests_pass : Bool
  tests_pass = own_well_formed o && store_fits o s

  unviewed : tests_pass ≡ false → own_view o s ≡ []
  unfolding own_view
  unviewed e = rw e

  -- THE LAW: a good record's view is what it holds, where the store does
  pub held_viewed : own_well_formed o ≡ true → o.queue.n * o.size ≤ length s → own_view o s ≡ shown (held_part o.held o.size) s
  unfolding own_view
  held_viewed e l = rw (e, le-leb (o.queue.n * o.size) (length s) l)

  viewed_held : own_well_formed o ≡ true → o.queue.n * o.size ≤ length s → (x : Option Held) → o.held ≡ x → (own_view o s ≡ []) ⊎ Views o s
  viewed_held e l None h = inl (held_viewed e l ∙ ap (λ x. shown (held_part x o.size) s) h)
  viewed_held e l (Some x) h =
      let t : ℕ = x.token in
      let k : ℕ = x.len in
      let i : InHand o t = (own_means o e).holding t k h in
      let b : t < o.queue.n = i.below in
      let w : i.len ≤ o.size = i.within in
      let f : o.held ≡ holds t i.len = i.held in
      let j : k ≡ i.len = cc in
      let u : t * o.size + o.size ≤ o.queue.n * o.size = slot_ends o.size t o.queue.n b in
      inr (record {
        token = t;
        len = k;
        held = h;
        below = b;
        most = omega arith;
        buffer = omega arith;
        bytes = held_viewed e l ∙ ap (λ x. shown (held_part x o.size) s) h;
      })

  -- THE LAW
  pub view_within : (own_view o s ≡ []) ⊎ Views o s
  view_within =
      by_test tests_pass
      (λ e. viewed_held (and_left (own_well_formed o) (store_fits o s) e) (leb-true (o.queue.n * o.size) (length s) (and_right (own_well_formed o) (store_fits o s) e)) o.held refl)
      (λ e. inl (unviewed e))
