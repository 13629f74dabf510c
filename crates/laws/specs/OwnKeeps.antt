-- What it is that every call of the owning queue leaves a good record good, whatever the device writes, so that no buffer is lost or doubled, which proofs/
-- shows: the memory and the store are any lists. Here it is shown of the calls that pass through.
use Rattle.std.specs.Prelude.{◌≡◌, ◌⊎◌, Bool, true, false, List, [], ◌∷◌, ℕ, ◌<◌}
use Rattle.std.proofs.Common.{sym, subst, ◌∙◌}
use Rattle.std.proofs.Math.Path.{ap}
use Rattle.std.proofs.Math.Bool.{cond}
use Rattle.virtio.specs.Memory.{Memory}
use Rattle.rules.specs.Record.{Queue, buffers_of}
use Rattle.rules.specs.Meaning.{Out}
use Rattle.rules.specs.Answer.{Outcome, BadRecord}
use Rattle.rules.specs.Calls.{should_notify, set_dev_notify}
use Rattle.rules.specs.Owning.{Owning, Owned, no_view, own_list, own_well_formed}
use Rattle.rules.specs.Owning.{plainly, own_refused, passed, poll, release, own_should_notify, own_set_dev_notify}
use Rattle.laws.specs.EveryKeeps.{should_notify_record, set_notify_record}
use Rattle.laws.specs.OwnIs.{InHand, OwnGood}

-- ---- what passes through

module _ (o : Owning) (m : Memory) (s : List ℕ) where
  -- an answer of the queue, with the owning record and the store as they were
  abbrev pub handed : Outcome → Owned
  handed p =
      record { answer = p.answer; value = p.value; view = no_view; owning = o; memory = p.memory; store = s }

  handed_is : (p : Outcome) → p.queue ≡ o.queue → passed o p s ≡ handed p
  handed_is p e = ap (λ x. plainly o p.answer p.value x o.held p.memory s) e

  -- THE LAWS: of a well-formed record the answer is the queue's, and the owning record stays; of another it is 12, and nothing is altered
  pub should_notify_passes : own_well_formed o ≡ true → own_should_notify o m s ≡ handed (should_notify o.queue m)
  unfolding own_should_notify
  should_notify_passes e =
      ap (λ b. cond b (passed o (should_notify o.queue m) s) (own_refused o BadRecord m s)) e
      ∙ handed_is (should_notify o.queue m) (should_notify_record o.queue m)

  pub should_notify_refused : own_well_formed o ≡ false → own_should_notify o m s ≡ own_refused o BadRecord m s
  unfolding own_should_notify
  should_notify_refused e = ap (λ b. cond b (passed o (should_notify o.queue m) s) (own_refused o BadRecord m s)) e

  pub set_notify_passes : (wanted : Bool) → own_well_formed o ≡ true → own_set_dev_notify o m s wanted ≡ handed (set_dev_notify o.queue m wanted)
  unfolding own_set_dev_notify
  set_notify_passes wanted e =
      ap (λ b. cond b (passed o (set_dev_notify o.queue m wanted) s) (own_refused o BadRecord m s)) e
      ∙ handed_is (set_dev_notify o.queue m wanted) (set_notify_record o.queue m wanted)

  pub set_notify_refused : (wanted : Bool) → own_well_formed o ≡ false → own_set_dev_notify o m s wanted ≡ own_refused o BadRecord m s
  unfolding own_set_dev_notify
  set_notify_refused wanted e =
      ap (λ b. cond b (passed o (set_dev_notify o.queue m wanted) s) (own_refused o BadRecord m s)) e

-- ---- what each call keeps

-- the record in the answer r is good, of the same size and over the same store; and the call leaves the store's bytes to the device
pub record Keeps (o : Owning) (s : List ℕ) (r : Owned) : Type 0 where
  pub good : OwnGood r.owning
  pub n : r.owning.queue.n ≡ o.queue.n
  pub base : r.owning.base ≡ o.base
  pub size : r.owning.size ≡ o.size
  pub store : r.store ≡ s

module _ (o : Owning) (m : Memory) (s : List ℕ) (g : OwnGood o) where
  -- an answer that leaves the record and the store as they were
  still : (r : Owned) → r.owning ≡ o → r.store ≡ s → Keeps o s r
  still r e f = record {
    good = subst OwnGood (sym e) g;
    n = ap (λ (p : Owning). p.queue.n) e;
    base = ap (λ (p : Owning). p.base) e;
    size = ap (λ (p : Owning). p.size) e;
    store = f;
  }

  pub as_was : (r : Owned) (k : ℕ) → r ≡ own_refused o k m s → Keeps o s r
  as_was r k e = still r (ap (λ (y : Owned). y.owning) e) (ap (λ (y : Owned). y.store) e)

  -- THE LAWS of the calls that pass through
  pub should_notify_keeps : Keeps o s (own_should_notify o m s)
  should_notify_keeps =
      let e = should_notify_passes o m s g.well in
      still (own_should_notify o m s) (ap (λ (y : Owned). y.owning) e) (ap (λ (y : Owned). y.store) e)

  pub set_notify_keeps : (wanted : Bool) → Keeps o s (own_set_dev_notify o m s wanted)
  set_notify_keeps wanted =
      let e = set_notify_passes o m s wanted g.well in
      still (own_set_dev_notify o m s wanted) (ap (λ (y : Owned). y.owning) e) (ap (λ (y : Owned). y.store) e)

-- ---- every call

-- P holds of the answer of each call over the record o
pub record EveryOwned (P : Owned → Type 0) (o : Owning) (m : Memory) (s : List ℕ) : Type 0 where
  pub after_poll : P (poll o m s)
  pub after_release : P (release o m s)
  pub after_should_notify : P (own_should_notify o m s)
  pub after_set_notify : (wanted : Bool) → P (own_set_dev_notify o m s wanted)

-- ---- no buffer is lost or doubled

-- token h is out in the queue r, with the very buffer that it has in o
pub record Still (o : Owning) (r : Queue) (h : ℕ) : Type 0 where
  pub out : Out r h
  pub list : buffers_of r h ≡ own_list o h

-- each token of o is, in the answer, out with the buffer that it always had, or held, and not both
pub record OneEach (o : Owning) (r : Owned) : Type 0 where
  pub either : (h : ℕ) → h < o.queue.n → Still o r.owning.queue h ⊎ InHand r.owning h
  pub not_both : (h : ℕ) → Still o r.owning.queue h → InHand r.owning h → ⊥

-- ---- any calls, one after the other

-- a call, over the memory and the store as the device has left them by then
pub data OwnCall : Type 0 where
  polls : Memory → List ℕ → OwnCall
  releases : Memory → List ℕ → OwnCall
  asks : Memory → List ℕ → OwnCall
  orders : Memory → List ℕ → Bool → OwnCall

abbrev pub called : Owning → OwnCall → Owned
called o (polls m s) = poll o m s
called o (releases m s) = release o m s
called o (asks m s) = own_should_notify o m s
called o (orders m s wanted) = own_set_dev_notify o m s wanted

unfoldable pub after_all : Owning → List OwnCall → Owning
after_all o [] = o
after_all o (c ∷ cs) = after_all (called o c).owning cs

-- p is good, of the size of o and over the same store
pub record Lasts (o p : Owning) : Type 0 where
  pub good : OwnGood p
  pub n : p.queue.n ≡ o.queue.n
  pub base : p.base ≡ o.base
  pub size : p.size ≡ o.size
