-- What the laws of the rules say of the struct, by the equations of the methods' contracts: a struct that passes the check passes it after every call,
-- whatever the device wrote; each token's buffer is then out or held; a release answers the held token; and what a poll shows is viewed afterwards.
use Rattle.std.specs.Prelude.{◌≡◌, None, Some, Bool, true, ◌&&◌, List, ℕ, ◌*◌, length, take, drop}
use Rattle.std.proofs.Common.{sym, ap, subst, ◌∙◌, arith, eqb-true}
use Rattle.std.proofs.lemmas.Bool.{not-false}
use Rattle.lists.specs.Tests.{by_eq}
use Rattle.lists.specs.PickLaws.{first_none}
use Rattle.virtio.specs.Memory.{Memory}
use Rattle.rules.specs.WellFormed.{well_formed}
use Rattle.rules.specs.Calls.{fits}
use Rattle.rules.specs.New.{lends}
use Rattle.rules.specs.Owning as rule
use Rattle.rules.specs.Refused.{result_number, result_value}
use Rattle.laws.specs.CallKeeps.{Good}
use Rattle.laws.specs.OwnIs.{OwnGood, none_broken}
use Rattle.laws.specs.OwnNew.{OwnMade}
use Rattle.laws.proofs.OwnNew.{new_answers, new_owns}
use Rattle.laws.specs.OwnPoll.{release_refused}
use Rattle.laws.proofs.OwnPoll.{release_done}
use Rattle.laws.specs.OwnKeeps.{Keeps, EveryOwned, OneEach}
use Rattle.laws.proofs.OwnKeeps.{own_every_keeps, no_buffer_lost}
use Rattle.laws.proofs.OwnShown.{poll_viewed}
use Rattle.refusals.specs.Checked.{Indices}
use Rattle.owns.specs.Refused.{own_well}
use Rattle.record.specs.Abs.{abs, Arrays}
use Rattle.record.specs.declared.Queue.{Queue}
use Rattle.record.specs.Kept.{good_of}
use Rattle.owning.specs.declared.Owning.{Owning}
use Rattle.owning.specs.declared.Owned.{Owned}
use Rattle.owning.specs.Owned.{own_of, view_of, owned_of}

-- the check finds no broken clause of a record that is well formed
unbroken : (o : rule.Owning) → rule.own_well_formed o ≡ true → rule.own_broken o ≡ 0
unfolding rule.own_well_formed
unbroken o e = eqb-true (rule.own_broken o) 0 e

-- a struct that passes the check is a record that the laws speak of
pub own_good : (o : Owning) → Arrays o.queue → Indices o.queue.core → rule.own_broken (own_of o) ≡ 0 → OwnGood (own_of o)
own_good o a i w =
    let e : rule.own_well_formed (own_of o) ≡ true = own_well (own_of o) w in
    record { good = good_of o.queue a i (none_broken (own_of o) e).0; well = e }

-- the record of the answer r passes the check, each token is in it out with the buffer that it has in o, or held, and not both, and the store is as it was
pub record Stays (o : Owning) (r : Owned) (m : Memory) (s t : List ℕ) : Type 0 where
  pub whole : rule.own_broken (own_of r.owning) ≡ 0
  pub tokens : OneEach (own_of o) (owned_of r m t)
  pub store : t ≡ s

stays_of : (o : Owning) (r : Owned) (m : Memory) (s t : List ℕ) (x : rule.Owned) → owned_of r m t ≡ x → Keeps (own_of o) s x → OneEach (own_of o) x → Stays o r m s t
stays_of o r m s t x e k n =
    let l : Keeps (own_of o) s (owned_of r m t) = subst (Keeps (own_of o) s) (sym e) k in
    record {
      whole = unbroken (own_of r.owning) l.good.well;
      tokens = subst (OneEach (own_of o)) (sym e) n;
      store = l.store;
    }

module _ (o : Owning) (a : Arrays o.queue) (i : Indices o.queue.core) (w : rule.own_broken (own_of o) ≡ 0) (r : Owned) (m m' : Memory) (s s' : List ℕ) where
  keeps : EveryOwned (Keeps (own_of o) s) (own_of o) m s
  keeps = own_every_keeps (own_of o) m s (own_good o a i w)

  each : EveryOwned (OneEach (own_of o)) (own_of o) m s
  each = no_buffer_lost (own_of o) m s (own_good o a i w)

  -- THE LAWS, for each method by its contract's equation
  pub poll_stays : owned_of r m' s' ≡ rule.poll (own_of o) m s → Stays o r m' s s'
  poll_stays e = stays_of o r m' s s' _ e keeps.after_poll each.after_poll

  pub release_stays : owned_of r m' s' ≡ rule.release (own_of o) m s → Stays o r m' s s'
  release_stays e = stays_of o r m' s s' _ e keeps.after_release each.after_release

  pub should_notify_stays : owned_of r m' s' ≡ rule.own_should_notify (own_of o) m s → Stays o r m' s s'
  should_notify_stays e = stays_of o r m' s s' _ e keeps.after_should_notify each.after_should_notify

  pub set_notify_stays : (b : Bool) → owned_of r m' s' ≡ rule.own_set_dev_notify (own_of o) m s b → Stays o r m' s s'
  set_notify_stays b e = stays_of o r m' s s' _ e (keeps.after_set_notify b) (each.after_set_notify b)

  -- a release that answers 0 has the held token as its value, and holds nothing
  pub release_value : owned_of r m' s' ≡ rule.release (own_of o) m s → result_number r.outcome ≡ 0 → (t l : ℕ) → o.held ≡ rule.holds t l → (result_value r.outcome ≡ t) × (r.owning.held ≡ None)
  release_value e z t l h =
      let f : rule.release_refusal (own_of o) m s ≡ 0 = by_eq (rule.release_refusal (own_of o) m s) 0 (λ y. y) (λ y. absurd (y (sym (ap (λ (x : rule.Owned). x.answer) (e ∙ release_refused (own_of o) m s y)) ∙ z))) in
      let d : owned_of r m' s' ≡ _ = e ∙ release_done (own_of o) m s (own_good o a i w) f t l h in
      (ap (λ (x : rule.Owned). x.value) d, ap (λ (x : rule.Owned). x.owning.held) d)

  -- what a poll shows is viewed afterwards, of the store as it then is
  pub poll_shown_lem : owned_of r m' s' ≡ rule.poll (own_of o) m s → (from count : ℕ) → r.shows ≡ Some (record { from = from; count = count }) → (t : List ℕ) → length t ≡ length s
      → rule.own_view (own_of r.owning) t ≡ take count (drop from t)
  poll_shown_lem e from count h t l =
      let v : (rule.poll (own_of o) m s).view ≡ rule.part from count = sym (ap (λ (x : rule.Owned). x.view) e) ∙ ap view_of h in
      ap (λ (x : rule.Owned). rule.own_view x.owning t) e
      ∙ poll_viewed (own_of o) m s (own_good o a i w) from count v t l
      ∙ ap (λ x. rule.shown x t) v

-- THE LAW of new: where it answers 0, the record passes the check, and every token's buffer is out
module _ (q : Queue) (a : Arrays q) (i : Indices q.core) (base size : ℕ) (r : Owned) (m m' : Memory) (s s' : List ℕ) (e : owned_of r m' s' ≡ rule.own_new (abs q) base size m s) (z : result_number r.outcome ≡ 0) where
  new_good : Good (abs q)
  new_good =
      let f : rule.own_new_refusal (abs q) base size m s ≡ 0 = sym (new_answers (abs q) base size m s) ∙ sym (ap (λ (x : rule.Owned). x.answer) e) ∙ z in
      let n : _ = first_none (rule.own_new_tests (abs q) size (fits (abs q) m && lends base ((abs q).n * size) (length s))) (omega arith) f in
      good_of q a i (not-false (well_formed (abs q)) n.0)

  pub new_made : OwnMade (abs q) base size s (owned_of r m' s')
  new_made =
      subst (OwnMade (abs q) base size s) (sym e) (new_owns (abs q) base size m s new_good (sym (ap (λ (x : rule.Owned). x.answer) e) ∙ z))

  pub new_stays : rule.own_broken (own_of r.owning) ≡ 0
  new_stays = unbroken (own_of r.owning) new_made.good.well
