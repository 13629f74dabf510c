-- What the laws of the rules say of the struct: a record that passes the check passes it after every call, whatever the device wrote.
use Rattle.std.specs.Prelude.{◌≡◌, Bool, true, List, ℕ}
use Rattle.std.proofs.Common.{ap, subst, sym}
use Rattle.virtio.specs.declared.Buffer.{Buffer}
use Rattle.virtio.specs.Memory.{Memory}
use Rattle.rules.specs.WellFormed.{well_formed}
use Rattle.rules.specs.Answer.{Outcome}
use Rattle.rules.specs.Calls.{open_add, open_pop, open_peek, run, add, pop_used, peek_used, can_pop, should_notify, set_dev_notify}
use Rattle.laws.specs.WellFormedIs.{means_well_formed}
use Rattle.laws.specs.CallKeeps.{Good}
use Rattle.laws.specs.EveryKeeps.{EveryRecord, every_keeps}
use Rattle.refusals.specs.Checked.{Indices, ready}
use Rattle.record.specs.declared.Queue.{Queue}
use Rattle.record.specs.declared.Answer.{Answer}
use Rattle.record.specs.Abs.{abs, room, Arrays}
use Rattle.record.specs.Asked.{answer_of}
use Rattle.record.specs.Lent.{has_room}

-- a struct that passes the check is a record that the laws speak of: its arrays have their lengths, its indices 16 bits
pub good_of : (q : Queue) → Arrays q → Indices q.core → well_formed (abs q) ≡ true → Good (abs q)
good_of q a i w = (ready q.core room q.words q.lens q.halves q.sides (has_room q a) i w).good

-- what the record of a rule's outcome has, that of the answer has
well_of : (r : Answer) (m : Memory) (o : Outcome) → answer_of r m ≡ o → Good o.queue → well_formed (abs r.queue) ≡ true
well_of r m o e g =
    means_well_formed (abs r.queue) (subst Good (sym (ap (λ (x : Outcome). x.queue) e)) g).well

module _ (q : Queue) (a : Arrays q) (i : Indices q.core) (w : well_formed (abs q) ≡ true) (r : Answer) (m m' : Memory) where
  keeps : EveryRecord Good (abs q) m
  keeps = every_keeps (abs q) m (good_of q a i w)

  -- THE LAWS, for each method by its contract's equation
  pub open_add_stays : (bs : List Buffer) → answer_of r m' ≡ open_add (abs q) m bs → well_formed (abs r.queue) ≡ true
  open_add_stays bs e = well_of r m' _ e (keeps.after_open_add bs)

  pub open_pop_stays : (t : ℕ) (bs : List Buffer) → answer_of r m' ≡ open_pop (abs q) m t bs → well_formed (abs r.queue) ≡ true
  open_pop_stays t bs e = well_of r m' _ e (keeps.after_open_pop t bs)

  pub open_peek_stays : answer_of r m' ≡ open_peek (abs q) m → well_formed (abs r.queue) ≡ true
  open_peek_stays e = well_of r m' _ e keeps.after_open_peek

  pub run_stays : (b : ℕ) → answer_of r m' ≡ run b (abs q) m → well_formed (abs r.queue) ≡ true
  run_stays b e = well_of r m' _ e (keeps.after_run b)

  pub add_stays : (bs : List Buffer) → answer_of r m' ≡ add (abs q) m bs → well_formed (abs r.queue) ≡ true
  add_stays bs e = well_of r m' _ e (keeps.after_add bs)

  pub pop_stays : (t : ℕ) (bs : List Buffer) → answer_of r m' ≡ pop_used (abs q) m t bs → well_formed (abs r.queue) ≡ true
  pop_stays t bs e = well_of r m' _ e (keeps.after_pop t bs)

  pub peek_stays : answer_of r m' ≡ peek_used (abs q) m → well_formed (abs r.queue) ≡ true
  peek_stays e = well_of r m' _ e keeps.after_peek

  pub can_pop_stays : answer_of r m' ≡ can_pop (abs q) m → well_formed (abs r.queue) ≡ true
  can_pop_stays e = well_of r m' _ e keeps.after_can_pop

  pub should_notify_stays : answer_of r m' ≡ should_notify (abs q) m → well_formed (abs r.queue) ≡ true
  should_notify_stays e = well_of r m' _ e keeps.after_should_notify

  pub set_dev_notify_stays : (b : Bool) → answer_of r m' ≡ set_dev_notify (abs q) m b → well_formed (abs r.queue) ≡ true
  set_dev_notify_stays b e = well_of r m' _ e (keeps.after_set_notify b)
