-- Calls of a single step: refused, or what each answers; and that the regions do where it is not refused.
use Rattle.std.specs.Prelude.{◌≡◌, refl, Bool, true, false, not, cond, Ok, Err, List, ℕ, ◌+◌, ◌%◌, leb, eqb}
use mir.Val.{bool_byte}
use native.Mathlib.Omega.{arith}
use Rattle.lists.specs.Bytes.{put_le}
use Rattle.lists.specs.Index.{after}
use Rattle.lists.specs.Pick.{one_if}
use Rattle.virtio.specs.Layout.{avail_at}
use Rattle.virtio.specs.Memory.{Memory, used_flags, used_idx, avail_event, spot, load_at}
use Rattle.rules.specs.declared.Refusal.{Refusal}
use Rattle.rules.specs.Record.{Tables}
use Rattle.rules.specs.Refused.{refusal_number}
use Rattle.rules.specs.Calls.{fits, call_refusal, can_pop, should_notify, set_dev_notify}
use Rattle.views.specs.declared.Core.{Core}
use Rattle.views.specs.Tables.{queue_of}
use Rattle.tables.specs.Ready.{Fitting}
use Rattle.laws.specs.Allowed.{call_allowed}
use Rattle.refusals.specs.Checked.{fitting}
use Rattle.access.specs.Accesses.{memory}
use Rattle.asks.specs.declared.Done.{Done}
use Rattle.asks.specs.Outcomes.{done_of}
use Rattle.asks.specs.Refused.{says_no, says_yes}

-- a bool as a number
pub number_of : (b : Bool) → bool_byte b ≡ one_if b
number_of true = refl
number_of false = refl

module _ (c : Core) (t : Tables) (m : Memory) where
  -- where no refusal applies the regions do
  pub regions : call_refusal (queue_of c t) m ≡ 0 → Fitting c m.one m.two m.pool
  regions z =
      fitting c m.one m.two m.pool (call_allowed (queue_of c t) (fits (queue_of c t) m) z).fits

  -- r is what the code answers
  module _ (r : Done) where
    -- a refusal
    module _ (x : Refusal) (d : r ≡ record { core = c; outcome = Err x; steps = 0 }) (e : refusal_number x ≡ call_refusal (queue_of c t) m) where
      pub can_pop_no : done_of r t m ≡ can_pop (queue_of c t) m
      unfolding can_pop
      can_pop_no = says_no c t m _ (call_refusal (queue_of c t) m) x r d e

      pub should_notify_no : done_of r t m ≡ should_notify (queue_of c t) m
      unfolding should_notify
      should_notify_no = says_no c t m _ (call_refusal (queue_of c t) m) x r d e

      pub set_dev_notify_no : (wanted : Bool) → done_of r t m ≡ set_dev_notify (queue_of c t) m wanted
      unfolding set_dev_notify
      set_dev_notify_no wanted = says_no c t m _ (call_refusal (queue_of c t) m) x r d e

    -- a step that loads the number k and answers v
    module _ (z : call_refusal (queue_of c t) m ≡ 0) (k v : ℕ) (d : r ≡ record { core = c; outcome = Ok v; steps = 1 }) where
      pub can_pop_yes : k ≡ load_at (spot c.modes.legacy c.n used_idx) m → v ≡ one_if (not (eqb k c.last_used_idx)) → done_of r t m ≡ can_pop (queue_of c t) m
      unfolding can_pop
      can_pop_yes l f =
          says_yes (queue_of c t) m _ (done_of r t m) (call_refusal (queue_of c t) m) z (rw (d, f, l) refl)

      pub by_event_lem : c.modes.event_idx ≡ true → k ≡ load_at (spot c.modes.legacy c.n avail_event) m → v ≡ one_if (leb (after k) c.avail_idx) → done_of r t m ≡ should_notify (queue_of c t) m
      unfolding should_notify
      by_event_lem i l f =
          says_yes (queue_of c t) m _ (done_of r t m) (call_refusal (queue_of c t) m) z (rw (d, f, l, i) refl)

      pub by_flags : c.modes.event_idx ≡ false → k ≡ load_at (spot c.modes.legacy c.n used_flags) m → v ≡ one_if (eqb (k % 2) 0) → done_of r t m ≡ should_notify (queue_of c t) m
      unfolding should_notify
      by_flags i l f =
          says_yes (queue_of c t) m _ (done_of r t m) (call_refusal (queue_of c t) m) z (rw (d, f, l, i) refl)

    -- the flags of the available ring: left with event indices, else stored
    module _ (z : call_refusal (queue_of c t) m ≡ 0) (wanted : Bool) where
      pub flags_left : r ≡ record { core = c; outcome = Ok 0; steps = 0 } → c.modes.event_idx ≡ true → done_of r t m ≡ set_dev_notify (queue_of c t) m wanted
      unfolding set_dev_notify
      flags_left d i =
          says_yes (queue_of c t) m _ (done_of r t m) (call_refusal (queue_of c t) m) z (rw (d, i) refl)

      pub flags_stored : (one : List ℕ) (at v : ℕ) → r ≡ record { core = c; outcome = Ok 0; steps = 1 } → c.modes.event_idx ≡ false → at ≡ avail_at c.n → v ≡ cond wanted 0 1 → one ≡ put_le 2 m.one at v → done_of r t (memory one m.two m.pool) ≡ set_dev_notify (queue_of c t) m wanted
      unfolding set_dev_notify
      flags_stored one at v d i a f s =
          let place : at ≡ avail_at c.n + 0 = omega arith in
          says_yes (queue_of c t) m _ (done_of r t (memory one m.two m.pool)) (call_refusal (queue_of c t) m) z (rw (d, s, f, place, i) refl)
