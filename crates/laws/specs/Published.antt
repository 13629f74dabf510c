-- What an add publishes, as VIRTIO reads it: the available ring's idx counts on, its slot names the head, and the chain at the head means the list given.
use Rattle.std.specs.Prelude.{◌≡◌, Bool, true, not, ◌&&◌, ◌||◌, ◌⊎◌, List, ℕ, ◌+◌, ◌*◌, ◌≤◌, leb, length}
use Rattle.std.proofs.Common.{sym, subst, inl, inr, arith, leb-true}
use Rattle.lists.specs.Tests.{by_test, and_left, and_right, implied}
use Rattle.virtio.specs.declared.Buffer.{Buffer}
use Rattle.virtio.specs.Layout.{need_one, need_two, need_pool}
use Rattle.virtio.specs.Sizes.{front_inside}
use Rattle.virtio.specs.Memory.{Memory}
use Rattle.rules.specs.Record.{Queue}
use Rattle.rules.specs.Answer.{Outcome}
use Rattle.rules.specs.Calls.{fits, add_refusal, add}
use Rattle.laws.specs.WellFormedIs.{means_well_formed}
use Rattle.laws.specs.AddKeeps.{Addable}
use Rattle.laws.specs.CallKeeps.{Good}
use Rattle.laws.specs.Opening.{by_opening, addable}
use Rattle.laws.specs.Added.{published, add_done}
use Rattle.laws.specs.Reads.{AllNarrow, Reads}
use Rattle.laws.specs.Followed.{Plain, Listed}
use Rattle.laws.specs.DirectReads.{direct_publishes, direct_stands}
use Rattle.laws.specs.ListReads.{list_publishes, list_stands}

module _ (q : Queue) (m : Memory) (bs : List Buffer) (g : Good q) (e : add_refusal q m bs ≡ 0) where
  -- where nothing refuses the add, each region holds what it needs
  able : Addable q bs
  able = addable q m bs g.well e

  abbrev one_fits : Bool
  one_fits = leb (need_one q.modes.legacy q.n) (length m.one)

  abbrev two_fits : Bool
  two_fits = leb (need_two q.modes.legacy q.n) (length m.two)

  abbrev pool_fits : Bool
  pool_fits = not q.modes.indirect || leb (need_pool q.n) (length m.pool)

  fitting : fits q m ≡ true
  fitting =
      by_test (fits q m) (λ t. t) (λ t. absurd (let z : ◌≡◌ {A = ℕ} 13 0 = rw (means_well_formed q g.well, t) at e in omega arith))

  -- so the regions have room
  one_room : 18 * q.n + 6 ≤ length m.one
  one_room =
      let l : need_one q.modes.legacy q.n ≤ length m.one = leb-true (need_one q.modes.legacy q.n) (length m.one) (and_left one_fits (two_fits && pool_fits) fitting) in
      let n : 16 * q.n + (6 + 2 * q.n) ≤ need_one q.modes.legacy q.n = front_inside q.modes.legacy q.n in
      omega arith

  pool_room : q.modes.indirect ≡ true → 16 * (q.n * q.n) ≤ length m.pool
  pool_room i =
      leb-true (need_pool q.n) (length m.pool)
      (implied q.modes.indirect (leb (need_pool q.n) (length m.pool)) (and_right two_fits pool_fits (and_right one_fits (two_fits && pool_fits) fitting)) i)

  -- THE LAW: what the device reads after the add
  pub add_publishes : AllNarrow bs → Reads q.modes.legacy q.n q.base (add q m bs).memory q.counts.avail q.counts.free bs
  add_publishes f =
      subst (λ (o : Outcome). Reads q.modes.legacy q.n q.base o.memory q.counts.avail q.counts.free bs) (sym (add_done q m bs g e))
      (by_opening q bs able (λ r. Reads q.modes.legacy q.n q.base (published r q.counts.free (length bs) m) q.counts.avail q.counts.free bs)
      (λ i l. list_publishes q m bs g able i one_room (pool_room i) f)
      (λ d. direct_publishes q m bs g able d one_room f))

  -- THE LAW: how its descriptors stand in the table
  abbrev pub Stands : Memory → Type 0
  Stands x = Plain q.n x q.counts.free ⊎ ((q.modes.indirect ≡ true) × Listed q.n q.base x q.counts.free)

  pub add_stands : AllNarrow bs → Stands (add q m bs).memory
  add_stands f =
      subst (λ (o : Outcome). Stands o.memory) (sym (add_done q m bs g e))
      (by_opening q bs able (λ r. Stands (published r q.counts.free (length bs) m))
      (λ i l. inr (i, list_stands q m bs g able i one_room (pool_room i) f))
      (λ d. inl (direct_stands q m bs g able d one_room f)))
