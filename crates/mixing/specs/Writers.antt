-- Which fields the device of demand 3 writes: an opening or a step of an act leaves the memory as it is, or stores one number to a field of the used ring.
use Rattle.std.specs.Prelude.{◌≡◌, refl, true, ◌⊎◌, List, ℕ, zero, suc, ◌%◌, eqb}
use Rattle.std.proofs.Common.{inl, inr}
use Rattle.lists.specs.Tests.{either}
use Rattle.virtio.specs.declared.Desc.{Desc}
use Rattle.virtio.specs.declared.Buffer.{Buffer}
use Rattle.virtio.specs.Desc.{has_next, has_indirect}
use Rattle.virtio.specs.Device.{device_writes, may_give_back}
use Rattle.virtio.specs.Memory.{Memory, Place, used_id, used_len, used_idx, used_flags, avail_event, avail_idx, spot, load_at, store_at}
use Rattle.mixing.specs.Device.{Wiring, Act, take_next, complete, set_used_flags, set_avail_event, see_avail_flags, see_used_event}
use Rattle.mixing.specs.Device.{Table, in_table, in_list, Doing, resting, take_idx, take_head, take_chain, complete_id, complete_len, complete_idx, Device, Worked, begin, reads, chain_step, work}

module _ (w : Wiring) (m : Memory) where
  -- one store to a field that the device writes
  pub record Stores (m' : Memory) : Type 0 where
    pub place : Place
    pub number : ℕ
    pub own : device_writes place ≡ true
    pub is : m' ≡ store_at (spot w.legacy w.n place) number m

  abbrev pub Keeps : Memory → Type 0
  Keeps m' = (m' ≡ m) ⊎ Stores m'

  abbrev Unwritten : Worked → Type 0
  Unwritten x = x.memory ≡ m

  reads_keeps : (h k : ℕ) (t : Table) (bs : List Buffer) (x : Desc) (d : Device) → (reads w h k t bs x d m).memory ≡ m
  reads_keeps h k in_table bs x d = either Unwritten (has_indirect x) _ _ (λ e. refl) (λ e. either Unwritten (has_next x) _ _ (λ z. refl) (λ z. refl))
  reads_keeps h k (in_list s) bs x d = either Unwritten (has_next x) _ _ (λ e. refl) (λ e. refl)

  chain_keeps : (h k : ℕ) (t : Table) (i : ℕ) (bs : List Buffer) (d : Device) → (chain_step w h k t i bs d m).memory ≡ m
  chain_keeps h zero t i bs d = refl
  chain_keeps h (suc k) t i bs d = reads_keeps h k t bs _ d

  -- THE LAWS
  pub begin_keeps : (a : Act) (d : Device) → Keeps (begin w a d m).memory
  begin_keeps take_next d = inl refl
  begin_keeps (complete h l) d = inl (either Unwritten (may_give_back d.holds h) _ _ (λ e. refl) (λ e. refl))
  begin_keeps (set_used_flags v) d = inr (record { place = used_flags; number = v; own = refl; is = refl })
  begin_keeps (set_avail_event v) d = inr (record { place = avail_event; number = v; own = refl; is = refl })
  begin_keeps see_avail_flags d = inl refl
  begin_keeps see_used_event d = inl refl

  pub work_keeps : (a : Doing) (d : Device) → Keeps (work w a d m).memory
  work_keeps resting d = inl refl
  work_keeps take_idx d = inl (either Unwritten (eqb (load_at (spot w.legacy w.n avail_idx) m) d.taken) _ _ (λ e. refl) (λ e. refl))
  work_keeps take_head d = inl refl
  work_keeps (take_chain h k t i bs) d = inl (chain_keeps h k t i bs d)
  work_keeps (complete_id h l) d = inr (record { place = used_id (d.used % w.n); number = h; own = refl; is = refl })
  work_keeps (complete_len h l) d = inr (record { place = used_len (d.used % w.n); number = l; own = refl; is = refl })
  work_keeps (complete_idx h l) d = inr (record { place = used_idx; number = _; own = refl; is = refl })
