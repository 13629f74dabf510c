-- What each event of the device does, as the driver can see it: it stores nothing, and sees nothing of what it must not see; or it stores one field.
use Rattle.std.specs.Prelude.{◌≡◌, Bool, true, false, ◌⊎◌, ℕ, ◌%◌, ◌<◌}
use Rattle.std.proofs.Math.Path.{refl, ap}
use Rattle.std.proofs.Common.{sym, ◌∙◌, inl, inr, arith}
use Rattle.std.proofs.lemmas.Bool.{false≢true}
use Rattle.lists.specs.Index.{after, after_counts}
use Rattle.lists.specs.Once.{mem}
use Rattle.virtio.specs.Memory.{Memory, Place, used_flags, used_idx, avail_event, used_id, used_len}
use Rattle.virtio.specs.Sizes.{Has}
use Rattle.rules.specs.Record.{Queue}
use Rattle.rules.specs.Meaning.{WellFormed}
use Rattle.mixing.specs.Device.{Wiring, Act, take_next, complete, set_used_flags, set_avail_event, see_avail_flags, see_used_event, Doing, resting, take_idx, take_head, take_chain, complete_id, complete_len, complete_idx, Device, Worked, acting, begin, work}
use Rattle.mixing.specs.Fields.{put, put_num, unlike}
use Rattle.mixing.specs.Facts.{Notes, DeviceAt, Facts}
use Rattle.mixing.specs.Shows.{slot_low, last_slot, used_not_pool}
use Rattle.mixing.specs.Adding.{no}
use Rattle.mixing.proofs.DeviceKeeps.{wire, element_blank}
use Rattle.mixing.specs.Seen.{Filled, still}
use Rattle.mixing.proofs.SwapLoads.{over, idx_over, idx_self, head_over, taking_over, take_over, complete_over, flags_over, event_over}
use Rattle.mixing.specs.SwapStores.{Given, element, tells, gives}

-- `works` over any memory: what it comes to over m, but for the memory
pub data Does (q : Queue) (g : Notes) (m : Memory) (works : Memory → Worked) : Type 0 where
  sees : (works m).memory ≡ m
      → ((open? : Bool) (x : Memory) → Filled q g m open? x → (open? ≡ true) ⊎ (acting (works m).device.doing ≡ true) → works x ≡ over (works m) x)
      → Does q g m works
  puts : (p : Place) (v : ℕ) → Given q g (acting (works m).device.doing) p v → ((x : Memory) → works x ≡ over (works m) (put q p v x))
      → Does q g m works

-- an event that ends its act leaves none open
ended : {A : Type 0} → A ⊎ (false ≡ true) → A
ended (inl a) = a
ended (inr e) = absurd (false≢true e)

module _ (base : ℕ) (q : Queue) (m : Memory) (d : Device) (g : Notes) (f : Facts base q m d g) where
  abbrev w : Wiring
  w = wire base q

  abbrev well : WellFormed q
  well = f.good.well

  -- the element that is stored is not the one that a pop reads
  apart : (h : ℕ) → mem h d.holds ≡ true → g.pops < g.uses → q.counts.last % q.n ≡ d.used % q.n → ⊥
  apart h x l e = element_blank base q m d g f h x g.pops (omega arith) l (sym (last_slot q m d g f) ∙ e)

  id_given : (open? : Bool) (h v : ℕ) → mem h d.holds ≡ true → Given q g open? (used_id (d.used % q.n)) v
  unfolding Has
  id_given open? h v x =
      element (slot_low q well d.used) refl (unlike (omega arith)) (unlike (omega arith))
      (unlike (omega arith)) (λ l z. apart h x l (ap no z)) (λ l. unlike (omega arith))

  len_given : (open? : Bool) (h v : ℕ) → mem h d.holds ≡ true → Given q g open? (used_len (d.used % q.n)) v
  unfolding Has
  len_given open? h v x =
      element (slot_low q well d.used) refl (unlike (omega arith)) (unlike (omega arith))
      (unlike (omega arith)) (λ l. unlike (omega arith)) (λ l z. apart h x l (ap no z))

  idx_given : Given q g false used_idx (after d.used)
  unfolding Has
  idx_given =
      gives refl refl
      (λ x e. put_num q used_idx (after d.used) x e tt (λ z. absurd (used_not_pool q.modes.legacy z)) (omega arith) ∙ ap after f.gave
      ∙ after_counts g.uses)

  flags_given : (v : ℕ) → Given q g false used_flags v
  unfolding Has
  flags_given v =
      tells refl tt refl (unlike (omega arith)) (λ s. unlike (omega arith))
      (λ s. unlike (omega arith))

  event_given : (v : ℕ) → Given q g false avail_event v
  unfolding Has
  event_given v =
      tells refl tt refl (unlike (omega arith)) (λ s. unlike (omega arith))
      (λ s. unlike (omega arith))

  -- ---- THE LAWS

  work_at : (a : Doing) → DeviceAt q m d g a → Does q g m (work w a d)
  work_at resting x = sees refl (λ o y c i. refl)
  work_at take_idx x = sees (ap (λ r. r.memory) (idx_self base q m d g f true)) (λ o y c i. idx_over base q m d g f o y c i)
  work_at take_head x = sees refl (λ o y c i. head_over base q m d g f o y c x)
  work_at (take_chain h k t i bs) x =
      sees (ap (λ r. r.memory) (taking_over base q m d g f true m still h k t i bs x)) (λ o y c j. taking_over base q m d g f o y c h k t i bs x)
  work_at (complete_id h l) x = puts (used_id (d.used % q.n)) h (id_given true h h x) (λ y. refl)
  work_at (complete_len h l) x = puts (used_len (d.used % q.n)) l (len_given true h l x.0) (λ y. refl)
  work_at (complete_idx h l) x = puts used_idx (after d.used) idx_given (λ y. refl)

  pub work_does : Does q g m (work w d.doing d)
  work_does = work_at d.doing f.at_device

  pub begin_does : (a : Act) → Does q g m (begin w a d)
  begin_does take_next = sees refl (λ o y c i. take_over base q m d g f o y)
  begin_does (complete h l) = sees (ap (λ r. r.memory) (complete_over base q m d g f true m h l)) (λ o y c i. complete_over base q m d g f o y h l)
  begin_does (set_used_flags v) = puts used_flags v (flags_given v) (λ y. refl)
  begin_does (set_avail_event v) = puts avail_event v (event_given v) (λ y. refl)
  begin_does see_avail_flags = sees refl (λ o y c i. flags_over base q m d g f o y c (ended i))
  begin_does see_used_event = sees refl (λ o y c i. event_over base q m d g f o y c (ended i))
