-- A device that keeps the rules (document 01, "Step by step", last paragraph; VIRTIO 1.1, 2.6.8): one act open at a time, one load or
-- store a step, and no store but to the used ring.
use Rattle.std.specs.Prelude.{◌≡◌, refl, Bool, true, false, cond, List, [], ◌∷◌, ◌++◌, ℕ, zero, suc, ◌+◌, ◌-◌, ◌/◌, ◌%◌, eqb, take, drop}
use Rattle.lists.specs.Index.{after}
use Rattle.virtio.specs.declared.Desc.{Desc}
use Rattle.virtio.specs.declared.Buffer.{Buffer}
use Rattle.virtio.specs.Desc.{has_next, has_indirect, buffer_of}
use Rattle.virtio.specs.Device.{may_give_back, giving_back, written}
use Rattle.virtio.specs.Memory.{Memory, Place, desc, entry, avail_flags, avail_idx, used_event, avail_ring, used_flags, used_idx, avail_event, used_id, used_len, spot, load_at, store_at, load_desc_at}

-- What the device knows of the queue: its size, its layout, and the address of the pool.
pub record Wiring : Type 0 where
  pub n : ℕ
  pub legacy : Bool
  pub base : ℕ

-- The acts: take the next available chain; complete a taken chain, by its head, with any length; and the single steps.
pub data Act : Type 0 where
  take_next : Act
  complete : ℕ → ℕ → Act
  set_used_flags set_avail_event : ℕ → Act
  see_avail_flags see_used_event : Act

-- What an act comes to: nothing was available; a chain taken, its head and its buffers as they were loaded; a chain completed; a chain that was not
-- there to complete; a number stored; a number seen.
pub data Result : Type 0 where
  none_available not_taken completed stored : Result
  took : ℕ → List Buffer → Result
  saw : ℕ → Result

-- Where the descriptors of a chain are read: in the table, or in the indirect list that starts at an entry of the pool.
pub data Table : Type 0 where
  in_table : Table
  in_list : ℕ → Table

-- The open act and the step that it makes next. A take that reads a chain: its head, how many descriptors it may still read, where, which entry
-- comes next, and the buffers so far.
pub data Doing : Type 0 where
  resting : Doing
  take_idx take_head : Doing
  take_chain : ℕ → ℕ → Table → ℕ → List Buffer → Doing
  complete_id complete_len complete_idx : ℕ → ℕ → Doing

-- The device's own record: how many chains it has taken and completed (mod 65,536), the heads taken and not yet completed, and the open act.
pub record Device : Type 0 where
  pub taken : ℕ
  pub used : ℕ
  pub holds : List ℕ
  pub doing : Doing

abbrev pub fresh_device : Device
fresh_device = record { taken = 0; used = 0; holds = []; doing = resting }

-- What an opening or a step leaves: the act goes on, or it ends with a result.
pub data Done : Type 0 where
  going : Done
  ended : Result → Done

pub record Worked : Type 0 where
  pub device : Device
  pub memory : Memory
  pub done : Done

abbrev pub acting : Doing → Bool
acting resting = false
acting take_idx = true
acting take_head = true
acting (take_chain h k t i bs) = true
acting (complete_id h l) = true
acting (complete_len h l) = true
acting (complete_idx h l) = true

abbrev pub doing : Device → Doing → Device
doing d a = record { taken = d.taken; used = d.used; holds = d.holds; doing = a }

abbrev pub goes : Device → Doing → Memory → Worked
goes d a m = record { device = doing d a; memory = m; done = going }

abbrev pub comes : Device → Result → Memory → Worked
comes d r m = record { device = doing d resting; memory = m; done = ended r }

-- ---- openings and steps

-- h without the first place where it stands
unfoldable pub without : ℕ → List ℕ → List ℕ
without h [] = []
without h (x ∷ xs) = cond (eqb h x) xs (x ∷ without h xs)

module _ (w : Wiring) where
  abbrev see : Place → Memory → ℕ
  see p m = load_at (spot w.legacy w.n p) m

  abbrev put : Place → ℕ → Memory → Memory
  put p v m = store_at (spot w.legacy w.n p) v m

  -- An opening: take and complete make no load and no store yet; a single step is made at once.
  abbrev pub begin : Act → Device → Memory → Worked
  begin take_next d m = goes d take_idx m
  begin (complete h l) d m = cond (may_give_back d.holds h) (goes d (complete_id h l) m) (comes d not_taken m)
  begin (set_used_flags v) d m = comes d stored (put used_flags v m)
  begin (set_avail_event v) d m = comes d stored (put avail_event v m)
  begin see_avail_flags d m = comes d (saw (see avail_flags m)) m
  begin see_used_event d m = comes d (saw (see used_event m)) m

  -- entry i of the table that is read
  abbrev place_in : Table → ℕ → Place
  place_in in_table i = desc i
  place_in (in_list s) i = entry (s + i)

  -- the chain is taken: the device counts on, and holds its head
  abbrev pub takes : ℕ → List Buffer → Device → Memory → Worked
  takes h bs d m =
      comes (record { taken = after d.taken; used = d.used; holds = d.holds ++ (h ∷ []); doing = d.doing }) (took h bs) m

  -- after descriptor x was read with k more to read: on to the indirect list that it refers to, along its next, or at the end
  abbrev pub reads : ℕ → ℕ → Table → List Buffer → Desc → Device → Memory → Worked
  reads h k in_table bs x d m =
      cond (has_indirect x) (goes d (take_chain h k (in_list ((x.addr - w.base) / 16)) 0 bs) m)
      (cond (has_next x) (goes d (take_chain h k in_table x.next (bs ++ (buffer_of x ∷ []))) m)
      (takes h (bs ++ (buffer_of x ∷ [])) d m))
  reads h k (in_list s) bs x d m =
      cond (has_next x) (goes d (take_chain h k (in_list s) x.next (bs ++ (buffer_of x ∷ []))) m)
      (takes h (bs ++ (buffer_of x ∷ [])) d m)

  -- one descriptor is loaded; a chain has no more than n buffers and one indirect descriptor
  abbrev pub chain_step : ℕ → ℕ → Table → ℕ → List Buffer → Device → Memory → Worked
  chain_step h zero t i bs d m = takes h bs d m
  chain_step h (suc k) t i bs d m = reads h k t bs (load_desc_at (spot w.legacy w.n (place_in t i)) m) d m

  abbrev pub take_idx_work : Device → Memory → Worked
  take_idx_work d m = cond (eqb (see avail_idx m) d.taken) (comes d none_available m) (goes d take_head m)

  abbrev pub take_head_work : Device → Memory → Worked
  take_head_work d m =
      let h : ℕ = see (avail_ring (d.taken % w.n)) m in
      goes d (take_chain h (w.n + 1) in_table h []) m

  -- the last store of a complete: idx counts on, and the head is held no more
  abbrev pub complete_idx_work : ℕ → Device → Memory → Worked
  complete_idx_work h d m =
      comes (record { taken = d.taken; used = after d.used; holds = without h d.holds; doing = d.doing }) completed
      (put used_idx (after d.used) m)

  abbrev pub work : Doing → Device → Memory → Worked
  work resting d m = record { device = d; memory = m; done = going }
  work take_idx d m = take_idx_work d m
  work take_head d m = take_head_work d m
  work (take_chain h k t i bs) d m = chain_step h k t i bs d m
  work (complete_id h l) d m = goes d (complete_len h l) (put (used_id (d.used % w.n)) h m)
  work (complete_len h l) d m = goes d (complete_idx h l) (put (used_len (d.used % w.n)) l m)
  work (complete_idx h l) d m = complete_idx_work h d m

  -- The three stores of a complete are the ones by which VIRTIO has a chain given back.
  pub completes : (h l : ℕ) (d : Device) (m : Memory)
      → (work (complete_idx h l) d (work (complete_len h l) d (work (complete_id h l) d m).memory).memory).memory
      ≡ written w.legacy w.n (giving_back w.n d.used h l) m
  completes h l d m = refl

  -- Each makes one of them, and in their order.
  pub completes_first : (h l : ℕ) (d : Device) (m : Memory)
      → (work (complete_id h l) d m).memory ≡ written w.legacy w.n (take 1 (giving_back w.n d.used h l)) m
  completes_first h l d m = refl

  pub completes_second : (h l : ℕ) (d : Device) (m : Memory)
      → (work (complete_len h l) d m).memory ≡ written w.legacy w.n (take 1 (drop 1 (giving_back w.n d.used h l))) m
  completes_second h l d m = refl

  pub completes_last : (h l : ℕ) (d : Device) (m : Memory)
      → (work (complete_idx h l) d m).memory ≡ written w.legacy w.n (drop 2 (giving_back w.n d.used h l)) m
  completes_last h l d m = refl
