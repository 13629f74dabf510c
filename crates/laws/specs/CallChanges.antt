-- What holds of runs and of whole calls; and what memory a public step and set_dev_notify may change, byte by byte: the bytes of the places in the call's
-- list, and no others. That it is so of runs, pop and add is in proofs/.
use Rattle.std.specs.Prelude.{◌≡◌, Bool, true, false, cond, ◌&&◌, List, [], ◌∷◌, ◌++◌, map, ℕ, zero, suc, ◌+◌, ◌*◌, ◌/◌, ◌≤◌, ◌<◌, ltb, eqb, length, get_or, set}
use Rattle.std.proofs.Math.Path.{refl, fun_ext}
use Rattle.std.proofs.Common.{ap, ap₂, ◌∙◌, inl, arith, eqb-true, get_or-set_same}
use Rattle.lists.specs.Pick.{rising}
use Rattle.lists.specs.Walk.{walk}
use Rattle.virtio.specs.declared.Desc.{Desc}
use Rattle.virtio.specs.declared.Buffer.{Buffer}
use Rattle.virtio.specs.Desc.{no_desc, has_indirect}
use Rattle.virtio.specs.Memory.{Memory, Region, desc, entry, avail_flags, spot, store_at}
use Rattle.rules.specs.Record.{Queue, next_of, chain_of, entries_of, is_open}
use Rattle.rules.specs.Answer.{Outcome, refused, unless}
use Rattle.rules.specs.Step.{access, store, move}
use Rattle.rules.specs.Calls.{call_refusal, step_refusal, filled, more?, fill, head_desc, add_direct, add_indirect, add_opened, opened, and_then, moves, run, step, whole, answered, set_dev_notify}
use Rattle.laws.specs.FillLaws.{filled_direct, fill_links}
use Rattle.laws.specs.AddKeeps.{Addable}
use Rattle.laws.specs.CallKeeps.{Good}
use Rattle.laws.specs.Changes.{Clear, SameByte, publishing, add_places, adding_places, notify_places, open_places, Outside, access_changes, step_changes_one}

-- ---- what holds of runs and of whole calls

-- what a step keeps, a run keeps
pub moves_hold : (P : Outcome → Type 0) → ((o : Outcome) → P o → P (and_then o (move o.queue o.memory))) → (b : ℕ) (o : Outcome) → P o → P (moves b o)
unfolding moves
moves_hold P f zero o p = p
moves_hold P f (suc b) o p = go (is_open o.queue.call) _ (moves_hold P f b (and_then o (move o.queue o.memory)) (f o p))
  where
    go : (t : Bool) (x : Outcome) → P x → P (cond t x o)
    go true x y = y
    go false x y = p

-- a call that is refused with number k, or else has the outcome o
pub unless_holds : (P : Outcome → Type 0) (k : ℕ) (q : Queue) (m : Memory) (o : Outcome) → P (refused k q m) → (k ≡ 0 → P o) → P (unless k q m o)
unless_holds P k q m o f g = go (eqb k 0) refl
  where
    go : (b : Bool) → eqb k 0 ≡ b → P (cond b o (refused k q m))
    go true e = g (eqb-true k 0 e)
    go false e = f

-- and one that is refused, or else opened with the record r and run to its end
pub whole_holds : (P : Outcome → Type 0) (n k : ℕ) (q r : Queue) (m : Memory) → P (refused k q m) → (k ≡ 0 → P (moves (n + 4) (opened r m))) → P (whole n (unless k q m (opened r m)))
whole_holds P n k q r m f g = go (eqb k 0) refl
  where
    go : (b : Bool) → eqb k 0 ≡ b → P (whole n (cond b (opened r m) (refused k q m)))
    go true e = g (eqb-true k 0 e)
    go false e = rw e f

-- ---- a public step

-- THE LAW of a public step, refused or not: it changes no byte outside the one place that its own access stores to
pub step_call_changes : (q : Queue) (m : Memory) (r : Region) (i : ℕ) → Outside q (access q q.call) r i → SameByte r i (step q m).memory m
unfolding run moves
step_call_changes q m r i f =
    unless_holds (λ o. SameByte r i o.memory m) (step_refusal q m) q m _ refl (λ z. go (is_open q.call))
  where
    go : (b : Bool) → SameByte r i (cond b (and_then (opened q m) (move q m)) (opened q m)).memory m
    go true = step_changes_one q m r i f
    go false = refl

-- ---- the places of an add

-- a store to a table leaves what holds of the new entry and of the old ones
set_either : {A : Type 0} (P : A → Type 0) (l : List A) (i : ℕ) (y d : A) (j : ℕ) → P y → P (get_or l j d) → P (get_or (set l i y) j d)
set_either P [] i y d j p o = o
set_either P (x ∷ xs) zero y d zero p o = p
set_either P (x ∷ xs) zero y d (suc j) p o = o
set_either P (x ∷ xs) (suc i) y d zero p o = o
set_either P (x ∷ xs) (suc i) y d (suc j) p o = set_either P xs i y d j p o

fill_direct : (s : List Desc) (i : ℕ) (bs : List Buffer) (j : ℕ) → has_indirect (get_or s j no_desc) ≡ false → has_indirect (get_or (fill s i bs) j no_desc) ≡ false
unfolding fill
fill_direct s i [] j e = e
fill_direct s i (b ∷ bs) j e =
    let x : ℕ = (get_or s i no_desc).next in
    fill_direct (set s i (filled b (more? bs) x)) x bs j (set_either (λ d. has_indirect d ≡ false) s i (filled b (more? bs) x) no_desc j (filled_direct b (more? bs) x) e)

head_direct : (s : List Desc) (i : ℕ) (bs : List Buffer) → i < length s → 0 < length bs → has_indirect (get_or (fill s i bs) i no_desc) ≡ false
unfolding fill
head_direct s i [] l n = absurd (omega arith)
head_direct s i (b ∷ bs) l n =
    let x : ℕ = (get_or s i no_desc).next in
    fill_direct (set s i (filled b (more? bs) x)) x bs i (ap has_indirect (get_or-set_same s i (filled b (more? bs) x) no_desc l) ∙ filled_direct b (more? bs) x)

module _ (q : Queue) (bs : List Buffer) (g : Good q) (a : Addable q bs) where
  abbrev head : ℕ
  head = q.counts.free

  -- the places of the add that is open are those told before
  direct_places : adding_places (add_direct q bs) head ≡ map desc (walk (next_of q) (length bs) head) ++ publishing q
  direct_places =
      let r : Queue = add_direct q bs in
      let b : head < q.n = g.well.free in
      let s : q.n ≤ length q.tables.shadow = g.held.shadow in
      let n : q.n ≤ length q.tables.noted = g.held.noted in
      ap (λ t. cond t (map entry (rising (entries_of r head) (q.n * head)) ++ (desc head ∷ publishing q)) (map desc (chain_of r head) ++ publishing q))
      (head_direct q.tables.shadow head bs (omega arith) a.some)
      ∙ ap₂ (λ (f : ℕ → ℕ) (k : ℕ). map desc (walk f k head) ++ publishing q)
      (fun_ext (fill_links (next_of q) q.tables.shadow head bs (λ j. refl)))
      (get_or-set_same q.tables.noted head (length bs) 0 (omega arith))

  list_places : adding_places (add_indirect q bs) head ≡ map entry (rising (length bs) (q.n * head)) ++ (desc head ∷ publishing q)
  list_places =
      let r : Queue = add_indirect q bs in
      let b : head < q.n = g.well.free in
      let s : q.n ≤ length q.tables.shadow = g.held.shadow in
      let k : 16 * length bs / 16 ≡ length bs = omega arith in
      ap (λ (d : Desc). cond (has_indirect d) (map entry (rising (d.len / 16) (q.n * head)) ++ (desc head ∷ publishing q)) (map desc (chain_of r head) ++ publishing q))
      (get_or-set_same q.tables.shadow head (head_desc q head (length bs)) no_desc (omega arith))
      ∙ ap (λ j. map entry (rising j (q.n * head)) ++ (desc head ∷ publishing q)) k

  -- THE LAW
  pub add_places_lem : open_places (add_opened q bs) (add_opened q bs).call ≡ add_places q bs
  add_places_lem = go (q.modes.indirect && ltb 1 (length bs))
    where
      go : (b : Bool)
          → open_places (cond b (add_indirect q bs) (add_direct q bs)) (cond b (add_indirect q bs) (add_direct q bs)).call
          ≡ cond b (map entry (rising (length bs) (q.n * head)) ++ (desc head ∷ publishing q)) (map desc (walk (next_of q) (length bs) head) ++ publishing q)
      go true = list_places
      go false = direct_places

-- ---- set_dev_notify

-- THE LAW
pub notify_changes : (q : Queue) (m : Memory) (b : Bool) (r : Region) (i : ℕ) → Clear q (notify_places q) r i → SameByte r i (set_dev_notify q m b).memory m
unfolding set_dev_notify
notify_changes q m b r i c =
    unless_holds (λ o. SameByte r i o.memory m) (call_refusal q m) q m _ refl (λ z. go q.modes.event_idx c)
  where
    go : (e : Bool) → Clear q (cond e [] (avail_flags ∷ [])) r i
        → SameByte r i (cond e (answered 0 0 q m) (answered 1 0 q (store_at (spot q.modes.legacy q.n avail_flags) (cond b 0 1) m))).memory m
    go true d = refl
    go false d = access_changes q m (store avail_flags (cond b 0 1)) (avail_flags ∷ []) r i tt (inl refl) d
