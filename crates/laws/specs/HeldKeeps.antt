-- Steps and openings keep a record such as private memory can hold: no table changes its length, and the indices stay below 65,536.
use Rattle.std.specs.Prelude.{◌≡◌, refl, Bool, true, false, cond, ◌&&◌, List, [], ◌∷◌, ℕ, ◌+◌, ◌*◌, ltb, eqb, length, get_or, set, replicate}
use Rattle.std.proofs.Common.{◌∙◌, arith, length-set}
use Rattle.std.proofs.lemmas.List.Edits.{sets}
use Rattle.std.proofs.Math.Seq.{length-sets}
use Rattle.virtio.specs.declared.Desc.{Desc}
use Rattle.virtio.specs.declared.Buffer.{Buffer}
use Rattle.virtio.specs.Desc.{no_desc, no_buffer}
use Rattle.rules.specs.declared.Open.{Open}
use Rattle.rules.specs.declared.Open.TheVariants.{Idle, Add, PopIdx, PopId, PopLen, PopStore, PeekIdx, PeekId}
use Rattle.rules.specs.Record.{Queue, chain_of, last_of, is_indirect, entries_of, with_call}
use Rattle.rules.specs.WellFormed.{add_steps, store_steps}
use Rattle.rules.specs.Step.{Reaction, empty_all, freed, verdict, stored_count, react}
use Rattle.rules.specs.Calls.{fill, add_direct, add_indirect, add_opened}
use Rattle.laws.specs.Held.{Held}
use Rattle.laws.specs.FreeLaws.{empty_length}

module _ (q : Queue) (s : Held q) where
  -- with another call
  pub held_call : (c : Open) → Held (with_call q c)
  held_call c = record { shadow = s.shadow; noted = s.noted; kept = s.kept; avail = s.avail; last = s.last }

  -- with a token's chain freed, and another call
  kept_length : (t : ℕ) (b : Bool) → length (cond b (sets q.tables.kept (q.n * t) (replicate (entries_of q t) no_buffer)) q.tables.kept) ≡ length q.tables.kept
  kept_length t true = length-sets q.tables.kept (q.n * t) (replicate (entries_of q t) no_buffer)
  kept_length t false = refl

  held_freed : (t : ℕ) (c : Open) → Held (with_call (freed q t) c)
  held_freed t c =
      let e : length (freed q t).tables.shadow ≡ length q.tables.shadow = length-set (empty_all q.tables.shadow (chain_of q t)) (last_of q t) _ ∙ empty_length q.tables.shadow (chain_of q t) in
      let n : length (freed q t).tables.noted ≡ length q.tables.noted = length-set q.tables.noted t 0 in
      let k : length (freed q t).tables.kept ≡ length q.tables.kept = kept_length t (is_indirect q t) in
      record { shadow = rw e s.shadow; noted = rw n s.noted; kept = rw k s.kept; avail = s.avail; last = omega arith }

  either : (b : Bool) (x y : Reaction) → Held x.queue → Held y.queue → Held (cond b x y).queue
  either true x y h k = h
  either false x y h k = k

  -- THE LAW of steps
  pub held_react : (c : Open) (v : ℕ) → Held (react q c v).queue
  held_react Idle v = s
  held_react (Add h i) v =
      either (ltb (i + 1) (add_steps q h)) _ _ (held_call (Add h (i + 1)))
      (record { shadow = s.shadow; noted = s.noted; kept = s.kept; avail = omega arith; last = s.last })
  held_react (PopIdx t b) v = either (eqb v q.counts.last) _ _ (held_call Idle) (held_call (PopId t b))
  held_react (PopId t b) v = held_call (PopLen t b v)
  held_react (PopLen t b d) v =
      either (eqb (verdict q t b d) 0) _ _
      (either (eqb (store_steps q (stored_count q t)) 0) _ _ (held_freed t Idle) (held_freed t (PopStore (stored_count q t) 0 v)))
      (held_call Idle)
  held_react (PopStore k i l) v = either (ltb (i + 1) (store_steps q k)) _ _ (held_call (PopStore k (i + 1) l)) (held_call Idle)
  held_react PeekIdx v = either (eqb v q.counts.last) _ _ (held_call Idle) (held_call PeekId)
  held_react PeekId v = held_call Idle

-- ---- openings

fill_length : (s : List Desc) (i : ℕ) (bs : List Buffer) → length (fill s i bs) ≡ length s
unfolding fill
fill_length s i [] = refl
fill_length s i (b ∷ bs) = fill_length (set s i _) (get_or s i no_desc).next bs ∙ length-set s i _

module _ (q : Queue) (s : Held q) (bs : List Buffer) where
  held_direct : Held (add_direct q bs)
  held_direct =
      let e : length (add_direct q bs).tables.shadow ≡ length q.tables.shadow = fill_length q.tables.shadow q.counts.free bs in
      let n : length (add_direct q bs).tables.noted ≡ length q.tables.noted = length-set q.tables.noted q.counts.free (length bs) in
      record { shadow = rw e s.shadow; noted = rw n s.noted; kept = s.kept; avail = s.avail; last = s.last }

  held_indirect : Held (add_indirect q bs)
  held_indirect =
      let e : length (add_indirect q bs).tables.shadow ≡ length q.tables.shadow = length-set q.tables.shadow q.counts.free _ in
      let n : length (add_indirect q bs).tables.noted ≡ length q.tables.noted = length-set q.tables.noted q.counts.free 1 in
      let k : length (add_indirect q bs).tables.kept ≡ length q.tables.kept = length-sets q.tables.kept (q.n * q.counts.free) bs in
      record { shadow = rw e s.shadow; noted = rw n s.noted; kept = rw k s.kept; avail = s.avail; last = s.last }

  -- THE LAW of an add's opening
  pub held_add : Held (add_opened q bs)
  held_add = go (q.modes.indirect && ltb 1 (length bs))
    where
      go : (b : Bool) → Held (cond b (add_indirect q bs) (add_direct q bs))
      go true = held_indirect
      go false = held_direct
