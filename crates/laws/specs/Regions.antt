-- Steps and openings keep the layout and the lengths of the regions: memory that fits a record still fits after any run, so that no later step is refused.
use Rattle.std.specs.Prelude.{◌≡◌, refl, Bool, true, false, not, cond, ◌&&◌, ◌||◌, List, [], ◌∷◌, ℕ, zero, suc, ◌+◌, ltb, leb, eqb, length}
use Rattle.std.proofs.Common.{ap, ap₂, ◌∙◌}
use Rattle.lists.specs.Tests.{by_test}
use Rattle.lists.specs.Pick.{◌when◌, first}
use Rattle.virtio.specs.declared.Buffer.{Buffer}
use Rattle.virtio.specs.Layout.{need_one, need_two, need_pool}
use Rattle.virtio.specs.Memory.{Memory}
use Rattle.rules.specs.declared.Modes.{Modes}
use Rattle.rules.specs.declared.Open.{Open}
use Rattle.rules.specs.declared.Open.TheVariants.{Idle, Add, PopIdx, PopId, PopLen, PopStore, PeekIdx, PeekId}
use Rattle.rules.specs.Record.{Queue, is_open}
use Rattle.rules.specs.WellFormed.{add_steps, store_steps}
use Rattle.rules.specs.Answer.{Outcome, BadRecord, BadRegion}
use Rattle.rules.specs.Step.{access, loaded, Reaction, verdict, stored_count, react, move}
use Rattle.rules.specs.Calls.{fits, step_refusal, add_opened, add_direct, add_indirect, moves}
use Rattle.laws.specs.WellFormedIs.{means_well_formed}
use Rattle.laws.specs.CallKeeps.{Good}
use Rattle.laws.specs.Changes.{SameLengths, access_lengths}
use Rattle.laws.specs.Runs.{onward, moves_closed, moves_open}

-- p has the layout of q
pub record Shaped (p q : Queue) : Type 0 where
  pub n : p.n ≡ q.n
  pub modes : p.modes ≡ q.modes

-- what fits depends on no more
abbrev fits_of : Modes → ℕ → ℕ → ℕ → ℕ → Bool
fits_of o n one two pool =
    leb (need_one o.legacy n) one && (leb (need_two o.legacy n) two && (not o.indirect || leb (need_pool n) pool))

pub still_fits : (p q : Queue) (x m : Memory) → Shaped p q → SameLengths x m → fits p x ≡ fits q m
still_fits p q x m s l =
    ap (λ k. fits_of p.modes k (length x.one) (length x.two) (length x.pool)) s.n
    ∙ ap (λ o. fits_of o q.n (length x.one) (length x.two) (length x.pool)) s.modes
    ∙ ap (λ k. fits_of q.modes q.n k (length x.two) (length x.pool)) l.one
    ∙ ap (λ k. fits_of q.modes q.n (length m.one) k (length x.pool)) l.two
    ∙ ap (λ k. fits_of q.modes q.n (length m.one) (length m.two) k) l.pool

-- ---- a step

module _ (q : Queue) where
  either : (b : Bool) (x y : Reaction) → Shaped x.queue q → Shaped y.queue q → Shaped (cond b x y).queue q
  either true x y h k = h
  either false x y h k = k

  pub react_shaped : (c : Open) (v : ℕ) → Shaped (react q c v).queue q
  react_shaped Idle v = record { n = refl; modes = refl }
  react_shaped (Add h i) v =
      either (ltb (i + 1) (add_steps q h)) _ _ (record { n = refl; modes = refl }) (record { n = refl; modes = refl })
  react_shaped (PopIdx t b) v =
      either (eqb v q.counts.last) _ _ (record { n = refl; modes = refl }) (record { n = refl; modes = refl })
  react_shaped (PopId t b) v = record { n = refl; modes = refl }
  react_shaped (PopLen t b d) v =
      either (eqb (verdict q t b d) 0) _ _
      (either (eqb (store_steps q (stored_count q t)) 0) _ _ (record { n = refl; modes = refl }) (record { n = refl; modes = refl }))
      (record { n = refl; modes = refl })
  react_shaped (PopStore k i l) v =
      either (ltb (i + 1) (store_steps q k)) _ _ (record { n = refl; modes = refl }) (record { n = refl; modes = refl })
  react_shaped PeekIdx v =
      either (eqb v q.counts.last) _ _ (record { n = refl; modes = refl }) (record { n = refl; modes = refl })
  react_shaped PeekId v = record { n = refl; modes = refl }

move_fits : (q : Queue) (m : Memory) → fits (move q m).queue (move q m).memory ≡ fits q m
unfolding move
move_fits q m =
    still_fits _ q _ m (react_shaped q q.call (loaded q (access q q.call) m)) (access_lengths q m (access q q.call))

-- ---- THE LAW of runs

pub moves_fit : (b : ℕ) (o : Outcome) → fits (moves b o).queue (moves b o).memory ≡ fits o.queue o.memory
unfolding moves
moves_fit zero o = refl
moves_fit (suc b) o =
    by_test (is_open o.queue.call)
    (λ e. ap (λ r. fits r.queue r.memory) (moves_open b o e) ∙ moves_fit b (onward o) ∙ move_fits o.queue o.memory)
    (λ e. ap (λ r. fits r.queue r.memory) (moves_closed (suc b) o e))

-- ---- the opening of an add

pub add_shaped : (q : Queue) (bs : List Buffer) → Shaped (add_opened q bs) q
add_shaped q bs = go (q.modes.indirect && ltb 1 (length bs))
  where
    go : (b : Bool) → Shaped (cond b (add_indirect q bs) (add_direct q bs)) q
    go true = record { n = refl; modes = refl }
    go false = record { n = refl; modes = refl }

-- a step of a good record over memory that fits is not refused
pub step_goes : (q : Queue) (m : Memory) → Good q → fits q m ≡ true → step_refusal q m ≡ 0
step_goes q m g f =
    ap₂ (λ a b. first ((BadRecord when not a) ∷ (BadRegion when not b) ∷ [])) (means_well_formed q g.well) f
