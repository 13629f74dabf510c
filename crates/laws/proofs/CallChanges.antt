-- What memory a run, a pop and an add may change, byte by byte: the bytes of the places in the call's list, and no others.
use Rattle.std.specs.Prelude.{Bool, true, false, cond, ◌&&◌, List, ℕ, ◌+◌, ltb, eqb, length}
use Rattle.std.proofs.Math.Path.{refl}
use Rattle.std.proofs.Common.{sym, ap, subst, ◌∙◌}
use Rattle.virtio.specs.declared.Buffer.{Buffer}
use Rattle.virtio.specs.Memory.{Memory, Region}
use Rattle.rules.specs.declared.Open.TheVariants.{PopIdx}
use Rattle.rules.specs.Record.{Queue, with_call}
use Rattle.rules.specs.Answer.{Outcome, refused}
use Rattle.rules.specs.Step.{loaded, access, move}
use Rattle.rules.specs.Calls.{add_refusal, call_refusal, step_refusal, add_direct, add_indirect, add_opened, opened, matches, open_add, open_pop, and_then, moves, run, add, pop_used}
use Rattle.laws.specs.AddKeeps.{Addable}
use Rattle.laws.specs.CallKeeps.{Good, move_keeps, open_pop_keeps}
use Rattle.laws.specs.Opening.{addable, open_add_keeps}
use Rattle.laws.specs.Changes.{Clear, SameByte, add_places, pop_places, open_places, clear_on}
use Rattle.laws.proofs.Changes.{step_changes}
use Rattle.laws.specs.CallChanges.{moves_hold, unless_holds, whole_holds, add_places_lem}

-- ---- the bytes that a run leaves

module _ (r : Region) (i : ℕ) (m : Memory) where
  -- the open call may store to none of the places where the byte lies, and it is as it was
  record Kept (o : Outcome) : Type 0 where
    good : Good o.queue
    clear : Clear o.queue (open_places o.queue o.queue.call) r i
    byte : SameByte r i o.memory m

  kept_on : (o : Outcome) → Kept o → Kept (and_then o (move o.queue o.memory))
  unfolding move
  kept_on o k = record {
    good = move_keeps o.queue o.memory k.good;
    clear =
        clear_on o.queue k.good r i o.queue.call refl (loaded o.queue (access o.queue o.queue.call) o.memory) k.clear;
    byte = step_changes o.queue o.memory k.good.well r i k.clear ∙ k.byte;
  }

  moves_kept : (b : ℕ) (q : Queue) → Good q → Clear q (open_places q q.call) r i → SameByte r i (moves b (opened q m)).memory m
  moves_kept b q g c =
      (moves_hold Kept kept_on b (opened q m) (record { good = g; clear = c; byte = refl })).byte

-- THE LAW of a run with any budget, of whatever call is open
pub run_changes : (b : ℕ) (q : Queue) (m : Memory) → Good q → (r : Region) (i : ℕ) → Clear q (open_places q q.call) r i → SameByte r i (run b q m).memory m
unfolding run
run_changes b q m g r i c =
    unless_holds (λ o. SameByte r i o.memory m) (step_refusal q m) q m _ refl (λ z. moves_kept r i m b q g c)

-- ---- pop

-- THE LAW
pub pop_changes : (q : Queue) (m : Memory) (t : ℕ) (bs : List Buffer) → Good q → (r : Region) (i : ℕ) → Clear q (pop_places q t) r i → SameByte r i (pop_used q m t bs).memory m
unfolding open_pop
pop_changes q m t bs g r i c =
    whole_holds (λ o. SameByte r i o.memory m) q.n (call_refusal q m) q (with_call q (PopIdx t (matches q t bs))) m refl
    (λ z. moves_kept r i m (q.n + 4) (with_call q (PopIdx t (matches q t bs)))
    (subst (λ b. Good (cond b (opened (with_call q (PopIdx t (matches q t bs))) m) (refused (call_refusal q m) q m)).queue) (ap (λ k. eqb k 0) z) (open_pop_keeps q m t bs g))
    c)

-- ---- add

module _ (q : Queue) (bs : List Buffer) (g : Good q) (a : Addable q bs) where
  -- and they lie where they did
  opened_clear : (r : Region) (i : ℕ) → Clear q (add_places q bs) r i → Clear (add_opened q bs) (open_places (add_opened q bs) (add_opened q bs).call) r i
  opened_clear r i c = go (q.modes.indirect && ltb 1 (length bs)) (subst (λ ps. Clear q ps r i) (sym (add_places_lem q bs g a)) c)
    where
      go : (b : Bool)
          → Clear q (open_places (cond b (add_indirect q bs) (add_direct q bs)) (cond b (add_indirect q bs) (add_direct q bs)).call) r i
          → Clear (cond b (add_indirect q bs) (add_direct q bs)) (open_places (cond b (add_indirect q bs) (add_direct q bs)) (cond b (add_indirect q bs) (add_direct q bs)).call) r i
      go true d = d
      go false d = d

-- THE LAW
pub add_changes : (q : Queue) (m : Memory) (bs : List Buffer) → Good q → (r : Region) (i : ℕ) → Clear q (add_places q bs) r i → SameByte r i (add q m bs).memory m
unfolding open_add
add_changes q m bs g r i c =
    whole_holds (λ o. SameByte r i o.memory m) q.n (add_refusal q m bs) q (add_opened q bs) m refl
    (λ z. moves_kept r i m (q.n + 4) (add_opened q bs)
    (subst (λ b. Good (cond b (opened (add_opened q bs) m) (refused (add_refusal q m bs) q m)).queue) (ap (λ k. eqb k 0) z) (open_add_keeps q m bs g))
    (opened_clear q bs g (addable q m bs g.well z) r i c))
