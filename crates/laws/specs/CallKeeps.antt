-- Demand 1's law of the calls: opened, stepped, run or whole, over any memory, each leaves a well-formed record well formed.
use Rattle.std.specs.Prelude.{◌≡◌, refl, Bool, true, false, cond, not, List, [], ◌∷◌, ℕ, zero, suc, ◌+◌, eqb}
use Rattle.std.proofs.Common.{sym, ap, ◌∙◌, arith, eqb-true}
use Rattle.lists.specs.Pick.{Test, ◌when◌}
use Rattle.lists.specs.PickLaws.{first_none, NoneOf}
use Rattle.virtio.specs.declared.Buffer.{Buffer}
use Rattle.virtio.specs.Memory.{Memory}
use Rattle.rules.specs.declared.Open.{Open}
use Rattle.rules.specs.declared.Open.TheVariants.{Idle, Add, PopIdx, PopId, PopLen, PopStore, PeekIdx, PeekId}
use Rattle.rules.specs.Record.{Queue, is_open, is_add, with_call}
use Rattle.rules.specs.WellFormed.{well_formed}
use Rattle.rules.specs.Meaning.{WellFormed, Named}
use Rattle.rules.specs.Answer.{Outcome, refused, unless, BadRecord, BadRegion, Busy}
use Rattle.rules.specs.Step.{access, loaded, move}
use Rattle.rules.specs.Calls.{fits, call_refusal, step_refusal, opened, matches, open_pop, open_peek, moves, run, whole, pop_used, peek_used}
use Rattle.laws.specs.Held.{Held}
use Rattle.laws.specs.StepKeeps.{call_keeps, react_keeps}
use Rattle.laws.specs.HeldKeeps.{held_call, held_react}

-- a record that is held and well formed
pub record Good (q : Queue) : Type 0 where
  pub held : Held q
  pub well : WellFormed q

either : (b : Bool) (x y : Outcome) → Good x.queue → Good y.queue → Good (cond b x y).queue
either true x y f g = f
either false x y f g = g

-- ---- steps and runs

pub move_keeps : (q : Queue) (m : Memory) → Good q → Good (move q m).queue
unfolding move
move_keeps q m g = record {
  held = held_react q g.held q.call (loaded q (access q q.call) m);
  well = react_keeps q g.held g.well q.call refl (loaded q (access q q.call) m);
}

pub moves_keeps : (b : ℕ) (o : Outcome) → Good o.queue → Good (moves b o).queue
unfolding moves
moves_keeps zero o g = g
moves_keeps (suc b) o g = either (is_open o.queue.call) _ o (moves_keeps b _ (move_keeps o.queue o.memory g)) g

pub run_keeps : (b : ℕ) (q : Queue) (m : Memory) → Good q → Good (run b q m).queue
unfolding run
run_keeps b q m g = either (eqb (step_refusal q m) 0) _ _ (moves_keeps b (opened q m) g) g

pub whole_keeps : (n : ℕ) (o : Outcome) → Good o.queue → Good (whole n o).queue
whole_keeps n o g = either (eqb o.answer 0) _ o (moves_keeps (n + 4) o g) g

-- ---- pop and peek

-- a call that is not open is none
pub none_open : (c : Open) → is_open c ≡ false → c ≡ Idle
none_open Idle e = refl
none_open (Add h i) e = absurd (let z : ◌≡◌ {A = ℕ} 0 1 = ap (λ t. cond t 0 1) e in omega arith)
none_open (PopIdx t b) e = absurd (let z : ◌≡◌ {A = ℕ} 0 1 = ap (λ t. cond t 0 1) e in omega arith)
none_open (PopId t b) e = absurd (let z : ◌≡◌ {A = ℕ} 0 1 = ap (λ t. cond t 0 1) e in omega arith)
none_open (PopLen t b d) e = absurd (let z : ◌≡◌ {A = ℕ} 0 1 = ap (λ t. cond t 0 1) e in omega arith)
none_open (PopStore k i l) e = absurd (let z : ◌≡◌ {A = ℕ} 0 1 = ap (λ t. cond t 0 1) e in omega arith)
none_open PeekIdx e = absurd (let z : ◌≡◌ {A = ℕ} 0 1 = ap (λ t. cond t 0 1) e in omega arith)
none_open PeekId e = absurd (let z : ◌≡◌ {A = ℕ} 0 1 = ap (λ t. cond t 0 1) e in omega arith)

opens : (q : Queue) (m : Memory) (c : Open) → Good q → is_add c ≡ false → Named q c → Good (unless (call_refusal q m) q m (opened (with_call q c) m)).queue
opens q m c g a n = go (eqb (call_refusal q m) 0) refl
  where
    tests : List Test
    tests = (BadRecord when not (well_formed q)) ∷ (BadRegion when not (fits q m)) ∷ (Busy when is_open q.call) ∷ []

    go : (b : Bool) → eqb (call_refusal q m) 0 ≡ b → Good (cond b (opened (with_call q c) m) (refused (call_refusal q m) q m)).queue
    go true e =
        let t : NoneOf tests = first_none tests (omega arith) (eqb-true (call_refusal q m) 0 e) in
        record { held = held_call q g.held c; well = call_keeps q c g.well (a ∙ sym (ap is_add (none_open q.call t.1.1.0))) n }
    go false e = g

pub open_pop_keeps : (q : Queue) (m : Memory) (t : ℕ) (bs : List Buffer) → Good q → Good (open_pop q m t bs).queue
unfolding open_pop
open_pop_keeps q m t bs g = opens q m (PopIdx t (matches q t bs)) g refl tt

pub open_peek_keeps : (q : Queue) (m : Memory) → Good q → Good (open_peek q m).queue
unfolding open_peek
open_peek_keeps q m g = opens q m PeekIdx g refl tt

pub pop_keeps : (q : Queue) (m : Memory) (t : ℕ) (bs : List Buffer) → Good q → Good (pop_used q m t bs).queue
pop_keeps q m t bs g = whole_keeps q.n (open_pop q m t bs) (open_pop_keeps q m t bs g)

pub peek_keeps : (q : Queue) (m : Memory) → Good q → Good (peek_used q m).queue
peek_keeps q m g = whole_keeps q.n (open_peek q m) (open_peek_keeps q m g)
