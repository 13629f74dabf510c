-- What add's refusals leave where none applies, and so what the opening of an add keeps, direct or indirect.
use Rattle.std.specs.Prelude.{◌≡◌, refl, Bool, true, false, cond, not, ◌&&◌, ◌||◌, ◌⊎◌, List, ℕ, ◌+◌, ◌≤◌, ◌<◌, ltb, eqb, length}
use Rattle.std.proofs.Common.{ap, inl, inr, arith, eqb-true, ltb-true, ltb-false}
use Rattle.std.proofs.lemmas.Bool.{eqb-false, not-false}
use Rattle.lists.specs.PickLaws.{first_none, NoneOf}
use Rattle.lists.specs.Tests.{by_test, and_left, and_right}
use Rattle.virtio.specs.declared.Buffer.{Buffer}
use Rattle.virtio.specs.Memory.{Memory}
use Rattle.virtio.specs.Chain.{in_order}
use Rattle.rules.specs.Record.{Queue}
use Rattle.rules.specs.WellFormed.{no_empty}
use Rattle.rules.specs.Meaning.{WellFormed}
use Rattle.rules.specs.Answer.{refused}
use Rattle.rules.specs.Calls.{fits, add_tests, add_refusal, add_direct, add_indirect, add_opened, opened, open_add, add}
use Rattle.laws.specs.HeldKeeps.{held_add}
use Rattle.laws.specs.AddKeeps.{Addable, direct_keeps}
use Rattle.laws.specs.ListKeeps.{list_keeps}
use Rattle.laws.specs.CallKeeps.{Good, none_open, whole_keeps}

-- neither of two tests holds
or_false : (a b : Bool) → (a || b) ≡ false → (a ≡ false) × (b ≡ false)
or_false true b e = (e, absurd (let z : ◌≡◌ {A = ℕ} 0 1 = ap (λ t. cond t 0 1) e in omega arith))
or_false false b e = (refl, e)

module _ (q : Queue) (m : Memory) (bs : List Buffer) where
  pub addable : WellFormed q → add_refusal q m bs ≡ 0 → Addable q bs
  addable w e =
      let t : NoneOf (add_tests q (fits q m) bs) = first_none (add_tests q (fits q m) bs) (omega arith) e in
      let l = or_false (eqb (length bs) 0) (not (in_order bs)) t.1.1.1.0 in
      let f = or_false (eqb q.counts.used q.n) (ltb q.n (length bs) || (not q.modes.indirect && ltb q.n (q.counts.used + length bs))) t.1.1.1.1.0 in
      let g = or_false (ltb q.n (length bs)) (not q.modes.indirect && ltb q.n (q.counts.used + length bs)) f.1 in
      let n : (length bs ≡ 0 → ⊥) = eqb-false (length bs) 0 l.0 in
      let u : q.counts.used ≤ q.n = w.used in
      let d : (q.counts.used ≡ q.n → ⊥) = eqb-false q.counts.used q.n f.0 in
      record {
        idle = none_open q.call t.1.1.0;
        some = omega arith;
        order = not-false (in_order bs) l.1;
        room = omega arith;
        most = ltb-false q.n (length bs) g.0;
        direct = λ i. ltb-false q.n (q.counts.used + length bs) (rw i at g.1);
        filled = not-false (no_empty bs) t.1.1.1.1.1.0;
      }

-- direct or indirect, as the mode and the number of buffers tell
module _ (q : Queue) (bs : List Buffer) (a : Addable q bs) where
  -- what holds of the indirect opening and of the direct one holds of the opening
  pub by_opening : (P : Queue → Type 0) → (q.modes.indirect ≡ true → 1 < length bs → P (add_indirect q bs))
      → ((q.modes.indirect ≡ false) ⊎ (length bs ≡ 1) → P (add_direct q bs)) → P (add_opened q bs)
  by_opening P f g = go (q.modes.indirect && ltb 1 (length bs)) refl
    where
      go : (b : Bool) → (q.modes.indirect && ltb 1 (length bs)) ≡ b → P (cond b (add_indirect q bs) (add_direct q bs))
      go true e =
          f (and_left q.modes.indirect (ltb 1 (length bs)) e) (ltb-true 1 (length bs) (and_right q.modes.indirect (ltb 1 (length bs)) e))
      go false e = g (by_test q.modes.indirect (λ i. inr (one i)) (λ i. inl i))
        where
          one : q.modes.indirect ≡ true → length bs ≡ 1
          one i =
              let s : ltb 1 (length bs) ≡ false = rw i at e in
              let l : length bs ≤ 1 = ltb-false 1 (length bs) s in
              let p : 0 < length bs = a.some in
              omega arith

opened_keeps : (q : Queue) (bs : List Buffer) → Good q → Addable q bs → WellFormed (add_opened q bs)
opened_keeps q bs g a =
    by_opening q bs a WellFormed (list_keeps q bs g.held g.well a) (direct_keeps q bs g.held g.well a)

-- THE LAW of add: opened, and whole
pub open_add_keeps : (q : Queue) (m : Memory) (bs : List Buffer) → Good q → Good (open_add q m bs).queue
unfolding open_add
open_add_keeps q m bs g = go (eqb (add_refusal q m bs) 0) refl
  where
    go : (b : Bool) → eqb (add_refusal q m bs) 0 ≡ b → Good (cond b (opened (add_opened q bs) m) (refused (add_refusal q m bs) q m)).queue
    go true e =
        record { held = held_add q g.held bs; well = opened_keeps q bs g (addable q m bs g.well (eqb-true (add_refusal q m bs) 0 e)) }
    go false e = g

pub add_keeps : (q : Queue) (m : Memory) (bs : List Buffer) → Good q → Good (add q m bs).queue
add_keeps q m bs g = whole_keeps q.n (open_add q m bs) (open_add_keeps q m bs g)
