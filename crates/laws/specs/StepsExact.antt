-- Exactly how many steps an open call still takes on a memory that nothing else touches in between, from the numbers that it would load there: all loads come
-- before the first store, so that no store alters them. That a step takes one of them is in proofs/.
use Rattle.std.specs.Prelude.{◌≡◌, refl, Bool, true, false, cond, ℕ, ◌+◌, ◌-◌, ◌≤◌, eqb}
use Rattle.std.proofs.Common.{sym, ap, arith, eqb-true}
use Rattle.std.proofs.lemmas.Bool.{false≢true}
use Rattle.virtio.specs.Memory.{Memory}
use Rattle.rules.specs.declared.Open.{Open}
use Rattle.rules.specs.declared.Open.TheVariants.{Idle, Add, PopIdx, PopId, PopLen, PopStore, PeekIdx, PeekId}
use Rattle.rules.specs.Record.{Queue, is_open}
use Rattle.rules.specs.WellFormed.{add_steps, store_steps}
use Rattle.rules.specs.Step.{verdict, stored_count}
use Rattle.laws.specs.StepsLeft.{stores_due, left_most, passed}
use Rattle.laws.specs.Popped.{used_idx_of, used_id_of}

-- ---- the number

-- the stores of a pop behind its loads: none where its checks of the loaded id fail
abbrev pub stores_at : Queue → ℕ → Bool → ℕ → ℕ
stores_at q t b d = cond (eqb (verdict q t b d) 0) (store_steps q (stored_count q t)) 0

module _ (q : Queue) (m : Memory) where
  -- the steps that the call still takes, if nothing else stores to m meanwhile
  abbrev pub left_in : Open → ℕ
  left_in Idle = 0
  left_in (Add h i) = add_steps q h - i
  left_in (PopIdx t b) = cond (eqb (used_idx_of q m) q.counts.last) 1 (3 + stores_at q t b (used_id_of q m))
  left_in (PopId t b) = 2 + stores_at q t b (used_id_of q m)
  left_in (PopLen t b d) = 1 + stores_at q t b d
  left_in (PopStore k i l) = store_steps q k - i
  left_in PeekIdx = cond (eqb (used_idx_of q m) q.counts.last) 1 2
  left_in PeekId = 1

-- with no call open there are none
pub closed_none : (q : Queue) (m : Memory) (c : Open) → is_open c ≡ false → left_in q m c ≡ 0
closed_none q m Idle e = refl
closed_none q m (Add h i) e = absurd (false≢true (sym e))
closed_none q m (PopIdx t b) e = absurd (false≢true (sym e))
closed_none q m (PopId t b) e = absurd (false≢true (sym e))
closed_none q m (PopLen t b d) e = absurd (false≢true (sym e))
closed_none q m (PopStore k i l) e = absurd (false≢true (sym e))
closed_none q m PeekIdx e = absurd (false≢true (sym e))
closed_none q m PeekId e = absurd (false≢true (sym e))

-- and never more than the most that there may be
module _ (q : Queue) (m : Memory) where
  stores_within : (t : ℕ) (b : Bool) (d : ℕ) → stores_at q t b d ≤ stores_due q t
  stores_within t b d = go (eqb (verdict q t b d) 0) refl
    where
      go : (z : Bool) → eqb (verdict q t b d) 0 ≡ z → cond z (store_steps q (stored_count q t)) 0 ≤ stores_due q t
      go true e =
          let y : stores_due q t ≡ store_steps q (stored_count q t) = ap (λ z. cond z (store_steps q (stored_count q t)) 0) (passed q t b d (eqb-true (verdict q t b d) 0 e)).1 in
          omega arith
      go false e = omega arith

  lesser : (b : Bool) (x y k : ℕ) → x ≤ k → y ≤ k → cond b x y ≤ k
  lesser true x y k f g = f
  lesser false x y k f g = g

  pub left_within : (c : Open) → left_in q m c ≤ left_most q c
  left_within Idle = omega arith
  left_within (Add h i) = omega arith
  left_within (PopIdx t b) =
      let s : stores_at q t b (used_id_of q m) ≤ stores_due q t = stores_within t b (used_id_of q m) in
      lesser (eqb (used_idx_of q m) q.counts.last) 1 (3 + stores_at q t b (used_id_of q m)) (3 + stores_due q t) (omega arith) (omega arith)
  left_within (PopId t b) =
      let s : stores_at q t b (used_id_of q m) ≤ stores_due q t = stores_within t b (used_id_of q m) in
      omega arith
  left_within (PopLen t b d) =
      let s : stores_at q t b d ≤ stores_due q t = stores_within t b d in
      omega arith
  left_within (PopStore k i l) = omega arith
  left_within PeekIdx = lesser (eqb (used_idx_of q m) q.counts.last) 1 2 2 (omega arith) (omega arith)
  left_within PeekId = omega arith
