-- Comparison of two lists of buffers, one buffer at a time; and of the list that was added under a token.
use Rattle.std.specs.Prelude.{◌≡◌, refl, Bool, true, false, not, ◌&&◌, List, [], ◌∷◌, ℕ, suc, eqb, length, get_or}
use Rattle.std.proofs.Common.{sym, ◌∙◌}
use Rattle.std.proofs.Math.Path.{ap, ap₂}
use Rattle.std.specs.Bool.{beq}
use Rattle.std.proofs.lemmas.List.{length-map}
use Rattle.lists.specs.Pick.{rising, run_of}
use Rattle.lists.specs.PickLaws.{length_rising}
use Rattle.lists.specs.Walk.{walk, walk_length}
use Rattle.virtio.specs.declared.Desc.{Desc}
use Rattle.virtio.specs.declared.Buffer.{Buffer}
use Rattle.virtio.specs.Desc.{no_desc, buffer_of}
use Rattle.rules.specs.Record.{Tables}
use Rattle.rules.specs.Calls.{same_list}
use Rattle.opens.specs.Given.{next_in, direct_in, same_buffer}

-- lists of different lengths are not the same
pub same_lengths : (xs ys : List Buffer) → (length xs ≡ length ys → ⊥) → same_list xs ys ≡ false
unfolding same_list
same_lengths [] [] z = absurd (z refl)
same_lengths [] (y ∷ ys) z = refl
same_lengths (x ∷ xs) [] z = refl
same_lengths (x ∷ xs) (y ∷ ys) z = ands (eqb x.addr y.addr) (eqb x.len y.len) (beq x.output y.output) (same_list xs ys) (same_lengths xs ys (λ e. z (ap suc e)))
  where
    ands : (a b c d : Bool) → d ≡ false → (a && (b && (c && d))) ≡ false
    ands true true true d e = e
    ands true true false d e = refl
    ands true false c d e = refl
    ands false b c d e = refl

-- two lists that begin with x and y
and_three : (a b c d : Bool) → (a && (b && (c && d))) ≡ ((a && (b && c)) && d)
and_three true true c d = refl
and_three true false c d = refl
and_three false b c d = refl

module _ (xs ys us vs : List Buffer) (x y : Buffer) (e : xs ≡ x ∷ us) (f : ys ≡ y ∷ vs) where
  same_both : same_list xs ys ≡ (same_buffer x y && same_list us vs)
  unfolding same_list
  same_both =
      ap₂ same_list e f ∙ and_three (eqb x.addr y.addr) (eqb x.len y.len) (beq x.output y.output) (same_list us vs)

  pub same_next : same_buffer x y ≡ true → same_list xs ys ≡ same_list us vs
  same_next z = same_both ∙ ap (λ t. t && same_list us vs) z

  pub same_stop : same_buffer x y ≡ false → same_list xs ys ≡ false
  same_stop z = same_both ∙ ap (λ t. t && same_list us vs) z

pub same_none : (xs ys : List Buffer) → xs ≡ [] → ys ≡ [] → same_list xs ys ≡ true
unfolding same_list
same_none xs ys e f = ap₂ same_list e f

-- ---- the buffers of a direct chain, from its first on

pub direct_length : (t : Tables) (k h : ℕ) → length (direct_in t k h) ≡ k
direct_length t k h = length-map (walk (next_in t) k h) (λ i. buffer_of (get_or t.shadow i no_desc)) ∙ walk_length (next_in t) k h

pub direct_from : (t : Tables) (k m i : ℕ) (d : Desc) → k ≡ suc m → d ≡ get_or t.shadow i no_desc → direct_in t k i ≡ buffer_of d ∷ direct_in t m d.next
unfolding walk
direct_from t k m i d e f = ap (λ j. direct_in t j i) e ∙ ap (λ (x : Desc). buffer_of x ∷ direct_in t m x.next) (sym f)

pub direct_none : (t : Tables) (k i : ℕ) → k ≡ 0 → direct_in t k i ≡ []
unfolding walk
direct_none t k i e = ap (λ j. direct_in t j i) e

-- ---- and those of a private list

module _ (d : Buffer) (xs : List Buffer) where
  pub run_length : (a k : ℕ) → length (run_of d xs a k) ≡ k
  run_length a k = length-map (rising k a) (λ i. get_or xs i d) ∙ length_rising k a

  pub run_from : (a x k m : ℕ) (b : Buffer) → x ≡ suc a → k ≡ suc m → b ≡ get_or xs a d → run_of d xs a k ≡ b ∷ run_of d xs x m
  unfolding rising
  run_from a x k m b s e f = ap (run_of d xs a) e ∙ ap₂ (λ (y : Buffer) j. y ∷ run_of d xs j m) (sym f) (sym s)

  pub run_none : (a k : ℕ) → k ≡ 0 → run_of d xs a k ≡ []
  unfolding rising
  run_none a k e = ap (run_of d xs a) e

-- sides compared with a side that is known
pub beq_true : (b : Bool) → b ≡ beq true b
beq_true true = refl
beq_true false = refl

pub beq_false : (b : Bool) → not b ≡ beq false b
beq_false true = refl
beq_false false = refl

-- what a test for inequality tells
pub ne_stop : (a b : Buffer) (r : Bool) → r ≡ not (same_buffer a b) → r ≡ true → same_buffer a b ≡ false
ne_stop a b r e t = by_bool (same_buffer a b) (sym e ∙ t)
  where
    by_bool : (x : Bool) → not x ≡ true → x ≡ false
    by_bool true f = sym f
    by_bool false f = refl

pub ne_next : (a b : Buffer) (r : Bool) → r ≡ not (same_buffer a b) → r ≡ false → same_buffer a b ≡ true
ne_next a b r e t = by_bool (same_buffer a b) (sym e ∙ t)
  where
    by_bool : (x : Bool) → not x ≡ false → x ≡ true
    by_bool true f = refl
    by_bool false f = sym f
