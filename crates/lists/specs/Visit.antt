-- Names met one by one and marked: the bridge from `once_each` to loops over walks that stop at the first repeat. What is still to be answered is told by the
-- names that are still to come, so that a loop's invariant says nothing of those passed.
use Rattle.std.specs.Prelude.{◌≡◌, refl, List, [], ◌∷◌, ◌++◌, Bool, true, false, not, ◌&&◌, ◌||◌, eqb}
use Rattle.std.proofs.Common.{sym, ◌∙◌, eqb-true, get_or-set_same, get_or-set_other}
use Rattle.std.proofs.Math.Path.{ap}
use Rattle.std.proofs.Math.Bool.{and-true, and-false}
use Prim.Native.Nat.{ℕ, zero, suc, ◌-◌, ◌≤◌, ◌<◌}
use native.Mathlib.Omega.{arith}
use Rattle.std.proofs.lemmas.Bool.{eqb-false}
use Rattle.std.proofs.Math.Dec.{eqb-suc-suc, eqb-suc-zero, eqb-zero-suc}
use lib.ListN.{length, get_or, set, length-set, replicate, get_or-replicate}
use Rattle.lists.specs.Once.{mem, no_dup, once_each, Below, below_all}
use Rattle.lists.specs.Walk.{walk}

-- each name is not marked yet, and is marked; and as many are met as were left
unfoldable pub visit : List Bool → ℕ → List ℕ → Bool
visit seen left [] = eqb left 0
visit seen zero (x ∷ xs) = false
visit seen (suc left) (x ∷ xs) = not (get_or seen x false) && visit (set seen x true) left xs

visit_seen : (seen : List Bool) (left x : ℕ) (xs : List ℕ) → get_or seen x false ≡ true → visit seen left (x ∷ xs) ≡ false
unfolding visit
visit_seen seen zero x xs h = refl
visit_seen seen (suc left) x xs h = rw h

visit_next : (seen : List Bool) (left x : ℕ) (xs : List ℕ) → 0 < left → get_or seen x false ≡ false
    → visit seen left (x ∷ xs) ≡ visit (set seen x true) (left - 1) xs
unfolding visit
visit_next seen zero x xs p h = absurd (omega arith)
visit_next seen (suc left) x xs p h = rw h (ap (λ n. visit (set seen x true) n xs) (omega arith))

-- ---- one walk, and then what comes after it

module _ (next : ℕ → ℕ) where
  -- its first number, and the walk from there
  pub walk_next : (k i : ℕ) → 0 < k → walk next k i ≡ i ∷ walk next (k - 1) (next i)
  unfolding walk
  walk_next zero i p = absurd (omega arith)
  walk_next (suc k) i p =
      let e : k ≡ suc k - 1 = omega arith in
      ap (λ m. i ∷ walk next m (next i)) e

  -- with m to go from j: met before; and on
  module _ (seen : List Bool) (left m j : ℕ) (rest : List ℕ) (p : 0 < m) where
    pub walk_seen : get_or seen j false ≡ true → visit seen left (walk next m j ++ rest) ≡ false
    walk_seen e = rw (walk_next m j p, visit_seen seen left j _ e)

    pub walk_met : 0 < left → get_or seen j false ≡ false → visit seen left (walk next m j ++ rest) ≡ visit (set seen j true) (left - 1) (walk next (m - 1) (next j) ++ rest)
    walk_met l e = rw (walk_next m j p, visit_next seen left j _ l e)

-- ---- that is what `once_each` says

-- none of the list is marked
clear : List Bool → List ℕ → Bool
clear seen [] = true
clear seen (x ∷ xs) = not (get_or seen x false) && clear seen xs

swap : (a b c : Bool) → (a && (b && c)) ≡ (b && (a && c))
swap true b c = refl
swap false true c = refl
swap false false c = refl

shuffle : (m a c d e : Bool) → (m && (((a && c) && d) && e)) ≡ (((m && c) && (a && d)) && e)
shuffle false a c d e = refl
shuffle true true c d e = refl
shuffle true false true d e = refl
shuffle true false false d e = refl

clear_set : (seen : List Bool) (x : ℕ) (xs : List ℕ) → x < length seen → clear (set seen x true) xs ≡ (not (mem x xs) && clear seen xs)
unfolding clear mem
clear_set seen x [] h = refl
clear_set seen x (y ∷ ys) h = go (eqb x y) refl (clear_set seen x ys h)
  where
    go : (b : Bool) → eqb x y ≡ b → clear (set seen x true) ys ≡ (not (mem x ys) && clear seen ys)
        → (not (get_or (set seen x true) y false) && clear (set seen x true) ys) ≡ (not (eqb x y || mem x ys) && (not (get_or seen y false) && clear seen ys))
    go true e ih =
        let same : get_or (set seen x true) y false ≡ true = ap (λ z. get_or (set seen x true) z false) (sym (eqb-true x y e)) ∙ get_or-set_same seen x true false h in
        rw (same, e)
    go false e ih =
        rw (get_or-set_other seen x y true false (λ f. eqb-false x y e (sym f)), e, ih) (swap (not (get_or seen y false)) (not (mem x ys)) (clear seen ys))

visit_is : (xs : List ℕ) (seen : List Bool) (left : ℕ) → Below (length seen) xs → visit seen left xs ≡ ((clear seen xs && no_dup xs) && eqb (length xs) left)
unfolding visit clear no_dup
visit_is [] seen zero b = refl
visit_is [] seen (suc left) b = eqb-suc-zero left ∙ sym (eqb-zero-suc left)
visit_is (x ∷ xs) seen zero b = rw (eqb-suc-zero (length xs)) (sym (and-false (clear seen (x ∷ xs) && no_dup (x ∷ xs))))
visit_is (x ∷ xs) seen (suc left) b =
    let b' : Below (length (set seen x true)) xs = rw (length-set seen x true) b.1 in
    rw (visit_is xs (set seen x true) left b', clear_set seen x xs b.0, eqb-suc-suc (length xs) left)
    (shuffle (not (get_or seen x false)) (not (mem x xs)) (clear seen xs) (no_dup xs) (eqb (length xs) left))

clear_none : (n : ℕ) (xs : List ℕ) → Below n xs → clear (replicate n false) xs ≡ true
unfolding clear
clear_none n [] b = refl
clear_none n (x ∷ xs) b = rw (get_or-replicate {A = Bool} n x false false b.0, clear_none n xs b.1)

below_more : (n m : ℕ) (xs : List ℕ) → n ≤ m → Below n xs → Below m xs
below_more n m [] h a = tt
below_more n m (x ∷ xs) h a = (let p = a.0 in omega arith, below_more n m xs h a.1)

-- THE LAW: with as many marks as there are numbers, or more, none of them set
pub once_visit : (room n : ℕ) (xs : List ℕ) → n ≤ room → Below n xs → once_each n xs ≡ visit (replicate room false) n xs
unfolding once_each
once_visit room n xs h b =
    let w : Below room xs = below_more n room xs h b in
    let v : Below (length (replicate {A = Bool} room false)) xs = rw (lib.ListN.length-replicate {A = Bool} room false) w in
    rw (visit_is xs (replicate room false) n v, clear_none room xs w, below_all n xs b)
    (ap (λ t. no_dup xs && t) (and-true (eqb (length xs) n)))
