-- Whether what is left of a list of buffers is sound, where an output was seen before it or not: one law for each way out of a loop over the list and
-- for each turn, and the lists of a chain and of a slot unfolded by one buffer.
use Rattle.std.specs.Prelude.{◌≡◌, refl, Bool, true, false, cond, ◌&&◌, List, [], ◌∷◌, get_or}
use Rattle.std.proofs.Common.{sym, true≢false, eq-eqb, ne_eqb}
use Rattle.std.proofs.Math.Bool.{and-false}
use Prim.Native.Nat.{ℕ, zero, suc, ◌+◌, ◌-◌, ◌≤◌, ◌<◌}
use native.Mathlib.Omega.{arith}
use Rattle.lists.specs.Pick.{rising}
use Rattle.lists.specs.Walk.{walk}
use Rattle.virtio.specs.declared.Buffer.{Buffer}
use Rattle.virtio.specs.Desc.{has_write}
use Rattle.virtio.specs.Chain.{all_outputs, in_order}
use Rattle.rules.specs.WellFormed.{no_empty, sound_list}
use Rattle.views.specs.Views.{at, flagged, piece, direct, entries}

-- no buffer of the rest is empty, and none is an input after an output
unfoldable pub sound_rest : Bool → List Buffer → Bool
sound_rest written bs = no_empty bs && cond written (all_outputs bs) (in_order bs)

pub rest_start : (bs : List Buffer) → sound_list bs ≡ sound_rest false bs
unfolding sound_rest
rest_start bs = refl

pub rest_none : (written : Bool) (bs : List Buffer) → bs ≡ [] → sound_rest written bs ≡ true
unfolding sound_rest no_empty all_outputs in_order
rest_none true bs e = rw e
rest_none false bs e = rw e

pub rest_empty : {l : ℕ} {output : Bool} {bs cs : List Buffer} (written : Bool) → bs ≡ piece l output ∷ cs → l ≡ 0 → sound_rest written bs ≡ false
unfolding sound_rest no_empty
rest_empty {l} written e z = rw (e, no_empty, eq-eqb l 0 z)

pub rest_input : {l : ℕ} {output : Bool} {bs cs : List Buffer} (written : Bool) → bs ≡ piece l output ∷ cs → written ≡ true → output ≡ false → sound_rest written bs ≡ false
unfolding sound_rest all_outputs
rest_input {l} {output} {bs} {cs} written e w o = rw (e, w, o, all_outputs) (and-false (no_empty (piece l false ∷ cs)))

next_cons : (l : ℕ) (cs : List Buffer) (written output : Bool) → (l ≡ 0 → ⊥) → (written ≡ true → output ≡ true) → sound_rest written (piece l output ∷ cs) ≡ sound_rest output cs
unfolding sound_rest no_empty all_outputs in_order
next_cons l cs true true z f = rw (ne_eqb l 0 z)
next_cons l cs true false z f = absurd (true≢false (sym (f refl)))
next_cons l cs false true z f = rw (ne_eqb l 0 z)
next_cons l cs false false z f = rw (ne_eqb l 0 z)

pub rest_next : {l : ℕ} {output : Bool} {bs cs : List Buffer} (written : Bool) → bs ≡ piece l output ∷ cs → (l ≡ 0 → ⊥) → (written ≡ true → output ≡ true) → sound_rest written bs ≡ sound_rest output cs
rest_next {l} {output} {bs} {cs} written e z f = rw e (next_cons l cs written output z f)

-- ---- the buffers of a direct chain, and the entries of a slot

module _ (next flags len : List ℕ) where
  pub direct_none : (k i : ℕ) → k ≡ 0 → direct next flags len k i ≡ []
  unfolding walk
  direct_none k i e = rw (e, walk)

  pub direct_next : (k i : ℕ) → 0 < k → direct next flags len k i ≡ piece (at len i) (has_write (flagged (at flags i))) ∷ direct next flags len (k - 1) (at next i)
  unfolding walk
  direct_next zero i p = absurd (omega arith)
  direct_next (suc k) i p =
      let e : suc k - 1 ≡ k = omega arith in
      rw e

module _ (lens : List ℕ) (sides : List Bool) (from k : ℕ) where
  pub entries_none : (m : ℕ) → k ≤ m → entries lens sides (from + m) (k - m) ≡ []
  unfolding rising
  entries_none m l =
      let e : k - m ≡ 0 = omega arith in
      rw (e, rising)

  pub entries_next : (m : ℕ) → m < k → entries lens sides (from + m) (k - m) ≡ piece (at lens (from + m)) (get_or sides (from + m) false) ∷ entries lens sides (from + (m + 1)) (k - (m + 1))
  unfolding rising
  entries_next m l =
      let e : k - m ≡ suc (k - (m + 1)) = omega arith in
      let p : from + (m + 1) ≡ suc (from + m) = omega arith in
      rw (e, p, rising)
