-- Buffers one after another, told by what looking at each place ensures: `post i p` says that p may be told of place i, and `pre i` that it may be looked at.
use Rattle.std.specs.Prelude.{◌≡◌, refl, Bool, true, false, ◌∷◌, map}
use Rattle.std.proofs.Common.{sym, ap, ◌∙◌}
use Prim.Native.Nat.{ℕ, zero, suc, ◌+◌, ◌-◌, ◌≤◌, ◌<◌}
use native.Mathlib.Omega.{arith}
use Rattle.lists.specs.Pick.{rising}
use Rattle.lists.specs.Walk.{walk}
use Rattle.lists.specs.Visit.{walk_next}
use Rattle.virtio.specs.declared.Buffer.{Buffer}
use Rattle.rules.specs.WellFormed.{sound_list}
use Rattle.views.specs.Views.{piece}
use Rattle.heads.specs.Rest.{sound_rest, rest_start, rest_none, rest_empty, rest_input, rest_next}
use Rattle.heads.specs.declared.Place.{Place}

module _ (pre : ℕ → Type 0) (post : ℕ → Place → Type 0) where
  -- k places, the first of them i, may be looked at
  abbrev pub Seen : ℕ → ℕ → Type 0
  Seen zero i = Unit {0}
  Seen (suc k) i = pre i × ((p : Place) → post i p → Seen k p.next)

  pub seen_turn : (k i : ℕ) → 0 < k → Seen k i → pre i × ((p : Place) → post i p → Seen (k - 1) p.next)
  seen_turn zero i l s = absurd (omega arith)
  seen_turn (suc k) i l s = let e : suc k - 1 ≡ k = omega arith in rw e s

  -- places that stay where they may be looked at: one after another, or below a bound
  pub seen_rising : (k i end : ℕ) → i + k ≤ end → ((j : ℕ) → j < end → pre j) → ((j : ℕ) (p : Place) → post j p → p.next ≡ j + 1) → Seen k i
  seen_rising zero i end l f g = tt
  seen_rising (suc k) i end l f g = (f i (omega arith), λ p e. seen_rising k p.next end (let n : p.next ≡ i + 1 = g i p e in omega arith) f g)

  pub seen_below : (k i end : ℕ) → i < end → ((j : ℕ) → j < end → pre j) → ((j : ℕ) (p : Place) → j < end → post j p → p.next < end) → Seen k i
  seen_below zero i end l f g = tt
  seen_below (suc k) i end l f g = (f i l, λ p e. seen_below k p.next end (g i p l e) f g)

-- what is told of each place is its buffer, and the next place
pub record Told (post : ℕ → Place → Type 0) (buffer : ℕ → Buffer) (next : ℕ → ℕ) : Type 0 where
  pub told : (i : ℕ) (p : Place) → post i p → (buffer i ≡ piece p.len p.output) × (next i ≡ p.next)

-- WHAT THE LOOP KNOWS: the k buffers from `from` on are sound if the m from i on are, behind an output or not
abbrev pub Left : (ℕ → Place → Type 0) → ℕ → ℕ → Bool → ℕ → ℕ → Type 0
Left post k from written m i =
    (buffer : ℕ → Buffer) (next : ℕ → ℕ) → Told post buffer next → sound_list (map buffer (walk next k from)) ≡ sound_rest written (map buffer (walk next m i))

pub left_all : (post : ℕ → Place → Type 0) (k from : ℕ) → Left post k from false k from
left_all post k from = λ buffer next t. rest_start (map buffer (walk next k from))

module _ (post : ℕ → Place → Type 0) (k from : ℕ) (written : Bool) (m i : ℕ) (left : Left post k from written m i) (buffer : ℕ → Buffer) (next : ℕ → ℕ) (t : Told post buffer next) where
  -- none is left
  pub left_none : m ≡ 0 → true ≡ sound_list (map buffer (walk next k from))
  unfolding walk
  left_none e = sym (left buffer next t ∙ rest_none written (map buffer (walk next m i)) (rw (e, walk)))

  module _ (l : 0 < m) (p : Place) (e : post i p) where
    turn : map buffer (walk next m i) ≡ piece p.len p.output ∷ map buffer (walk next (m - 1) p.next)
    turn =
        ap (map buffer) (walk_next next m i l)
        ∙ ap (λ b. b ∷ map buffer (walk next (m - 1) (next i))) (t.told i p e).0
        ∙ ap (λ j. piece p.len p.output ∷ map buffer (walk next (m - 1) j)) (t.told i p e).1

    -- the next one is empty; it is an input behind an output; and on
    pub left_empty : p.len ≡ 0 → false ≡ sound_list (map buffer (walk next k from))
    left_empty z = sym (left buffer next t ∙ rest_empty written turn z)

    pub left_input : written ≡ true → p.output ≡ false → false ≡ sound_list (map buffer (walk next k from))
    left_input w o = sym (left buffer next t ∙ rest_input written turn w o)

    pub left_next : (p.len ≡ 0 → ⊥) → (written ≡ true → p.output ≡ true) → sound_list (map buffer (walk next k from)) ≡ sound_rest p.output (map buffer (walk next (m - 1) p.next))
    left_next z o = left buffer next t ∙ rest_next written turn z o

-- numbers that rise by one are a walk
pub walk_rising : (k i : ℕ) → walk (λ j. j + 1) k i ≡ rising k i
unfolding walk rising
walk_rising zero i = refl
walk_rising (suc k) i = let e : i + 1 ≡ suc i = omega arith in rw e (ap (λ l. i ∷ l) (walk_rising k (suc i)))
