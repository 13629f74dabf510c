-- The caller's list one buffer at a time; and its tests, by what its first buffer is.
use Rattle.std.specs.List.{list_all}
use Rattle.std.specs.Prelude.{◌≡◌, refl, Bool, cond, not, ◌&&◌, eqb, true, false, List, [], ◌∷◌, ℕ, suc, ◌+◌, ◌≤◌, ◌<◌, length, get_or, drop}
use Rattle.std.proofs.Math.Path.{sym, ap}
use Rattle.std.proofs.Common.{◌∙◌, arith, eq-eqb, ne_eqb, drop_of_length-le, drop-cons}
use Rattle.std.proofs.Math.ListN.{length-map}
use Rattle.lists.specs.Pick.{rising}
use Rattle.lists.specs.PickLaws.{get_d_rising_lem, length_rising}
use Rattle.virtio.specs.declared.Buffer.{Buffer}
use Rattle.virtio.specs.Desc.{no_buffer}
use Rattle.virtio.specs.Chain.{all_outputs, in_order}
use Rattle.rules.specs.WellFormed.{no_empty}
use Rattle.opens.specs.Given.{buffer_in, given}

module _ (addrs lens sides : List ℕ) where
  pub given_length : length (given addrs lens sides) ≡ length addrs
  unfolding given
  given_length = length-map (rising (length addrs) 0) (buffer_in addrs lens sides) ∙ length_rising (length addrs) 0

  pub given_at : (i : ℕ) → i < length addrs → buffer_in addrs lens sides i ≡ get_or (given addrs lens sides) i no_buffer
  unfolding given
  given_at i l =
      ap (buffer_in addrs lens sides) {x = i} (omega arith) ∙ sym (get_d_rising_lem (buffer_in addrs lens sides) no_buffer (length addrs) 0 i l)

  -- from i on: buffer i and then the others, or none
  pub given_rest : (i : ℕ) (b : Buffer) → i < length addrs → b ≡ get_or (given addrs lens sides) i no_buffer → drop i (given addrs lens sides) ≡ b ∷ drop (i + 1) (given addrs lens sides)
  given_rest i b l e =
      let n : length (given addrs lens sides) ≡ length addrs = given_length in
      let s : suc i ≡ i + 1 = omega arith in
      drop-cons (given addrs lens sides) i no_buffer (omega arith)
      ∙ ap (λ (x : Buffer). x ∷ drop (suc i) (given addrs lens sides)) (sym e)
      ∙ ap (λ j. b ∷ drop j (given addrs lens sides)) s

  pub given_over : (i : ℕ) → length addrs ≤ i → drop i (given addrs lens sides) ≡ []
  given_over i l =
      let n : length (given addrs lens sides) ≡ length addrs = given_length in
      drop_of_length-le (given addrs lens sides) {i = i} (omega arith)

-- any list from i on: buffer i and then the others, or none
pub list_rest : (bs : List Buffer) (i : ℕ) (b : Buffer) → i < length bs → b ≡ get_or bs i no_buffer → drop i bs ≡ b ∷ drop (i + 1) bs
list_rest bs i b l e =
    drop-cons bs i no_buffer l
    ∙ ap (λ (x : Buffer). x ∷ drop (suc i) bs) (sym e)
    ∙ ap (λ j. b ∷ drop j bs) {x = suc i} (omega arith)

pub list_over : (bs : List Buffer) (i : ℕ) → length bs ≤ i → drop i bs ≡ []
list_over bs i l = drop_of_length-le bs {i = i} l

-- whether a buffer has some length; and a list all of whose buffers have
abbrev pub filled_length : Buffer → Bool
filled_length b = not (eqb b.len 0)

pub none_empty_all : (bs : List Buffer) → list_all filled_length bs ≡ no_empty bs
unfolding no_empty
none_empty_all [] = refl
none_empty_all (b ∷ bs) = ap (λ t. filled_length b && t) (none_empty_all bs)

-- ---- a list that begins with b

module _ (bs rest : List Buffer) (b : Buffer) (e : bs ≡ b ∷ rest) where
  pub empty_next : (b.len ≡ 0 → ⊥) → no_empty bs ≡ no_empty rest
  unfolding no_empty
  empty_next z = ap no_empty e ∙ rw (ne_eqb b.len 0 z)

  pub empty_stop : b.len ≡ 0 → no_empty bs ≡ false
  unfolding no_empty
  empty_stop z = ap no_empty e ∙ rw (eq-eqb b.len 0 z)

  pub outputs_next : b.output ≡ true → all_outputs bs ≡ all_outputs rest
  unfolding all_outputs
  outputs_next z = ap all_outputs e ∙ rw z

  pub outputs_stop : b.output ≡ false → all_outputs bs ≡ false
  unfolding all_outputs
  outputs_stop z = ap all_outputs e ∙ rw z

  pub order_next : b.output ≡ false → in_order bs ≡ in_order rest
  unfolding in_order
  order_next z = ap in_order e ∙ rw z

  pub order_rest_lem : b.output ≡ true → in_order bs ≡ all_outputs rest
  unfolding in_order
  order_rest_lem z = ap in_order e ∙ rw z

-- what is asked of a list behind its first buffer, where an output may have come before it
pub order_turn : (written : Bool) (bs rest : List Buffer) (b : Buffer) → bs ≡ b ∷ rest → (written ≡ true → b.output ≡ true)
    → cond written (all_outputs bs) (in_order bs) ≡ cond b.output (all_outputs rest) (in_order rest)
unfolding in_order
order_turn true bs rest b e h = outputs_next bs rest b e (h refl) ∙ rw (h refl) refl
order_turn false bs rest b e h = ap in_order e

-- ---- and one that has no buffer

module _ (bs : List Buffer) (e : bs ≡ []) where
  pub empty_none : no_empty bs ≡ true
  unfolding no_empty
  empty_none = ap no_empty e

  pub outputs_none : all_outputs bs ≡ true
  unfolding all_outputs
  outputs_none = ap all_outputs e

  pub order_none : in_order bs ≡ true
  unfolding in_order
  order_none = ap in_order e
