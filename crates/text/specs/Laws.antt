-- Words and numbers one byte at a time, as the loops that read them go; where a word that stands ends, and how large a number is.
use Rattle.std.specs.Prelude.{◌≡◌, refl, Bool, true, false, cond, not, ◌&&◌, Some, None, Option, unwrap_or, List, [], ◌∷◌, leb, ltb, eqb, length, get_or, drop}
use Rattle.std.proofs.Common.{sym, ap, ◌∙◌, length-drop, drop-cons, take_all}
use Rattle.std.proofs.lemmas.Bool.{false≢true}
use Rattle.std.proofs.lemmas.Option.{none-some, same_Some}
use Rattle.std.specs.List.{starts_with}
use Rattle.std.specs.Slice.{IsGetRangeResult}
use denote.Ref.{Bor}
use mathlib.Core.Logic.{inl, inr}
use Rattle.text.specs.declared.Number.{Number}
use Rattle.text.specs.declared.Entry.{Entry}
use Prim.Native.Nat.{ℕ, suc, ◌+◌, ◌-◌, ◌*◌, ◌/◌, ◌≤◌, ◌<◌}
use native.Mathlib.Omega.{arith}
use borrow.Author.Tests.{eq-eqb, ne_eqb, leb-true, leb-false, lt-leb, lt-ltb, le-ltb}
use Rattle.std.proofs.Math.ListN.{drop_of_length-le}
use Rattle.lists.specs.Tests.{by_test, and_right}
use Rattle.text.specs.Text.{starts, stands, Found, told, FoundEntry, told_entry, none, read, digit, digits_in, number, number_in}

-- the text from i on: byte i and then the others
from_here : (s : List ℕ) (i : ℕ) → i < length s → drop i s ≡ get_or s i 0 ∷ drop (i + 1) s
from_here s i l =
    let e : suc i ≡ i + 1 = omega arith in
    drop-cons s i 0 l ∙ ap (λ j. get_or s i 0 ∷ drop j s) e

-- ---- words

module _ (word s : List ℕ) (i p : ℕ) where
  pub word_over : length word ≤ i → starts (drop i word) (drop p s) ≡ true
  unfolding starts
  word_over l = rw (drop_of_length-le word {i = i} l)

  pub word_short : i < length word → length s ≤ p → starts (drop i word) (drop p s) ≡ false
  unfolding starts
  word_short l m = rw (from_here word i l, drop_of_length-le s {i = p} m)

  pub word_other : i < length word → p < length s → (get_or s p 0 ≡ get_or word i 0 → ⊥) → starts (drop i word) (drop p s) ≡ false
  unfolding starts
  word_other l m d = rw (from_here word i l, from_here s p m, ne_eqb (get_or word i 0) (get_or s p 0) (λ e. d (sym e)))

  pub word_next
      : i < length word
      → p < length s
      → get_or s p 0 ≡ get_or word i 0
      → starts (drop i word) (drop p s) ≡ starts (drop (i + 1) word) (drop (p + 1) s)
  unfolding starts
  word_next l m e = rw (from_here word i l, from_here s p m, eq-eqb (get_or word i 0) (get_or s p 0) (sym e))

pub starts_long : (word s : List ℕ) → starts word s ≡ true → length word ≤ length s
unfolding starts
starts_long [] s e = omega arith
starts_long (w ∷ ws) [] e = absurd (false≢true e)
starts_long (w ∷ ws) (c ∷ cs) e =
    let l : length ws ≤ length cs = starts_long ws cs (and_right (eqb w c) (starts ws cs) e) in
    omega arith

-- a word that stands ends within the text
pub stands_fits : (word s : List ℕ) (at : ℕ) → stands word s at ≡ true → 0 < length word → at + length word ≤ length s
stands_fits word s at e l =
    let m : length word ≤ length (drop at s) = starts_long word (drop at s) e in
    let d : length (drop at s) ≡ length s - at = length-drop at s in
    omega arith

-- the text behind this place starts with the word, by the library's test
pub starts_by : (word s : List ℕ) → starts_with eqb s word ≡ starts word s
unfolding starts
starts_by [] s = refl
starts_by (w ∷ ws) [] = refl
starts_by (w ∷ ws) (c ∷ cs) = ap (λ t. eqb w c && t) (starts_by ws cs)

-- the part from this place on, or nothing, is the text behind it
pub rest_is : (s : List ℕ) (at : ℕ) (r : Option (Bor (List ℕ))) (d : Bor (List ℕ)) → IsGetRangeResult s at (length s) r → d.now ≡ [] → (unwrap_or r d).now ≡ drop at s
rest_is s at None d (inl l, _) e = e ∙ sym (drop_of_length-le s {i = at} (omega arith))
rest_is s at None d (inr l, _) e = absurd (omega arith)
rest_is s at (Some x) d ((_, _, same, _), _) e =
    let n : length (drop at s) ≡ length s - at = length-drop at s in
    same ∙ take_all (length s - at) (drop at s) (omega arith)

-- ---- what the code answers

pub told_none : (r : Found) → told r ≡ None → r.ok ≡ false
told_none r e = by_test r.ok (λ o. let f : Some (record { value = r.value; at = r.at }) ≡ None = rw o at e in absurd (none-some _ (sym f))) (λ o. o)

pub told_some : (r : Found) (x : Number) → told r ≡ Some x → r ≡ read x.value x.at
told_some r x e =
    let here : Number = record { value = r.value; at = r.at } in
    by_test r.ok
    (λ o.
    let f : Some here ≡ Some x = rw o at e in
    let g : here ≡ x = same_Some here x f in
    λ i. record { ok = o i; value = (g i).value; at = (g i).at })
    (λ o. let f : None ≡ Some x = rw o at e in absurd (none-some x f))

-- an entry that was read, as it is found
abbrev pub found_entry : Entry → FoundEntry
found_entry x = record { ok = true; addr = x.addr; len = x.len; at = x.at }

pub told_entry_none : (r : FoundEntry) → told_entry r ≡ None → r.ok ≡ false
told_entry_none r e = by_test r.ok (λ o. let f : Some (record { addr = r.addr; len = r.len; at = r.at }) ≡ None = rw o at e in absurd (none-some _ (sym f))) (λ o. o)

pub told_entry_some : (r : FoundEntry) (x : Entry) → told_entry r ≡ Some x → r ≡ found_entry x
told_entry_some r x e =
    let here : Entry = record { addr = r.addr; len = r.len; at = r.at } in
    by_test r.ok
    (λ o.
    let f : Some here ≡ Some x = rw o at e in
    let g : here ≡ x = same_Some here x f in
    λ i. record { ok = o i; addr = (g i).addr; len = (g i).len; at = (g i).at })
    (λ o. let f : None ≡ Some x = rw o at e in absurd (none-some x f))

-- a value that is told only if a test holds was not told
pub cond_none : {A : Type 0} (b : Bool) (x : A) → cond b (Some x) None ≡ None → b ≡ false
cond_none true x e = absurd (none-some x (sym e))
cond_none false x e = refl

-- ---- digits

module _ (most : ℕ) (s : List ℕ) (i v : ℕ) where
  pub digits_over : length s ≤ i → digits_in most (drop i s) i v ≡ read v i
  unfolding digits_in
  digits_over l = rw (drop_of_length-le s {i = i} l)

  pub digits_stop : i < length s → digit (get_or s i 0) ≡ false → digits_in most (drop i s) i v ≡ read v i
  unfolding digits_in
  digits_stop l e = rw (from_here s i l, e)

  -- c is the byte there
  module _ (c : ℕ) (is : c ≡ get_or s i 0) where
    pub digits_wide : i < length s → digit (get_or s i 0) ≡ true → leb (v * 10 + (c - 48)) most ≡ false → digits_in most (drop i s) i v ≡ none
    unfolding digits_in
    digits_wide l e f = rw (from_here s i l, e, ← is, f)

    pub digits_next
        : i < length s
        → digit (get_or s i 0) ≡ true
        → leb (v * 10 + (c - 48)) most ≡ true
        → digits_in most (drop i s) i v ≡ digits_in most (drop (i + 1) s) (i + 1) (v * 10 + (c - 48))
    unfolding digits_in
    digits_next l e f =
        let k : suc i ≡ i + 1 = omega arith in
        rw (from_here s i l, e, ← is, f) (ap (λ j. digits_in most (drop (i + 1) s) j (v * 10 + (c - 48))) k)

-- one more digit takes the number past its width
module _ (v d most : ℕ) where
  pub over_digit : most < d → ltb most d ≡ not (leb (v * 10 + d) most)
  over_digit l = rw (lt-ltb most d l, lt-leb (v * 10 + d) most (omega arith))

  pub over_tens : d ≤ most → ltb ((most - d) / 10) v ≡ not (leb (v * 10 + d) most)
  over_tens l =
      by_test (leb (v * 10 + d) most)
      (λ e. let m : v * 10 + d ≤ most = leb-true (v * 10 + d) most e in rw (e, le-ltb ((most - d) / 10) v (omega arith)))
      (λ e. let m : most < v * 10 + d = leb-false (v * 10 + d) most e in rw (e, lt-ltb ((most - d) / 10) v (omega arith)))

-- ---- numbers

module _ (most : ℕ) (s : List ℕ) (at : ℕ) where
  pub number_over : length s ≤ at → number most s at ≡ none
  unfolding number_in
  number_over l = rw (drop_of_length-le s {i = at} l)

  pub number_zero : at < length s → get_or s at 0 ≡ 48 → number most s at ≡ read 0 (at + 1)
  unfolding number_in
  number_zero l e =
      let k : suc at ≡ at + 1 = omega arith in
      rw (from_here s at l, eq-eqb (get_or s at 0) 48 e) (ap (read 0) k)

  pub number_digits : at < length s → (get_or s at 0 ≡ 48 → ⊥) → digit (get_or s at 0) ≡ true → number most s at ≡ digits_in most (drop at s) at 0
  unfolding number_in
  number_digits l d e = rw (from_here s at l, ne_eqb (get_or s at 0) 48 d, e)

  pub number_bad : at < length s → (get_or s at 0 ≡ 48 → ⊥) → digit (get_or s at 0) ≡ false → number most s at ≡ none
  unfolding number_in
  number_bad l d e = rw (from_here s at l, ne_eqb (get_or s at 0) 48 d, e)

-- a number that is read is within its width
digits_most : (most : ℕ) (cs : List ℕ) (at v : ℕ) → v ≤ most → (digits_in most cs at v).value ≤ most
unfolding digits_in
digits_most most [] at v l = l
digits_most most (c ∷ cs) at v l =
    by_test (digit c)
    (λ e. by_test (leb (v * 10 + (c - 48)) most)
    (λ f. rw (e, f) (digits_most most cs (suc at) (v * 10 + (c - 48)) (leb-true (v * 10 + (c - 48)) most f)))
    (λ f. rw (e, f) (omega arith)))
    (λ e. rw e l)

number_in_most_lem : (most : ℕ) (cs : List ℕ) (at : ℕ) → (number_in most cs at).value ≤ most
unfolding number_in
number_in_most_lem most [] at = omega arith
number_in_most_lem most (c ∷ cs) at =
    by_test (eqb c 48)
    (λ e. rw e (omega arith))
    (λ e. by_test (digit c) (λ f. rw (e, f) (digits_most most (c ∷ cs) at 0 (omega arith))) (λ f. rw (e, f) (omega arith)))

pub number_most : (most : ℕ) (s : List ℕ) (at : ℕ) → (number most s at).value ≤ most
number_most most s at = number_in_most_lem most (drop at s) at
