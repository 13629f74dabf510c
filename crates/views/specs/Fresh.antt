-- What words that are all 0 say, and what they say once n nexts are linked: the tables of the rules' all-zero and fresh records.
use Rattle.std.specs.Prelude.{◌≡◌, refl, false, length, get_or, take, drop}
use Rattle.std.proofs.Common.{sym, ap₂, ◌∙◌, arith, length-append, take_at, drop_at}
use Rattle.std.proofs.Math.Path.{ap, fun_ext}
use mathlib.Core.List.{List, [], ◌∷◌, ◌++◌, map, map-append, append_assoc}
use Prim.Native.Nat.{ℕ, zero, suc, ◌+◌, ◌-◌, ◌*◌, ◌≤◌}
use Rattle.std.proofs.Math.Nat.{sub-zero, zero-sub, suc-sub-suc}
use Rattle.std.proofs.Math.ListN.{replicate}
use Rattle.std.proofs.lemmas.List.{length-replicate, replicate-append-replicate}
use Rattle.std.proofs.lemmas.List.Edits.{sets, sets-eq}
use Rattle.std.proofs.Math.Seq.{drop-append-add, get_or-append_seam}
use Rattle.lists.specs.Pick.{rising}
use Rattle.lists.specs.PickLaws.{get_d_same_lem}
use Rattle.virtio.specs.declared.Desc.{Desc}
use Rattle.virtio.specs.Desc.{no_desc, no_buffer}
use Rattle.rules.specs.Record.{Tables}
use Rattle.rules.specs.New.{nexts_from, linking, linked}
use Rattle.views.specs.Views.{at}
use Rattle.views.specs.Tables.{cut, desc_in, entry_in, tables_of}

-- ---- lists of one value

drop_same : {A : Type 0} (d : A) (k n : ℕ) → drop k (replicate n d) ≡ replicate (n - k) d
drop_same d zero n = rw sub-zero
drop_same d (suc k) zero = rw zero-sub
drop_same d (suc k) (suc n) = drop_same d k n ∙ rw suc-sub-suc

take_same : {A : Type 0} (d : A) (k n : ℕ) → k ≤ n → take k (replicate n d) ≡ replicate k d
take_same d zero n h = refl
take_same d (suc k) zero h = absurd (omega arith)
take_same d (suc k) (suc n) h = ap (λ r. d ∷ r) (take_same d k n (omega arith))

pub cut_same : {A : Type 0} (d : A) (from count n : ℕ) → from + count ≤ n → cut from count (replicate n d) ≡ replicate count d
cut_same d from count n h = rw (drop_same d from n, take_same d count (n - from) (omega arith))

map_same : {A : Type 0} (f : ℕ → A) (d : A) → ((i : ℕ) → f i ≡ d) → (k a : ℕ) → map f (rising k a) ≡ replicate k d
unfolding rising
map_same f d h zero a = refl
map_same f d h (suc k) a = ap₂ (λ x r. x ∷ r) (h a) (map_same f d h k (suc a))

map_all : {A B : Type 0} (f : A → B) (a : A) (k : ℕ) → map f (replicate k a) ≡ replicate k (f a)
map_all f a zero = refl
map_all f a (suc k) = ap (λ r. f a ∷ r) (map_all f a k)

length_nexts : (k i : ℕ) → length (nexts_from k i) ≡ k
unfolding nexts_from
length_nexts zero i = refl
length_nexts (suc zero) i = refl
length_nexts (suc (suc k)) i = ap suc (length_nexts (suc k) (suc i))

-- f's values along a list, read by index
map_read : {A : Type 0} (f : ℕ → A) (xs ys : List ℕ) → map (λ i. f (get_or (xs ++ ys) i 0)) (rising (length ys) (length xs)) ≡ map f ys
unfolding rising
map_read f xs [] = refl
map_read {A} f xs (y ∷ ys) =
    let e : (xs ++ (y ∷ [])) ++ ys ≡ xs ++ y ∷ ys = append_assoc xs (y ∷ []) ys in
    let n : length (xs ++ (y ∷ [])) ≡ suc (length xs) = length-append xs (y ∷ []) ∙ omega arith in
    let tail : map (λ i. f (get_or (xs ++ y ∷ ys) i 0)) (rising (length ys) (suc (length xs))) ≡ map f ys =
    ap₂ (λ (l : List ℕ) (k : ℕ). map (λ i. f (get_or l i 0)) (rising (length ys) k)) (sym e) (sym n) ∙ map_read f (xs ++ (y ∷ [])) ys in
    ap₂ (λ (x : A) (r : List A). x ∷ r) (ap f (get_or-append_seam xs y ys 0)) tail

-- ---- with room for r

module _ (r : ℕ) where
  abbrev zeros : ℕ → List ℕ
  zeros k = replicate k 0

  -- the tables of words that are all 0, with these 16-bit words
  abbrev pub blank_tables : List ℕ → Tables
  blank_tables halves = tables_of r (zeros (r + r * r)) (zeros (r + r * r)) halves (replicate (r * r) false)

  -- a section of zeros has 0 everywhere
  zero_at : {A : Type 0} (d : A) (from count n i : ℕ) → from + count ≤ n → get_or (cut from count (replicate n d)) i d ≡ d
  zero_at d from count n i h = ap (λ l. get_or l i d) (cut_same d from count n h) ∙ get_d_same_lem d count i

  -- where the 16-bit words are r nexts and then zeros
  module _ (next : List ℕ) (e : length next ≡ r) where
    abbrev halves : List ℕ
    halves = next ++ zeros (2 * r)

    nexts_are : cut 0 r halves ≡ next
    nexts_are = take_at next (zeros (2 * r)) r e

    flags_are : cut r r halves ≡ zeros r
    flags_are = ap (take r) (drop_at next (zeros (2 * r)) r e) ∙ take_same 0 r (2 * r) (omega arith)

    noted_are : cut (2 * r) r halves ≡ zeros r
    noted_are =
        let two : 2 * r ≡ length next + r = omega arith in
        ap (λ k. take r (drop k halves)) two
        ∙ ap (take r) (drop-append-add next (zeros (2 * r)) r)
        ∙ cut_same 0 r r (2 * r) (omega arith)

    desc_are : (i : ℕ) → desc_in r (zeros (r + r * r)) (zeros (r + r * r)) halves (replicate (r * r) false) i ≡ linking (at next i)
    desc_are i = λ j. record {
      addr = zero_at 0 0 r (r + r * r) i (omega arith) j;
      len = zero_at 0 0 r (r + r * r) i (omega arith) j;
      flags = (ap (λ l. get_or l i 0) flags_are ∙ get_d_same_lem 0 r i) j;
      next = ap (λ l. get_or l i 0) nexts_are j;
    }

    entry_are : (i : ℕ) → entry_in r (zeros (r + r * r)) (zeros (r + r * r)) halves (replicate (r * r) false) i ≡ no_buffer
    entry_are i = λ j. record {
      addr = zero_at 0 r (r * r) (r + r * r) i (omega arith) j;
      len = zero_at 0 r (r * r) (r + r * r) i (omega arith) j;
      output = zero_at false 0 (r * r) (r * r) i (omega arith) j;
    }

    blank : blank_tables halves ≡ record { shadow = map linking next; noted = zeros r; kept = replicate (r * r) no_buffer }
    unfolding tables_of
    blank =
        let s : map (desc_in r (zeros (r + r * r)) (zeros (r + r * r)) halves (replicate (r * r) false)) (rising r 0) ≡ map linking next =
        ap (λ (f : ℕ → Desc). map f (rising r 0)) (fun_ext desc_are)
        ∙ ap (λ k. map (λ i. linking (at next i)) (rising k 0)) (sym e)
        ∙ map_read linking [] next in
        let k : map (entry_in r (zeros (r + r * r)) (zeros (r + r * r)) halves (replicate (r * r) false)) (rising (r * r) 0) ≡ replicate (r * r) no_buffer =
        map_same (entry_in r (zeros (r + r * r)) (zeros (r + r * r)) halves (replicate (r * r) false)) no_buffer entry_are (r * r) 0 in
        λ j. record { shadow = s j; noted = noted_are j; kept = k j }

  -- THE ALL-ZERO TABLES
  pub zero_tables : blank_tables (zeros (3 * r)) ≡ record { shadow = replicate r no_desc; noted = zeros r; kept = replicate (r * r) no_buffer }
  zero_tables =
      let three : 3 * r ≡ r + 2 * r = omega arith in
      let z : zeros (3 * r) ≡ zeros r ++ zeros (2 * r) = ap zeros three ∙ sym (replicate-append-replicate r (2 * r) 0) in
      let m : map linking (zeros r) ≡ replicate r no_desc = map_all linking 0 r in
      ap blank_tables z ∙ blank (zeros r) (length-replicate r 0) ∙ (λ j. record { shadow = m j; noted = zeros r; kept = replicate (r * r) no_buffer })

  -- THE FRESH TABLES
  pub fresh_tables : (n : ℕ) → n ≤ r → blank_tables (sets (zeros (3 * r)) 0 (nexts_from n 0))
      ≡ record { shadow = linked n ++ replicate (r - n) no_desc; noted = zeros r; kept = replicate (r * r) no_buffer }
  fresh_tables n h =
      let xs : List ℕ = nexts_from n 0 in
      let n_of : length xs ≡ n = length_nexts n 0 in
      let left : 3 * r - (0 + length xs) ≡ r - n + 2 * r = omega arith in
      let rest : drop (0 + length xs) (zeros (3 * r)) ≡ zeros (r - n) ++ zeros (2 * r) =
      drop_same 0 (0 + length xs) (3 * r) ∙ ap zeros left ∙ sym (replicate-append-replicate (r - n) (2 * r) 0) in
      let z : sets (zeros (3 * r)) 0 xs ≡ (xs ++ zeros (r - n)) ++ zeros (2 * r) =
      sets-eq xs (zeros (3 * r)) 0 (omega (arith, length-replicate {A = ℕ} (3 * r) 0)) ∙ ap (λ l. xs ++ l) rest ∙ sym (append_assoc xs (zeros (r - n)) (zeros (2 * r))) in
      let l : length (xs ++ zeros (r - n)) ≡ r = length-append xs (zeros (r - n)) ∙ omega (arith, length-replicate {A = ℕ} (r - n) 0) in
      let m : map linking (xs ++ zeros (r - n)) ≡ linked n ++ replicate (r - n) no_desc =
      map-append linking xs (zeros (r - n)) ∙ ap (λ t. linked n ++ t) (map_all linking 0 (r - n)) in
      ap blank_tables z ∙ blank (xs ++ zeros (r - n)) l ∙ (λ j. record { shadow = m j; noted = zeros r; kept = replicate (r * r) no_buffer })
