-- The rules' tables with one entry changed; and what a load of words and a store to them are to the tables that the words say.
use Rattle.std.specs.Prelude.{◌≡◌, refl, Bool, cond, ℕ, ◌+◌, ◌*◌, ◌/◌, ◌%◌, ◌≤◌, ◌<◌, length, take, drop}
use Rattle.std.proofs.Math.Path.{sym, ap}
use Rattle.std.proofs.Common.{◌∙◌, subst, arith, eq-eqb, ne_eqb, length-set, get_or-take, get_or-drop, ext_get_or, drop-set-lt}
use Rattle.std.proofs.Math.Bool.{false}
use mathlib.Core.List.{List, map}
use Rattle.std.proofs.Math.ListN.{get_or, set}
use Rattle.std.proofs.lemmas.List.{length-map, drop-set-add}
use Rattle.std.proofs.Math.Seq.{get_or-set_same, get_or-set_other, take-set-le, take-set-lt}
use Rattle.lists.specs.Tests.{by_eq}
use Rattle.lists.specs.Pick.{rising}
use Rattle.lists.specs.PickLaws.{get_d_rising_lem, length_rising}
use Rattle.virtio.specs.declared.Desc.{Desc}
use Rattle.virtio.specs.declared.Buffer.{Buffer}
use Rattle.virtio.specs.Desc.{no_desc, no_buffer, has_indirect}
use Rattle.rules.specs.Record.{Tables}
use Rattle.views.specs.Views.{Closed}
use Rattle.views.specs.Tables.{cut, nexts_in, desc_in, entry_in, tables_of, desc_is, entry_is}

abbrev pub with_desc : Tables → ℕ → Desc → Tables
with_desc t i d = record { shadow = set t.shadow i d; noted = t.noted; kept = t.kept }

abbrev pub with_noted : Tables → ℕ → ℕ → Tables
with_noted t h k = record { shadow = t.shadow; noted = set t.noted h k; kept = t.kept }

abbrev pub with_entry : Tables → ℕ → Buffer → Tables
with_entry t j b = record { shadow = t.shadow; noted = t.noted; kept = set t.kept j b }

-- ---- sections

module _ {A : Type 0} where
  -- entry i of a section
  pub cut_is : (from count : ℕ) (xs : List A) (i : ℕ) (d : A) → i < count → get_or (cut from count xs) i d ≡ get_or xs (from + i) d
  cut_is from count xs i d l = get_or-take count (drop from xs) i d l ∙ get_or-drop from xs i d

  -- a store before or behind a section, and one inside
  pub cut_before : (from count : ℕ) (xs : List A) (p : ℕ) (v : A) → p < from → cut from count (set xs p v) ≡ cut from count xs
  cut_before from count xs p v l = ap (take count) (drop-set-lt from xs p v l)

  pub cut_behind : (from count : ℕ) (xs : List A) (i : ℕ) (v : A) → count ≤ i → cut from count (set xs (from + i) v) ≡ cut from count xs
  cut_behind from count xs i v l = ap (take count) (drop-set-add from xs i v) ∙ take-set-le count (drop from xs) i v l

  pub cut_inside : (from count : ℕ) (xs : List A) (i : ℕ) (v : A) → i < count → cut from count (set xs (from + i) v) ≡ set (cut from count xs) i v
  cut_inside from count xs i v l = ap (take count) (drop-set-add from xs i v) ∙ take-set-lt count (drop from xs) i v l

  -- what a store inside makes of the section's entries
  pub stored_there : (from count : ℕ) (xs : List A) (i : ℕ) (v d : A) → i < count → from + count ≤ length xs → get_or (cut from count (set xs (from + i) v)) i d ≡ v
  stored_there from count xs i v d l e =
      cut_is from count (set xs (from + i) v) i d l ∙ get_or-set_same xs (from + i) v d (omega arith)

  pub stored_else : (from count : ℕ) (xs : List A) (i j : ℕ) (v d : A) → i < count → (j ≡ i → ⊥) → get_or (cut from count (set xs (from + i) v)) j d ≡ get_or (cut from count xs) j d
  stored_else from count xs i j v d l z =
      ap (λ ys. get_or ys j d) (cut_inside from count xs i v l) ∙ get_or-set_other (cut from count xs) i j v d z

-- f's values along numbers, of which one has changed
values_set : {A : Type 0} (f g : ℕ → A) (a : A) (k i : ℕ) → i < k → g i ≡ a → ((j : ℕ) → (j ≡ i → ⊥) → g j ≡ f j) → map g (rising k 0) ≡ set (map f (rising k 0)) i a
values_set f g a k i l e h =
    let n : length (map g (rising k 0)) ≡ k = length-map (rising k 0) g ∙ length_rising k 0 in
    let m : length (map f (rising k 0)) ≡ k = length-map (rising k 0) f ∙ length_rising k 0 in
    ext_get_or a (map g (rising k 0)) (set (map f (rising k 0)) i a) (n ∙ sym (length-set (map f (rising k 0)) i a ∙ m))
    (λ j u. let v : j < k = omega arith in
    get_d_rising_lem g a k 0 j v
    ∙ ap g (omega arith)
    ∙ by_eq j i
    (λ z. ap g z ∙ e ∙ sym (get_or-set_same (map f (rising k 0)) i a a (omega arith)) ∙ ap (λ x. get_or (set (map f (rising k 0)) i a) x a) (sym z))
    (λ z. h j z ∙ ap f (omega arith) ∙ sym (get_d_rising_lem f a k 0 j v) ∙ sym (get_or-set_other (map f (rising k 0)) i j a a z)))

-- ---- loads

module _ (r : ℕ) (words lens halves : List ℕ) (sides : List Bool) where
  first_is : (xs : List ℕ) (i : ℕ) → i < r → get_or xs i 0 ≡ get_or (cut 0 r xs) i 0
  first_is xs i l = ap (λ k. get_or xs k 0) (omega arith) ∙ sym (cut_is 0 r xs i 0 l)

  pub desc_load : (i : ℕ) → i < r
      → record { addr = get_or words i 0; len = get_or lens i 0; flags = get_or halves (r + i) 0; next = get_or halves i 0 } ≡ get_or (tables_of r words lens halves sides).shadow i no_desc
  desc_load i l = (λ j. record {
    addr = first_is words i l j;
    len = first_is lens i l j;
    flags = sym (cut_is r r halves i 0 l) j;
    next = first_is halves i l j;
  }) ∙ sym (desc_is r words lens halves sides i)

  pub next_load : (i : ℕ) → i < r → get_or halves i 0 ≡ (get_or (tables_of r words lens halves sides).shadow i no_desc).next
  next_load i l = ap (λ (d : Desc). d.next) (desc_load i l)

  -- and below n where the nexts are
  pub next_below : (n : ℕ) → Closed n (nexts_in r halves) → (i : ℕ) → i < n → (get_or (tables_of r words lens halves sides).shadow i no_desc).next < n
  next_below n c i l = subst (λ x. x < n) (sym (ap (λ (d : Desc). d.next) (desc_is r words lens halves sides i))) (c.nexts i l)

  pub noted_load : (h : ℕ) → h < r → get_or halves (2 * r + h) 0 ≡ get_or (tables_of r words lens halves sides).noted h 0
  unfolding tables_of
  noted_load h l = sym (cut_is (2 * r) r halves h 0 l)

  pub entry_load : (j : ℕ) → j < r * r
      → record { addr = get_or words (r + j) 0; len = get_or lens (r + j) 0; output = get_or sides j false } ≡ get_or (tables_of r words lens halves sides).kept j no_buffer
  entry_load j l = (λ k. record {
    addr = sym (cut_is r (r * r) words j 0 l) k;
    len = sym (cut_is r (r * r) lens j 0 l) k;
    output = (ap (λ x. get_or sides x false) {x = j} (omega arith) ∙ sym (cut_is 0 (r * r) sides j false l)) k;
  }) ∙ sym (entry_is r words lens halves sides j)

  -- ---- stores

  pub noted_store : (h k : ℕ) → h < r → tables_of r words lens (set halves (2 * r + h) k) sides ≡ with_noted (tables_of r words lens halves sides) h k
  unfolding tables_of
  noted_store h k l =
      let nexts : cut 0 r (set halves (2 * r + h) k) ≡ cut 0 r halves = take-set-le r halves (2 * r + h) k (omega arith) in
      let flags : cut r r (set halves (2 * r + h) k) ≡ cut r r halves =
      ap (λ x. cut r r (set halves x k)) {x = 2 * r + h} (omega arith) ∙ cut_behind r r halves (r + h) k (omega arith) in
      λ j. record {
        shadow = map (λ i. record { addr = get_or (cut 0 r words) i 0; len = get_or (cut 0 r lens) i 0; flags = get_or (flags j) i 0; next = get_or (nexts j) i 0 }) (rising r 0);
        noted = cut_inside (2 * r) r halves h k l j;
        kept = (tables_of r words lens halves sides).kept;
      }

  module _ (i : ℕ) (d : Desc) (l : i < r) (w : r ≤ length words) (m : r ≤ length lens) (n : 3 * r ≤ length halves) where
    abbrev halves' : List ℕ
    halves' = set (set halves (r + i) d.flags) i d.next

    nexts_are : cut 0 r halves' ≡ cut 0 r (set halves i d.next)
    nexts_are =
        take-set-lt r (set halves (r + i) d.flags) i d.next l
        ∙ ap (λ xs. set xs i d.next) (take-set-le r halves (r + i) d.flags (omega arith))
        ∙ sym (take-set-lt r halves i d.next l)

    flags_are : cut r r halves' ≡ cut r r (set halves (r + i) d.flags)
    flags_are = cut_before r r (set halves (r + i) d.flags) i d.next l

    noted_are : cut (2 * r) r halves' ≡ cut (2 * r) r halves
    noted_are =
        cut_before (2 * r) r (set halves (r + i) d.flags) i d.next (omega arith) ∙ cut_before (2 * r) r halves (r + i) d.flags (omega arith)

    first_there : (xs : List ℕ) (v : ℕ) → r ≤ length xs → get_or (cut 0 r (set xs i v)) i 0 ≡ v
    first_there xs v h = get_or-take r (set xs i v) i 0 l ∙ get_or-set_same xs i v 0 (omega arith)

    first_else : (xs : List ℕ) (v j : ℕ) → (j ≡ i → ⊥) → get_or (cut 0 r (set xs i v)) j 0 ≡ get_or (cut 0 r xs) j 0
    first_else xs v j z = ap (λ ys. get_or ys j 0) (take-set-lt r xs i v l) ∙ get_or-set_other (cut 0 r xs) i j v 0 z

    pub desc_store : tables_of r (set words i d.addr) (set lens i d.len) halves' sides ≡ with_desc (tables_of r words lens halves sides) i d
    unfolding tables_of
    desc_store =
        let there : desc_in r (set words i d.addr) (set lens i d.len) halves' sides i ≡ d = λ j. record {
          addr = first_there words d.addr w j;
          len = first_there lens d.len m j;
          flags = (ap (λ xs. get_or xs i 0) flags_are ∙ stored_there r r halves i d.flags 0 l (omega arith)) j;
          next = (ap (λ xs. get_or xs i 0) nexts_are ∙ first_there halves d.next (omega arith)) j;
        } in
        let else : (k : ℕ) → (k ≡ i → ⊥) → desc_in r (set words i d.addr) (set lens i d.len) halves' sides k ≡ desc_in r words lens halves sides k =
        λ k z j. record {
          addr = first_else words d.addr k z j;
          len = first_else lens d.len k z j;
          flags = (ap (λ xs. get_or xs k 0) flags_are ∙ stored_else r r halves i k d.flags 0 l z) j;
          next = (ap (λ xs. get_or xs k 0) nexts_are ∙ first_else halves d.next k z) j;
        } in
        let table : map (desc_in r (set words i d.addr) (set lens i d.len) halves' sides) (rising r 0) ≡ set (map (desc_in r words lens halves sides) (rising r 0)) i d =
        values_set (desc_in r words lens halves sides) (desc_in r (set words i d.addr) (set lens i d.len) halves' sides) d r i l there else in
        let addrs : cut r (r * r) (set words i d.addr) ≡ cut r (r * r) words = cut_before r (r * r) words i d.addr l in
        let lengths : cut r (r * r) (set lens i d.len) ≡ cut r (r * r) lens = cut_before r (r * r) lens i d.len l in
        λ j. record {
          shadow = table j;
          noted = noted_are j;
          kept = map (λ k. record { addr = get_or (addrs j) k 0; len = get_or (lengths j) k 0; output = get_or (cut 0 (r * r) sides) k false }) (rising (r * r) 0);
        }

  module _ (e : ℕ) (b : Buffer) (l : e < r * r) (w : r + r * r ≤ length words) (m : r + r * r ≤ length lens) (s : r * r ≤ length sides) where
    pub entry_store : tables_of r (set words (r + e) b.addr) (set lens (r + e) b.len) halves (set sides e b.output) ≡ with_entry (tables_of r words lens halves sides) e b
    unfolding tables_of
    entry_store =
        let there : entry_in r (set words (r + e) b.addr) (set lens (r + e) b.len) halves (set sides e b.output) e ≡ b = λ j. record {
          addr = stored_there r (r * r) words e b.addr 0 l w j;
          len = stored_there r (r * r) lens e b.len 0 l m j;
          output = (get_or-take (r * r) (set sides e b.output) e false l ∙ get_or-set_same sides e b.output false (omega arith)) j;
        } in
        let else : (k : ℕ) → (k ≡ e → ⊥) → entry_in r (set words (r + e) b.addr) (set lens (r + e) b.len) halves (set sides e b.output) k ≡ entry_in r words lens halves sides k =
        λ k z j. record {
          addr = stored_else r (r * r) words e k b.addr 0 l z j;
          len = stored_else r (r * r) lens e k b.len 0 l z j;
          output = (ap (λ xs. get_or xs k false) (take-set-lt (r * r) sides e b.output l) ∙ get_or-set_other (cut 0 (r * r) sides) e k b.output false z) j;
        } in
        let table : map (entry_in r (set words (r + e) b.addr) (set lens (r + e) b.len) halves (set sides e b.output)) (rising (r * r) 0) ≡ set (map (entry_in r words lens halves sides) (rising (r * r) 0)) e b =
        values_set (entry_in r words lens halves sides) (entry_in r (set words (r + e) b.addr) (set lens (r + e) b.len) halves (set sides e b.output)) b (r * r) e l there else in
        let addrs : cut 0 r (set words (r + e) b.addr) ≡ cut 0 r words = take-set-le r words (r + e) b.addr (omega arith) in
        let lengths : cut 0 r (set lens (r + e) b.len) ≡ cut 0 r lens = take-set-le r lens (r + e) b.len (omega arith) in
        λ j. record {
          shadow = map (λ i. record { addr = get_or (addrs j) i 0; len = get_or (lengths j) i 0; flags = get_or (cut r r halves) i 0; next = get_or (cut 0 r halves) i 0 }) (rising r 0);
          noted = (tables_of r words lens halves sides).noted;
          kept = table j;
        }

-- how many buffers a descriptor x tells of, given what was loaded of it; k is the noted length
pub size_listed : (d x : Desc) (k : ℕ) → d ≡ x → d.flags / 4 % 2 ≡ 1 → d.len / 16 ≡ cond (has_indirect x) (x.len / 16) k
size_listed d x k e f =
    subst (λ (y : Desc). d.len / 16 ≡ cond (has_indirect y) (y.len / 16) k) e (rw (eq-eqb (d.flags / 4 % 2) 1 f) refl)

pub size_noted : (d x : Desc) (k j : ℕ) → d ≡ x → (d.flags / 4 % 2 ≡ 1 → ⊥) → j ≡ k → j ≡ cond (has_indirect x) (x.len / 16) k
size_noted d x k j e f z =
    subst (λ (y : Desc). j ≡ cond (has_indirect y) (y.len / 16) k) e (rw (ne_eqb (d.flags / 4 % 2) 1 f) z)
