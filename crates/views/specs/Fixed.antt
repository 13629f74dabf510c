-- The rules' tables fix the words: two stores of the same lengths that say the same tables are one. So an equation of rules' records says everything
-- of the record that is stored.
use Rattle.std.specs.Prelude.{◌≡◌, Bool, false, List, ℕ, ◌+◌, ◌-◌, ◌*◌, ◌≤◌, ◌<◌, ltb}
use Rattle.std.proofs.Math.Path.{sym, ap}
use Rattle.std.proofs.Common.{◌∙◌, arith, get_or-take, get_or-drop}
use borrow.Author.Tests.{ltb-true, ltb-false}
use lib.ListN.{length, get_or}
use Rattle.std.proofs.Math.Seq.{ext_get_or}
use Rattle.lists.specs.Tests.{by_test}
use Rattle.virtio.specs.declared.Desc.{Desc}
use Rattle.virtio.specs.declared.Buffer.{Buffer}
use Rattle.virtio.specs.Desc.{no_desc, no_buffer}
use Rattle.rules.specs.Record.{Tables}
use Rattle.views.specs.Tables.{cut, desc_in, entry_in, tables_of, desc_is, entry_is}

-- the words have the lengths that room for r asks
pub record Stored (r : ℕ) (words lens halves : List ℕ) (sides : List Bool) : Type 0 where
  pub words_of : length words ≡ r + r * r
  pub lens_of : length lens ≡ r + r * r
  pub halves_of : length halves ≡ 3 * r
  pub sides_of : length sides ≡ r * r

module _ {A : Type 0} (d : A) where
  -- an entry of a section
  cut_at : (from count : ℕ) (xs : List A) (i : ℕ) → from ≤ i → i < from + count → get_or xs i d ≡ get_or (cut from count xs) (i - from) d
  cut_at from count xs i l u =
      let e : from + (i - from) ≡ i = omega arith in
      sym (get_or-take count (lib.ListN.drop from xs) (i - from) d (omega arith) ∙ get_or-drop from xs (i - from) d ∙ ap (λ k. get_or xs k d) e)

  -- two lists that agree in a section agree there
  section : (from count : ℕ) (xs ys : List A) → ((j : ℕ) → get_or (cut from count xs) j d ≡ get_or (cut from count ys) j d)
      → (i : ℕ) → from ≤ i → i < from + count → get_or xs i d ≡ get_or ys i d
  section from count xs ys h i l u = cut_at from count xs i l u ∙ h (i - from) ∙ sym (cut_at from count ys i l u)

  -- two sections, or three, that make up the whole
  both_fix : (a b : ℕ) (xs ys : List A) → length xs ≡ a + b → length ys ≡ a + b
      → ((j : ℕ) → get_or (cut 0 a xs) j d ≡ get_or (cut 0 a ys) j d) → ((j : ℕ) → get_or (cut a b xs) j d ≡ get_or (cut a b ys) j d) → xs ≡ ys
  both_fix a b xs ys e f h k =
      ext_get_or d xs ys (e ∙ sym f)
      (λ i l. by_test (ltb i a)
      (λ t. section 0 a xs ys h i (omega arith) (let u = ltb-true i a t in omega arith))
      (λ t. section a b xs ys k i (ltb-false i a t) (omega arith)))

module _ (r : ℕ) (words lens halves words' lens' halves' : List ℕ) (sides sides' : List Bool)
    (s : Stored r words lens halves sides) (t : Stored r words' lens' halves' sides')
    (e : tables_of r words lens halves sides ≡ tables_of r words' lens' halves' sides') where
  descs : (i : ℕ) → desc_in r words lens halves sides i ≡ desc_in r words' lens' halves' sides' i
  descs i =
      sym (desc_is r words lens halves sides i) ∙ ap (λ (m : Tables). get_or m.shadow i no_desc) e ∙ desc_is r words' lens' halves' sides' i

  entries : (j : ℕ) → entry_in r words lens halves sides j ≡ entry_in r words' lens' halves' sides' j
  entries j =
      sym (entry_is r words lens halves sides j) ∙ ap (λ (m : Tables). get_or m.kept j no_buffer) e ∙ entry_is r words' lens' halves' sides' j

  pub words_fixed : words ≡ words'
  words_fixed =
      both_fix 0 r (r * r) words words' s.words_of t.words_of (λ i. ap (λ (d : Desc). d.addr) (descs i)) (λ j. ap (λ (b : Buffer). b.addr) (entries j))

  pub lens_fixed : lens ≡ lens'
  lens_fixed =
      both_fix 0 r (r * r) lens lens' s.lens_of t.lens_of (λ i. ap (λ (d : Desc). d.len) (descs i)) (λ j. ap (λ (b : Buffer). b.len) (entries j))

  pub halves_fixed : halves ≡ halves'
  unfolding tables_of
  halves_fixed =
      ext_get_or 0 halves halves' (s.halves_of ∙ sym t.halves_of)
      (λ i l. by_test (ltb i r)
      (λ u. section 0 0 r halves halves' (λ j. ap (λ (d : Desc). d.next) (descs j)) i (omega arith) (let v = ltb-true i r u in omega arith))
      (λ u. by_test (ltb i (2 * r))
      (λ v. section 0 r r halves halves' (λ j. ap (λ (d : Desc). d.flags) (descs j)) i (ltb-false i r u) (let w = ltb-true i (2 * r) v in omega arith))
      (λ v. section 0 (2 * r) r halves halves' (λ j. ap (λ (m : Tables). get_or m.noted j 0) e) i (ltb-false i (2 * r) v) (let n = s.halves_of in omega arith))))

  pub sides_fixed : sides ≡ sides'
  sides_fixed =
      ext_get_or false sides sides' (s.sides_of ∙ sym t.sides_of)
      (λ i l. section false 0 (r * r) sides sides' (λ j. ap (λ (b : Buffer). b.output) (entries j)) i (omega arith) (let n = s.sides_of in omega arith))
