-- What `fill` does to a table of descriptors: every next stays; the descriptors walked hold the buffers, and the others stay.
use Rattle.std.specs.Prelude.{◌≡◌, Bool, true, false, ltb, eqb, set, drop}
use Rattle.std.proofs.Math.Path.{refl, ap}
use Rattle.std.proofs.Common.{sym, ◌∙◌, ltb-true, ltb-false}
use mathlib.Core.List.{List, [], ◌∷◌}
use Prim.Native.Nat.{ℕ, zero, suc, ◌/◌, ◌%◌, ◌≤◌, ◌<◌}
use native.Mathlib.Omega.{arith}
use Rattle.std.proofs.Math.ListN.{length, get_or, length-set}
use Rattle.std.proofs.Math.Seq.{get_or-set_same, get_or-set_other, set_out}
use Rattle.lists.specs.Tests.{by_test, by_eq}
use Rattle.lists.specs.Walk.{hop, walk}
use Rattle.lists.specs.Places.{count_cons}
use Rattle.lists.specs.Once.{count, count_same, count_other, Below}
use Rattle.virtio.specs.declared.Desc.{Desc}
use Rattle.virtio.specs.declared.Buffer.{Buffer}
use Rattle.virtio.specs.Desc.{no_desc, no_buffer, has_next, has_indirect, flags_of, buffer_of}
use Rattle.rules.specs.Calls.{filled, more?, fill}

-- ---- what a filled descriptor says

write_told : (m o : Bool) → eqb (flags_of m o false / 2 % 2) 1 ≡ o
write_told true true = refl
write_told true false = refl
write_told false true = refl
write_told false false = refl

next_told : (m o : Bool) → eqb (flags_of m o false % 2) 1 ≡ m
next_told true true = refl
next_told true false = refl
next_told false true = refl
next_told false false = refl

direct_told : (m o : Bool) → eqb (flags_of m o false / 4 % 2) 1 ≡ false
direct_told true true = refl
direct_told true false = refl
direct_told false true = refl
direct_told false false = refl

-- its buffer; that the chain goes on, as told; and that it refers to no list
module _ (b : Buffer) (m : Bool) (x : ℕ) where
  pub filled_buffer : buffer_of (filled b m x) ≡ b
  filled_buffer = λ i. record { addr = b.addr; len = b.len; output = write_told m b.output i }

  pub filled_next : has_next (filled b m x) ≡ m
  filled_next = next_told m b.output

  pub filled_direct : has_indirect (filled b m x) ≡ false
  filled_direct = direct_told m b.output

-- whether another buffer follows, by the number of the buffer
pub more_on : (j : ℕ) (bs : List Buffer) → j < length bs → more? (drop j bs) ≡ true
more_on zero [] l = absurd (omega arith)
more_on zero (b ∷ bs) l = refl
more_on (suc j) [] l = absurd (omega arith)
more_on (suc j) (b ∷ bs) l = more_on j bs (omega arith)

pub no_more : (j : ℕ) (bs : List Buffer) → length bs ≤ j → more? (drop j bs) ≡ false
no_more zero [] l = refl
no_more zero (b ∷ bs) l = absurd (omega arith)
no_more (suc j) [] l = refl
no_more (suc j) (b ∷ bs) l = no_more j bs (omega arith)

-- ---- what `fill` does to a table that links as `next` says

module _ (next : ℕ → ℕ) where
  abbrev pub Links : List Desc → Type 0
  Links s = (j : ℕ) → (get_or s j no_desc).next ≡ next j

  -- one descriptor filled
  abbrev put : List Desc → ℕ → Buffer → Bool → List Desc
  put s i b m = set s i (filled b m (next i))

  put_links : (s : List Desc) (i : ℕ) (b : Buffer) (m : Bool) → Links s → Links (put s i b m)
  put_links s i b m h j =
      by_test (ltb i (length s))
      (λ t. by_eq j i
      (λ e. ap (λ k. (get_or (put s i b m) k no_desc).next) e ∙ ap (λ (d : Desc). d.next) (get_or-set_same s i (filled b m (next i)) no_desc (ltb-true i (length s) t)) ∙ ap next (sym e))
      (λ e. ap (λ (d : Desc). d.next) (get_or-set_other s i j (filled b m (next i)) no_desc e) ∙ h j))
      (λ t. ap (λ (l : List Desc). (get_or l j no_desc).next) (set_out s i (filled b m (next i)) (ltb-false i (length s) t)) ∙ h j)

  fill_next : (s : List Desc) (i : ℕ) (b : Buffer) (bs : List Buffer) → Links s → fill s i (b ∷ bs) ≡ fill (put s i b (more? bs)) (next i) bs
  unfolding fill
  fill_next s i b bs h = ap (λ x. fill (set s i (filled b (more? bs) x)) x bs) (h i)

  -- the links stay
  pub fill_links : (s : List Desc) (i : ℕ) (bs : List Buffer) → Links s → Links (fill s i bs)
  unfolding fill
  fill_links s i [] h j = h j
  fill_links s i (b ∷ bs) h j =
      ap (λ (l : List Desc). (get_or l j no_desc).next) (fill_next s i b bs h)
      ∙ fill_links (put s i b (more? bs)) (next i) bs (put_links s i b (more? bs) h) j

  -- a descriptor that is not walked stays
  pub fill_other : (s : List Desc) (i : ℕ) (bs : List Buffer) → Links s → (j : ℕ) → count j (walk next (length bs) i) ≡ 0
      → get_or (fill s i bs) j no_desc ≡ get_or s j no_desc
  unfolding fill walk
  fill_other s i [] h j z = refl
  fill_other s i (b ∷ bs) h j z =
      by_eq j i
      (λ e. absurd (let a = count_same j i (walk next (length bs) (next i)) e in omega arith))
      (λ e. ap (λ (l : List Desc). get_or l j no_desc) (fill_next s i b bs h)
      ∙ fill_other (put s i b (more? bs)) (next i) bs (put_links s i b (more? bs) h) j (sym (count_other j i (walk next (length bs) (next i)) e) ∙ z)
      ∙ get_or-set_other s i j (filled b (more? bs) (next i)) no_desc e)

  -- the descriptors walked, where they are all different and in the table, hold the buffers
  pub fill_at : (n : ℕ) (s : List Desc) (i : ℕ) (bs : List Buffer) → n ≤ length s → Links s → Below n (walk next (length bs) i) → ((j : ℕ) → j < n → count j (walk next (length bs) i) ≤ 1)
      → (j : ℕ) → j < length bs → get_or (fill s i bs) (hop next j i) no_desc ≡ filled (get_or bs j no_buffer) (more? (drop (suc j) bs)) (next (hop next j i))
  unfolding walk hop
  fill_at n s i [] f h u c j l = absurd (omega arith)
  fill_at n s i (b ∷ bs) f h u c zero l =
      let v : i < n = u.0 in
      let a : count i (i ∷ walk next (length bs) (next i)) ≡ suc (count i (walk next (length bs) (next i))) = count_same i i (walk next (length bs) (next i)) refl in
      let one : count i (i ∷ walk next (length bs) (next i)) ≤ 1 = c i v in
      ap (λ (t : List Desc). get_or t i no_desc) (fill_next s i b bs h)
      ∙ fill_other (put s i b (more? bs)) (next i) bs (put_links s i b (more? bs) h) i (omega arith)
      ∙ get_or-set_same s i (filled b (more? bs) (next i)) no_desc (omega arith)
  fill_at n s i (b ∷ bs) f h u c (suc j) l =
      let e : length (put s i b (more? bs)) ≡ length s = length-set s i (filled b (more? bs) (next i)) in
      ap (λ (t : List Desc). get_or t (hop next j (next i)) no_desc) (fill_next s i b bs h)
      ∙ fill_at n (put s i b (more? bs)) (next i) bs (omega arith) (put_links s i b (more? bs) h) u.1 fewer j (omega arith)
    where
      fewer : (x : ℕ) → x < n → count x (walk next (length bs) (next i)) ≤ 1
      fewer x v =
          let one : count x (i ∷ walk next (length bs) (next i)) ≤ 1 = c x v in
          let less = count_cons x i (walk next (length bs) (next i)) in
          omega arith
