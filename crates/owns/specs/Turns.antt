-- What the loops over heads and over the free list test, turn by turn; and a token's own buffer as the list of one that the code lends.
use Rattle.std.specs.Prelude.{◌≡◌, refl, Bool, true, false, not, ◌||◌, List, [], ◌∷◌, eqb, length}
use Rattle.std.proofs.Common.{sym, ap, ◌∙◌, mul-le-mul, mul-le-mul_right}
use Rattle.std.specs.List.{list_all, range_with_len}
use Prim.Native.Nat.{ℕ, zero, suc, ◌+◌, ◌-◌, ◌*◌, ◌≤◌, ◌<◌, ◌^◌}
use native.Mathlib.Omega.{arith}
use borrow.Author.Tests.{lt-ltb, eq-eqb, ne_eqb}
use Rattle.lists.specs.Tests.{by_test, and_right}
use Rattle.lists.specs.Pick.{every, rising, same}
use Rattle.lists.specs.PickLaws.{length_rising}
use Rattle.lists.specs.Walk.{walk, walk_length}
use Rattle.virtio.specs.declared.Buffer.{Buffer}
use Rattle.rules.specs.Record.{Queue, noted_of, next_of, outstanding, free_list, buffers_of}
use Rattle.rules.specs.Calls.{same_list, matches}
use Rattle.rules.specs.Owning.{own_buffer}
use Rattle.opens.specs.Given.{given}

-- ---- a token's own buffer

-- the product of a 16-bit and a 32-bit number fits 64 bits
pub product_most : (a b : ℕ) → a < 65536 → b < 4294967296 → a * b ≤ 65535 * 4294967295
product_most a b l m =
    let k : a ≤ 65535 = omega arith in
    let n : b ≤ 4294967295 = omega arith in
    mul-le-mul k n

pub product_fits : (a b : ℕ) → a < 65536 → b < 4294967296 → a * b < 2 ^ 64
product_fits a b l m = omega (arith, product_most a b l m)

-- its address lies below 2^64 where the store ends by there
pub address_fits : (base n size h : ℕ) → base < 2 ^ 64 → h < n → base + n * size ≤ 2 ^ 64 → base + h * size < 2 ^ 64
address_fits base n zero h b l e = omega arith
address_fits base n (suc size) h b l e =
    let m : suc h * suc size ≤ n * suc size = mul-le-mul_right {m = suc h} {n = n} (suc size) (omega arith) in
    omega arith

pub own_given : (addr size : ℕ) → given (addr ∷ []) (size ∷ []) (1 ∷ []) ≡ record { addr = addr; len = size; output = true } ∷ []
unfolding given rising
own_given addr size = refl

-- ---- what is tested at a head

abbrev pub own_at : Queue → ℕ → ℕ → ℕ → Bool
own_at q base size h = not (outstanding q h) || same_list (buffers_of q h) (own_buffer base size h ∷ [])

abbrev pub out_but : Queue → ℕ → ℕ → Bool
out_but q t h = eqb h t || outstanding q h

module _ (q : Queue) (h x : ℕ) (l : h < q.n) (e : x ≡ noted_of q h) where
  pub out_none : x ≡ 0 → outstanding q h ≡ false
  out_none z = rw (lt-ltb h q.n l, eq-eqb (noted_of q h) 0 (sym e ∙ z))

  pub out_some : (x ≡ 0 → ⊥) → outstanding q h ≡ true
  out_some z = rw (lt-ltb h q.n l, ne_eqb (noted_of q h) 0 (λ n. z (e ∙ n)))

  pub own_none : (base size : ℕ) → x ≡ 0 → true ≡ own_at q base size h
  own_none base size z = rw (out_none z)

  pub own_some : (base size : ℕ) (bs : List Buffer) → (x ≡ 0 → ⊥) → bs ≡ own_buffer base size h ∷ [] → matches q h bs ≡ own_at q base size h
  own_some base size bs z f = rw (out_some z, f)

  -- not the one left aside: its noted length tells
  pub but_noted : (t : ℕ) → (h ≡ t → ⊥) → not (eqb x 0) ≡ out_but q t h
  but_noted t d = sym (rw (ne_eqb h t d, lt-ltb h q.n l, ← e))

pub but_aside : (q : Queue) (h t : ℕ) → h ≡ t → out_but q t h ≡ true
but_aside q h t e = rw (eq-eqb h t e)

-- where the one left aside is none of them, all are tested
every_below : (p : ℕ → Bool) (n m i : ℕ) → i + m ≤ n → every (λ h. eqb h n || p h) m i ≡ every p m i
unfolding every
every_below p n zero i l = refl
every_below p n (suc m) i l = rw (ne_eqb i n (omega arith), every_below p n m (suc i) (omega arith))

pub but_nothing : (q : Queue) → every (out_but q q.n) q.n 0 ≡ every (outstanding q) q.n 0
but_nothing q = every_below (outstanding q) q.n q.n 0 (omega arith)

-- a test at each of a run of numbers, as an iterator over them makes it
pub every_listed : (p : ℕ → Bool) (m i : ℕ) → list_all p (range_with_len i m) ≡ every p m i
unfolding every
every_listed p zero i = refl
every_listed p (suc m) i = let e : i + 1 ≡ suc i = omega arith in rw (e, every_listed p m (suc i))

-- ---- the free list in the order of its numbers

same_lengths : (xs ys : List ℕ) → same xs ys ≡ true → length xs ≡ length ys
unfolding same
same_lengths [] [] e = refl
same_lengths [] (y ∷ ys) e = absurd (let z : ◌≡◌ {A = Bool} false true = e in let w : ◌≡◌ {A = ℕ} 0 1 = cc in omega arith)
same_lengths (x ∷ xs) [] e = absurd (let z : ◌≡◌ {A = Bool} false true = e in let w : ◌≡◌ {A = ℕ} 0 1 = cc in omega arith)
same_lengths (x ∷ xs) (y ∷ ys) e = ap suc (same_lengths xs ys (and_right (eqb x y) (same xs ys) e))

pub order_used : (q : Queue) → q.counts.used ≤ q.n → (q.counts.used ≡ 0 → ⊥) → false ≡ same (free_list q) (rising q.n 0)
order_used q l z =
    by_test (same (free_list q) (rising q.n 0))
    (λ s. absurd (let e : length (free_list q) ≡ length (rising q.n 0) = same_lengths (free_list q) (rising q.n 0) s in omega (arith, walk_length (next_of q) (q.n - q.counts.used) q.counts.free, length_rising q.n 0)))
    (λ s. sym s)

-- the rest of it: the numbers from i on, along the links from `at`
abbrev pub order_rest : Queue → ℕ → ℕ → Bool
order_rest q at i = same (walk (next_of q) (q.n - i) at) (rising (q.n - i) i)

pub order_start : (q : Queue) → q.counts.used ≡ 0 → same (free_list q) (rising q.n 0) ≡ order_rest q q.counts.free 0
order_start q z = let e : q.n - q.counts.used ≡ q.n = omega arith in let f : q.n - 0 ≡ q.n = omega arith in rw (e, f)

module _ (q : Queue) (at i : ℕ) where
  pub order_turn : i < q.n → at ≡ i → order_rest q at i ≡ order_rest q (next_of q at) (i + 1)
  unfolding walk rising same
  order_turn l e =
      let k : q.n - i ≡ suc (q.n - (i + 1)) = omega arith in
      let s : suc i ≡ i + 1 = omega arith in
      rw (k, eq-eqb at i e, s)

  pub order_stop : i < q.n → (at ≡ i → ⊥) → order_rest q at i ≡ false
  unfolding walk rising same
  order_stop l e =
      let k : q.n - i ≡ suc (q.n - (i + 1)) = omega arith in
      rw (k, ne_eqb at i e)

  pub order_end : q.n ≤ i → order_rest q at i ≡ true
  unfolding walk rising same
  order_end l = let k : q.n - i ≡ 0 = omega arith in rw k
