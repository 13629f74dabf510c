-- Laws of written text: what one more byte leaves, pieces as one text, and that io's digits of a number are the decimal that is printed.
use Rattle.std.specs.Prelude.{◌≡◌, List, [], ◌∷◌, ◌++◌, ℕ, zero, suc, ◌+◌, ◌-◌, ◌*◌, ◌/◌, ◌%◌, ◌^◌, ◌≤◌, ◌<◌, min, leb, length, take, set}
use Rattle.std.proofs.Common.{sym, ap, ◌∙◌, subst, append_assoc, pow-suc, arith, lt-ltb, le-ltb, leb-true, leb-false, length-take, length-append, take_all}
use Rattle.std.proofs.Math.Nat.{one-le-pow, pow-le-pow_right}
use Rattle.std.proofs.lemmas.List.Edits.{sets}
use Rattle.std.proofs.Math.Seq.{length-sets}
use Rattle.std.proofs.lemmas.List.{take-append-le}
use Rattle.lists.specs.Tests.{by_test}
use Rattle.io.specs.Digits.{last_digits, hex_digit_ascii, IsDigitCount}
use Rattle.print.specs.Print.{decimal_of, decimal, Written}

-- ---- one more byte

-- stores of a piece and of one more byte after it, as the stores of both
sets_snoc : (l : List ℕ) (i : ℕ) (xs : List ℕ) (b : ℕ) → set (sets l i xs) (i + length xs) b ≡ sets l i (xs ++ (b ∷ []))
sets_snoc l i [] b = ap (λ (k : ℕ). set l k b) (omega arith)
sets_snoc l i (x ∷ xs) b =
    ap (λ (k : ℕ). set (sets (set l i x) (suc i) xs) k b) (omega arith) ∙ sets_snoc (set l i x) (suc i) xs b

module _ (before after : List ℕ) (at : ℕ) (text : List ℕ) (b : ℕ) (w : Written before after at text) where
  length_after : length after ≡ length before
  length_after = ap length w.bytes ∙ length-sets before 0 (take (length before) text)

  at_is : at ≡ min (length before) (length text)
  at_is = w.count ∙ length-take (length before) text

  longer : length (text ++ (b ∷ [])) ≡ length text + 1
  longer = length-append text (b ∷ [])

  pub put_room : at < length after → Written before (set after at b) (at + 1) (text ++ (b ∷ []))
  put_room h =
      let short : length text < length before = omega (arith, length_after, at_is) in
      let whole : take (length before) text ≡ text = take_all (length before) text (omega arith) in
      let both : take (length before) (text ++ (b ∷ [])) ≡ text ++ (b ∷ []) =
      take_all (length before) (text ++ (b ∷ [])) (omega (arith, longer)) in
      let here : at ≡ 0 + length text = omega (arith, at_is) in
      let stored : after ≡ sets before 0 text = w.bytes ∙ ap (λ (t : List ℕ). sets before 0 t) whole in
      record {
        count = omega (arith, here, longer, ap length both);
        bytes =
            ap (λ (l : List ℕ). set l at b) stored
            ∙ ap (λ (k : ℕ). set (sets before 0 text) k b) here
            ∙ sets_snoc before 0 text b
            ∙ ap (λ (t : List ℕ). sets before 0 t) (sym both);
      }

  pub put_full : length after ≤ at → Written before after at (text ++ (b ∷ []))
  put_full h =
      let full : length before ≤ length text = omega (arith, length_after, at_is) in
      let same : take (length before) (text ++ (b ∷ [])) ≡ take (length before) text = take-append-le (length before) text (b ∷ []) full in
      record { count = w.count ∙ ap length (sym same); bytes = w.bytes ∙ ap (λ (t : List ℕ). sets before 0 t) (sym same) }

-- ---- pieces, written one after the other

module _ {before after : List ℕ} {at : ℕ} (said : List ℕ) where
  pub three_pieces : (a b c : List ℕ) → Written before after at (said ++ a ++ b ++ c) → Written before after at (said ++ (a ++ b ++ c))
  three_pieces a b c w =
      let same : said ++ a ++ b ++ c ≡ said ++ (a ++ b ++ c) = simp append_assoc in
      subst (λ (t : List ℕ). Written before after at t) same w

  pub five_pieces
      : (a b c d e : List ℕ)
      → Written before after at (said ++ a ++ b ++ c ++ d ++ e)
      → Written before after at (said ++ (a ++ b ++ c ++ d ++ e))
  five_pieces a b c d e w =
      let same : said ++ a ++ b ++ c ++ d ++ e ≡ said ++ (a ++ b ++ c ++ d ++ e) = simp append_assoc in
      subst (λ (t : List ℕ). Written before after at t) same w

-- ---- a number

glyph_is : (d : ℕ) → d < 10 → hex_digit_ascii d ≡ 48 + d
glyph_is d h = rw (lt-ltb d 10 h)

last_digit : (n : ℕ) → hex_digit_ascii (n % 10) ≡ 48 + n % 10
last_digit n = glyph_is (n % 10) (omega arith)

-- a number of two digits or more holds at least ten for each but the last
at_least : (n r : ℕ) → IsDigitCount 10 1 n (suc (suc r)) → 10 ^ r * 10 ≤ n
at_least n r f =
    let e : suc (suc r) - 1 ≡ suc r = omega arith in
    rw (e, pow-suc 10 r) at (f.2 (omega arith))

-- the digits of the tenth part are the fewest for it
fewer : (n r : ℕ) → IsDigitCount 10 1 n (suc (suc r)) → IsDigitCount 10 1 (n / 10) (suc r)
fewer n r f =
    let e : suc r - 1 ≡ r = omega arith in
    let least : 10 ^ r ≤ n / 10 = omega (arith, at_least n r f) in
    (omega arith, omega (arith, f.1, pow-suc 10 (suc r)), λ _. rw e least)

-- the fewest digits that hold a number are its decimal
digits_decimal : (k r n : ℕ) → r ≤ k → IsDigitCount 10 1 n r → last_digits 10 r n ≡ decimal_of k n
unfolding decimal_of
digits_decimal k zero n h f = absurd (omega (arith, f.0))
digits_decimal zero (suc r) n h f = absurd (omega arith)
digits_decimal (suc k) (suc zero) n h f = rw (lt-ltb n 10 f.1, last_digit n)
digits_decimal (suc k) (suc (suc r)) n h f =
    let two : 10 ≤ n = omega (arith, at_least n r f, one-le-pow r 10 (omega arith)) in
    rw (le-ltb n 10 two, last_digit n, digits_decimal k (suc r) (n / 10) (omega arith) (fewer n r f))

-- a number of 64 bits has at most 20 digits
at_most_twenty : (n r : ℕ) → n < 2 ^ 64 → IsDigitCount 10 1 n r → r ≤ 20
at_most_twenty n r h f =
    by_test (leb r 20) (leb-true r 20) (λ e.
    let over : 20 < r = leb-false r 20 e in
    let least : 10 ^ (r - 1) ≤ n = f.2 (omega arith) in
    let large : 10 ^ 20 ≤ 10 ^ (r - 1) = pow-le-pow_right {n = 10} (omega arith) {i = 20} {j = r - 1} (omega arith) in
    omega arith)

pub decimal_is_lem : (n r : ℕ) → n < 2 ^ 64 → IsDigitCount 10 1 n r → last_digits 10 r n ≡ decimal n
decimal_is_lem n r h f = digits_decimal 20 r n (at_most_twenty n r h f) f
