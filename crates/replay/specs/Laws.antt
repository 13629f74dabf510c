-- What the code needs of the text that it read: numbers within their widths, words within the text, and at most 65 buffers on a side.
use Rattle.std.specs.Prelude.{◌≡◌, Bool, true, false, cond, ◌&&◌, List, [], ◌∷◌, ℕ, zero, suc, ◌+◌, ◌-◌, ◌*◌, ◌≤◌, length, take, drop, replicate}
use Rattle.std.proofs.Common.{sym, ap, subst, arith, length-drop, length-take-le}
use Rattle.virtio.specs.Layout.{need_two}
use Rattle.text.specs.Words.{newline}
use Rattle.text.specs.Text.{Found, stands, none, read, number, ended, field, side}
use Rattle.text.specs.Laws.{starts_long, number_most}
use Rattle.text.specs.Turns.{side_length}

-- ---- a number that was read is within its width

within : (b : Bool) (x y : Found) (most : ℕ) → (b ≡ true → x.value ≤ most) → y.value ≤ most → (cond b x y).value ≤ most
within true x y most h k = h (λ i. true)
within false x y most h k = k

pub field_within : (key : List ℕ) (most : ℕ) (s : List ℕ) (at : ℕ) → (field key most s at).value ≤ most
field_within key most s at =
    let n : Found = number most s (at + length key) in
    within
    (stands key s at)
    (ended s n)
    none
    most
    (λ e.
    within
    (n.ok && stands newline s n.at)
    (read n.value (suc n.at))
    none
    most
    (λ f. number_most most s (at + length key))
    (omega arith))
    (omega arith)

pub value_within : (key : List ℕ) (most : ℕ) (s : List ℕ) (at : ℕ) (r : Found) → r ≡ field key most s at → r.value ≤ most
value_within key most s at r e = subst (λ (x : Found). x.value ≤ most) (sym e) (field_within key most s at)

-- ---- a word that stands there is within the text

pub stands_long : (word s : List ℕ) (at : ℕ) → stands word s at ≡ true → length word ≤ length s - at
stands_long word s at e = omega (arith, starts_long word (drop at s) e, length-drop at s)

-- ---- a side has at most 65 buffers

pub side_few : (key : List ℕ) (output : Bool) (s : List ℕ) (at : ℕ) → length (side key output s at []).buffers ≤ 65
side_few key output s at = side_length key output s at []

-- ---- parts of a list

-- as many as are taken, where there are so many
pub taken : (k n : ℕ) (l : List ℕ) → k ≤ n → length l ≡ n → k ≡ length (take k l)
taken k n l h e = sym (length-take-le k l (omega arith))

-- the first zeros of zeros
pub take_zeros : (k n : ℕ) → k ≤ n → take k (replicate {A = ℕ} n 0) ≡ replicate k 0
take_zeros zero n h = λ i. []
take_zeros (suc k) zero h = absurd (omega arith)
take_zeros (suc k) (suc n) h = ap (λ (r : List ℕ). 0 ∷ r) (take_zeros k n (omega arith))

-- ---- region two has room for the used ring

pub two_long : (n len : ℕ) → len ≡ need_two false n → len ≡ 6 + 8 * n
unfolding need_two
two_long n len e = e
