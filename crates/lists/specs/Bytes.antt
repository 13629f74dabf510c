-- Little-endian fields of any width in a list of bytes (VIRTIO 1.1, 1.4), and their laws, for every width at once:
-- what was stored is read back, other places stay, the length stays.
use Rattle.std.specs.Prelude.{◌≡◌, refl, ◌⊎◌, List, ℕ, zero, suc, ◌+◌, ◌*◌, ◌/◌, ◌%◌, ◌^◌, ◌≤◌, ◌<◌, length, get_or, set, take, drop}
use Rattle.std.proofs.Common.{◌∙◌, inl, inr, pow-suc, arith, length-set, get_or-set_same, get_or-set_other, get_or-take, get_or-drop}

-- the number that the k bytes of s from a on say, the lowest byte first
unfoldable pub get_le : ℕ → List ℕ → ℕ → ℕ
get_le zero s a = 0
get_le (suc k) s a = get_or s a 0 + 256 * get_le k s (suc a)

-- s with the k lowest bytes of v stored from a on, the lowest byte first
unfoldable pub put_le : ℕ → List ℕ → ℕ → ℕ → List ℕ
put_le zero s a v = s
put_le (suc k) s a v = put_le k (set s a (v % 256)) (suc a) (v / 256)

-- one step of each, at a count and a place that are only equal to a `suc`, as a loop has them
pub get_next : (n m : ℕ) (s : List ℕ) (a b : ℕ) → n ≡ suc m → b ≡ suc a → get_le n s a ≡ get_or s a 0 + 256 * get_le m s b
unfolding get_le
get_next n m s a b e f = rw (e, f)

pub put_next : (n m : ℕ) (s : List ℕ) (a b v : ℕ) → n ≡ suc m → b ≡ suc a → put_le n s a v ≡ put_le m (set s a (v % 256)) b (v / 256)
unfolding put_le
put_next n m s a b v e f = rw (e, f)

pub pow_next : (n m : ℕ) → n ≡ suc m → 256 ^ n ≡ 256 ^ m * 256
pow_next n m e = rw e (pow-suc 256 m)

pub put_none : (n : ℕ) (s : List ℕ) (a v : ℕ) → n ≡ 0 → put_le n s a v ≡ s
unfolding put_le
put_none n s a v e = rw e

pub get_none : (n : ℕ) (s : List ℕ) (a : ℕ) → n ≡ 0 → get_le n s a ≡ 0
unfolding get_le
get_none n s a e = rw e

-- a store keeps the length
pub put_length : (k : ℕ) (s : List ℕ) (a v : ℕ) → length (put_le k s a v) ≡ length s
unfolding put_le
put_length zero s a v = refl
put_length (suc k) s a v = put_length k (set s a (v % 256)) (suc a) (v / 256) ∙ length-set s a (v % 256)

-- a byte outside of the place of a store is as it was
pub put_outside : (k : ℕ) (s : List ℕ) (a v i : ℕ) → (i < a) ⊎ (a + k ≤ i) → get_or (put_le k s a v) i 0 ≡ get_or s i 0
unfolding put_le
put_outside zero s a v i h = refl
put_outside (suc k) s a v i (inl h) =
    put_outside k (set s a (v % 256)) (suc a) (v / 256) i (inl (omega arith))
    ∙ get_or-set_other s a i (v % 256) 0 (omega arith)
put_outside (suc k) s a v i (inr h) =
    put_outside k (set s a (v % 256)) (suc a) (v / 256) i (inr (omega arith))
    ∙ get_or-set_other s a i (v % 256) 0 (omega arith)

-- two lists that agree on a field's bytes say the same number there
pub get_agree : (k : ℕ) (s t : List ℕ) (a : ℕ) → ((i : ℕ) → a ≤ i → i < a + k → get_or s i 0 ≡ get_or t i 0) → get_le k s a ≡ get_le k t a
unfolding get_le
get_agree zero s t a h = refl
get_agree (suc k) s t a h =
    let e = h a (omega arith) (omega arith) in
    let r = get_agree k s t (suc a) (λ i l u. h i (omega arith) (omega arith)) in
    omega arith

-- what is read where nothing was stored is as it was
pub get_put_other : (j k : ℕ) (s : List ℕ) (a b v : ℕ) → (a + j ≤ b) ⊎ (b + k ≤ a) → get_le j (put_le k s b v) a ≡ get_le j s a
get_put_other j k s a b v (inl h) =
    get_agree j (put_le k s b v) s a (λ i l u. put_outside k s b v i (inl (omega arith)))
get_put_other j k s a b v (inr h) =
    get_agree j (put_le k s b v) s a (λ i l u. put_outside k s b v i (inr (omega arith)))

-- what was stored is read
pub get_put_same : (k : ℕ) (s : List ℕ) (a v : ℕ) → a + k ≤ length s → v < 256 ^ k → get_le k (put_le k s a v) a ≡ v
unfolding get_le put_le
get_put_same zero s a v h f = omega arith
get_put_same (suc k) s a v h f =
    let t = set s a (v % 256) in
    let n : length t ≡ length s = length-set s a (v % 256) in
    let p : 256 ^ suc k ≡ 256 ^ k * 256 = pow-suc 256 k in
    let low = put_outside k t (suc a) (v / 256) a (inl (omega arith)) ∙ get_or-set_same s a (v % 256) 0 (omega arith) in
    let high = get_put_same k t (suc a) (v / 256) (omega arith) (omega arith) in
    omega arith

-- the numbers of a list are bytes
abbrev pub Bytes : List ℕ → Type 0
Bytes s = (i : ℕ) → get_or s i 0 < 256

-- a field of k bytes is below 256 ^ k
pub get_below : (k : ℕ) (s : List ℕ) (a : ℕ) → Bytes s → get_le k s a < 256 ^ k
unfolding get_le
get_below zero s a h = omega arith
get_below (suc k) s a h =
    let p : 256 ^ suc k ≡ 256 ^ k * 256 = pow-suc 256 k in
    omega (arith, h a, get_below k s (suc a) h)

-- a field of a part of the list is the field of the list
pub get_part : (j : ℕ) (s : List ℕ) (from count a : ℕ) → a + j ≤ count → get_le j (take count (drop from s)) a ≡ get_le j s (from + a)
unfolding get_le
get_part zero s from count a h = refl
get_part (suc j) s from count a h =
    let e : get_or (take count (drop from s)) a 0 ≡ get_or s (from + a) 0 = get_or-take count (drop from s) a 0 (omega arith) ∙ get_or-drop from s a 0 in
    let p : from + suc a ≡ suc (from + a) = omega arith in
    let r : get_le j (take count (drop from s)) (suc a) ≡ get_le j s (suc (from + a)) = get_part j s from count (suc a) (omega arith) ∙ rw p refl in
    rw (e, r)
