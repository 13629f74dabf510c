-- Laws of Pick's `every`, `tally`, `first` and `rising`, of membership, and of a list of one value.
use Rattle.std.specs.Prelude.{◌≡◌, Bool, true, false, List, [], ◌∷◌, ◌++◌, map, eqb, length, get_or, replicate}
use Rattle.std.proofs.Math.Path.{refl, ap, ap₂}
use Rattle.std.proofs.Common.{sym, ◌∙◌, true≢false, add-one, eqb-true}
use Rattle.std.proofs.lemmas.Bool.{false≢true}
use Prim.Native.Nat.{ℕ, zero, suc, ◌+◌, ◌-◌, ◌≤◌, ◌<◌}
use native.Mathlib.Omega.{arith}
use Rattle.lists.specs.Tests.{by_test, by_eq, and_left, and_right, and_both}
use Rattle.lists.specs.Pick.{Test, ◌when◌, first, every, tally, one_if, rising}
use Rattle.lists.specs.Once.{mem, count, count_same, count_other}

-- ---- `every` says that p holds at each of the numbers

module _ (p : ℕ → Bool) where
  pub every_true : (m i : ℕ) → every p m i ≡ true → (j : ℕ) → i ≤ j → j < i + m → p j ≡ true
  unfolding every
  every_true zero i e j l u = absurd (omega arith)
  every_true (suc m) i e j l u =
      by_eq i j
      (λ s. rw s at (and_left (p i) (every p m (suc i)) e))
      (λ s. every_true m (suc i) (and_right (p i) (every p m (suc i)) e) j (omega arith) (omega arith))

  pub true_every : (m i : ℕ) → ((j : ℕ) → i ≤ j → j < i + m → p j ≡ true) → every p m i ≡ true
  unfolding every
  true_every zero i h = refl
  true_every (suc m) i h =
      and_both (p i) (every p m (suc i)) (h i (omega arith) (omega arith))
      (true_every m (suc i) (λ j l u. h j (omega arith) (omega arith)))

  -- a loop's turn, where p holds at i; its way out, where p does not; and its end
  pub every_next : (m i : ℕ) → 0 < m → p i ≡ true → every p m i ≡ every p (m - 1) (i + 1)
  unfolding every
  every_next zero i l e = absurd (omega arith)
  every_next (suc m) i l e =
      let k : m ≡ suc m - 1 = omega arith in
      rw (e, add-one) (ap (λ j. every p j (suc i)) k)

  pub every_bad : (m i : ℕ) → 0 < m → p i ≡ false → every p m i ≡ false
  unfolding every
  every_bad zero i l e = absurd (omega arith)
  every_bad (suc m) i l e = rw e

  pub every_none : (m i : ℕ) → m ≡ 0 → every p m i ≡ true
  unfolding every
  every_none m i e = rw (e, every)

-- ---- `tally` counts one where p holds at i, none where it does not, and none of no numbers

module _ (p : ℕ → Bool) where
  pub tally_next : (m i : ℕ) → 0 < m → p i ≡ true → tally p m i ≡ 1 + tally p (m - 1) (i + 1)
  unfolding tally
  tally_next zero i l e = absurd (omega arith)
  tally_next (suc m) i l e =
      let k : m ≡ suc m - 1 = omega arith in
      rw (e, add-one) (ap (λ j. 1 + tally p j (suc i)) k)

  pub tally_skip : (m i : ℕ) → 0 < m → p i ≡ false → tally p m i ≡ tally p (m - 1) (i + 1)
  unfolding tally
  tally_skip zero i l e = absurd (omega arith)
  tally_skip (suc m) i l e =
      let k : m ≡ suc m - 1 = omega arith in
      let t : tally p m (suc i) ≡ tally p (suc m - 1) (suc i) = ap (λ j. tally p j (suc i)) k in
      rw (e, add-one) (omega arith)

  pub tally_none : (m i : ℕ) → m ≡ 0 → tally p m i ≡ 0
  unfolding tally
  tally_none m i e = rw (e, tally)

-- a test that holds nowhere counts none
pub tally_nowhere : (p : ℕ → Bool) → ((j : ℕ) → p j ≡ false) → (m i : ℕ) → tally p m i ≡ 0
unfolding tally
tally_nowhere p h zero i = refl
tally_nowhere p h (suc m) i = ap₂ (λ b k. one_if b + k) (h i) (tally_nowhere p h m (suc i))

-- a test that holds at one more number, t, counts one more
module _ (p r : ℕ → Bool) where
  pub tally_same : (m i : ℕ) → ((j : ℕ) → i ≤ j → j < i + m → r j ≡ p j) → tally r m i ≡ tally p m i
  unfolding tally
  tally_same zero i o = refl
  tally_same (suc m) i o =
      ap₂ (λ b k. one_if b + k) (o i (omega arith) (omega arith)) (tally_same m (suc i) (λ j l u. o j (omega arith) (omega arith)))

  pub tally_more : (t : ℕ) → p t ≡ false → r t ≡ true → ((j : ℕ) → (j ≡ t → ⊥) → r j ≡ p j) → (m i : ℕ) → i ≤ t → t < i + m → tally r m i ≡ 1 + tally p m i
  unfolding tally
  tally_more t f g o zero i l u = absurd (omega arith)
  tally_more t f g o (suc m) i l u =
      by_eq i t
      (λ e. let a : one_if (p i) ≡ 0 = ap one_if (ap p e ∙ f) in
      let b : one_if (r i) ≡ 1 = ap one_if (ap r e ∙ g) in
      let c : tally r m (suc i) ≡ tally p m (suc i) = tally_same m (suc i) (λ j v w. o j (omega arith)) in
      omega arith)
      (λ e. let a : one_if (r i) ≡ one_if (p i) = ap one_if (o i e) in
      let c : tally r m (suc i) ≡ 1 + tally p m (suc i) = tally_more t f g o m (suc i) (omega arith) (omega arith) in
      omega arith)

-- and with p switched off at one of the numbers, h, one less
pub tally_off : (p r : ℕ → Bool) (h : ℕ) → p h ≡ true → r h ≡ false → ((j : ℕ) → (j ≡ h → ⊥) → r j ≡ p j) → (m i : ℕ) → i ≤ h → h < i + m
    → tally r m i + 1 ≡ tally p m i
tally_off p r h on off same m i l u =
    let e : tally p m i ≡ 1 + tally r m i = tally_more r p h off on (λ j d. sym (same j d)) m i l u in
    omega arith

-- ---- `first` gives 0 exactly where no test holds, so long as no test's number is 0

abbrev pub Numbered : List Test → Type 0
Numbered [] = Unit {0}
Numbered ((n when b) ∷ ts) = (n ≡ 0 → ⊥) × Numbered ts

abbrev pub NoneOf : List Test → Type 0
NoneOf [] = Unit {0}
NoneOf ((n when b) ∷ ts) = (b ≡ false) × NoneOf ts

pub first_none : (ts : List Test) → Numbered ts → first ts ≡ 0 → NoneOf ts
first_none [] h e = tt
first_none ((n when true) ∷ ts) h e = absurd (h.0 e)
first_none ((n when false) ∷ ts) h e = (refl, first_none ts h.1 e)

pub none_first : (ts : List Test) → NoneOf ts → first ts ≡ 0
none_first [] h = refl
none_first ((n when true) ∷ ts) h = absurd (true≢false h.0)
none_first ((n when false) ∷ ts) h = none_first ts h.1

-- the first of two lists of tests, one after the other
pub first_then : (ts us : List Test) → NoneOf ts → first (ts ++ us) ≡ first us
first_then [] us h = refl
first_then ((n when true) ∷ ts) us h = absurd (true≢false h.0)
first_then ((n when false) ∷ ts) us h = first_then ts us h.1

pub first_stops : (ts us : List Test) → (first ts ≡ 0 → ⊥) → first (ts ++ us) ≡ first ts
first_stops [] us h = absurd (h refl)
first_stops ((n when true) ∷ ts) us h = refl
first_stops ((n when false) ∷ ts) us h = first_stops ts us h

-- ---- what holds of each number of a list holds of its members

abbrev pub All : (ℕ → Type 0) → List ℕ → Type 0
All P [] = Unit {0}
All P (x ∷ xs) = P x × All P xs

pub mem_all : (P : ℕ → Type 0) (n : ℕ) (xs : List ℕ) → All P xs → mem n xs ≡ true → P n
unfolding mem
mem_all P n [] h e = absurd (false≢true e)
mem_all P n (x ∷ xs) h e =
    by_test (eqb n x)
    (λ s. rw (eqb-true n x s) h.0)
    (λ s. mem_all P n xs h.1 (rw s at e))

-- ---- a run of f's values: entry i, and past its end

pub length_rising : (k a : ℕ) → length (rising k a) ≡ k
unfolding rising
length_rising zero a = refl
length_rising (suc k) a = ap suc (length_rising k (suc a))

pub get_d_rising_lem : {A : Type 0} (f : ℕ → A) (d : A) (k a i : ℕ) → i < k → get_or (map f (rising k a)) i d ≡ f (a + i)
unfolding rising
get_d_rising_lem f d zero a i h = absurd (omega arith)
get_d_rising_lem f d (suc k) a zero h = ap f (omega arith)
get_d_rising_lem f d (suc k) a (suc i) h = get_d_rising_lem f d k (suc a) i (omega arith) ∙ ap f (omega arith)

pub past_rising : {A : Type 0} (f : ℕ → A) (d : A) (k a i : ℕ) → k ≤ i → get_or (map f (rising k a)) i d ≡ d
unfolding rising
past_rising f d zero a i h = refl
past_rising f d (suc k) a zero h = absurd (omega arith)
past_rising f d (suc k) a (suc i) h = past_rising f d k (suc a) i (omega arith)

-- two functions that agree on the numbers of a run have the same values there
pub rising_agree : {A : Type 0} (f g : ℕ → A) (k a : ℕ) → ((i : ℕ) → a ≤ i → i < a + k → f i ≡ g i) → map f (rising k a) ≡ map g (rising k a)
unfolding rising
rising_agree f g zero a h = refl
rising_agree f g (suc k) a h =
    ap₂ (λ x xs. x ∷ xs) (h a (omega arith) (omega arith)) (rising_agree f g k (suc a) (λ i l u. h i (omega arith) (omega arith)))

-- a run names no number below its first, and each of its own once
count_under : (x k a : ℕ) → x < a → count x (rising k a) ≡ 0
unfolding rising count
count_under x zero a l = refl
count_under x (suc k) a l = count_other x a (rising k (suc a)) (omega arith) ∙ count_under x k (suc a) (omega arith)

pub count_rising : (x k a : ℕ) → a ≤ x → x < a + k → count x (rising k a) ≡ 1
unfolding rising
count_rising x zero a l u = absurd (omega arith)
count_rising x (suc k) a l u =
    by_eq x a
    (λ e. count_same x a (rising k (suc a)) e ∙ ap suc (count_under x k (suc a) (omega arith)))
    (λ e. count_other x a (rising k (suc a)) e ∙ count_rising x k (suc a) (omega arith) (omega arith))

-- a list of one value has it at every place, and past its end where that is what is read there
pub get_d_same_lem : {A : Type 0} (d : A) (n i : ℕ) → get_or (replicate n d) i d ≡ d
get_d_same_lem d zero i = refl
get_d_same_lem d (suc n) zero = refl
get_d_same_lem d (suc n) (suc i) = get_d_same_lem d n i
