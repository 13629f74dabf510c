-- A check of names from its beginning, with no mark set, to its answer: whether every link is below n, and each of 0..n-1 is named once.
use Rattle.std.specs.Prelude.{◌≡◌, refl, Bool, true, false, ◌&&◌, ℕ, ◌*◌, ◌≤◌, ◌<◌, ltb, length, get_or}
use Rattle.std.proofs.Common.{sym, ap, ◌∙◌, true≢false, arith, lt-ltb, ltb-true}
use mathlib.Core.List.{List, [], ◌∷◌}
use Rattle.lists.specs.Marks.{marks_of, no_marks}
use Rattle.lists.specs.Once.{once_each, Below, Once, once_true, count, count_other}
use Rattle.lists.specs.Pick.{every}
use Rattle.lists.specs.PickLaws.{All, every_true, true_every}
use Rattle.lists.specs.Runs.{Inside}
use Rattle.lists.specs.Tests.{by_test, by_eq}
use Rattle.lists.specs.Visit.{visit, once_visit}
use Rattle.lists.specs.Asked.{Stays, Known, Asked}

-- what holds of all holds of one that is counted
all_counted : (P : ℕ → Type 0) (i : ℕ) (xs : List ℕ) → All P xs → 0 < count i xs → P i
unfolding count
all_counted P i [] a l = absurd (omega arith)
all_counted P i (x ∷ xs) a l = by_eq i x (λ z. rw z a.0) (λ z. all_counted P i xs a.1 (let e = count_other i x xs z in omega arith))

all_below_lem : (n : ℕ) (next : ℕ → ℕ) (xs : List ℕ) → All (Inside n next) xs → Below n xs
all_below_lem n next [] a = tt
all_below_lem n next (x ∷ xs) a = (a.0.0, all_below_lem n next xs a.1)

module _ (n : ℕ) (next : ℕ → ℕ) (names : List ℕ) where
  -- the beginning: no mark is set
  pub ask : (ws : List ℕ) → n ≤ 64 * length ws → ((i : ℕ) → get_or ws i 0 ≡ 0) → (Stays n next → Below n names) → Asked n next names (marks_of ws) n names
  ask ws room clear below = record {
    told = λ s. by_marks (below s);
    safe = λ a v. (a, by_marks (all_below_lem n next names a) ∙ v);
  }
    where
      by_marks : Below n names → once_each n names ≡ visit (marks_of ws) n names
      by_marks b = once_visit (64 * length ws) n names room b ∙ ap (λ s. visit s n names) (sym (no_marks ws clear))

  -- THE ANSWER
  met_all : All (Inside n next) names → once_each n names ≡ true → every (λ i. ltb (next i) n) n 0 ≡ true
  met_all a v =
      let o : Once n names = once_true n names v in
      true_every (λ i. ltb (next i) n) n 0
      (λ j l u. lt-ltb (next j) n (all_counted (Inside n next) j names a (let e = o.each j (omega arith) in omega arith)).1)

  pub answered : (b : Bool) → Known n next names b → b ≡ (every (λ i. ltb (next i) n) n 0 && once_each n names)
  answered b k =
      by_test (every (λ i. ltb (next i) n) n 0)
      (λ e. rw e (sym (k.told (λ d l. ltb-true (next d) n (every_true (λ i. ltb (next i) n) n 0 e d (omega arith) (omega arith))))))
      (λ e. rw e (no b k e))
    where
      no : (b : Bool) → Known n next names b → every (λ i. ltb (next i) n) n 0 ≡ false → b ≡ false
      no false k e = refl
      no true k e = absurd (true≢false (sym (met_all (k.safe refl).0 (k.safe refl).1) ∙ e))
