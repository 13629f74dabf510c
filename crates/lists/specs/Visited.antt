-- Names visited: r tells whether each of xs was met for the first time, given the marks before; and the marks after are those that then stand.
-- This is lists Visit's `visit` with what comes after left open, so that visits can be joined.
use Rattle.std.specs.Prelude.{◌≡◌, refl, Bool, true, false, not, cond, ◌&&◌, List, [], ◌∷◌, ◌++◌, ℕ, zero, suc, ◌+◌, ◌-◌, ◌≤◌, ◌<◌, length, get_or, set}
use Rattle.std.proofs.Common.{sym, ap, ◌∙◌, append_assoc, arith, length-append, get_or-set_other}
use Rattle.std.proofs.Math.Bool.{and-false}
use Rattle.std.proofs.lemmas.List.{set_comm}
use Rattle.lists.specs.Pick.{rising}
use Rattle.lists.specs.PickLaws.{length_rising}
use Rattle.lists.specs.Tests.{by_eq}
use Rattle.lists.specs.Visit.{visit}
use Rattle.lists.specs.Marks.{mark_all}

abbrev pub Visited : List Bool → List Bool → List ℕ → Bool → Type 0
Visited before after xs r =
    (left : ℕ) (rest : List ℕ) → length xs ≤ left → visit before left (xs ++ rest) ≡ cond r (visit after (left - length xs) rest) false

-- none visited; all of xs, and then ys; a repeat among xs
pub visited_none : (s : List Bool) → Visited s s [] true
visited_none s left rest h = ap (λ n. visit s n rest) (omega arith)

pub visited_then : (a b c : List Bool) (xs ys : List ℕ) (r : Bool) → Visited a b xs true → Visited b c ys r → Visited a c (xs ++ ys) r
visited_then a b c xs ys r f g left rest h =
    let n : length (xs ++ ys) ≡ length xs + length ys = length-append xs ys in
    ap (visit a left) (append_assoc xs ys rest)
    ∙ f left (ys ++ rest) (omega arith)
    ∙ g (left - length xs) rest (omega arith)
    ∙ ap (λ m. cond r (visit c m rest) false) (omega arith)

pub visited_stop : (a b c : List Bool) (xs ys : List ℕ) → Visited a b xs false → Visited a c (xs ++ ys) false
visited_stop a b c xs ys f left rest h =
    let n : length (xs ++ ys) ≡ length xs + length ys = length-append xs ys in
    ap (visit a left) (append_assoc xs ys rest) ∙ f left (ys ++ rest) (omega arith)

-- a rising run, none of it marked yet: it is then; and a run with a mark in it
clear_run : (seen : List Bool) (d c left : ℕ) (rest : List ℕ) → ((i : ℕ) → d ≤ i → i < d + c → get_or seen i false ≡ false)
    → visit seen (c + left) (rising c d ++ rest) ≡ visit (mark_all seen d c) left rest
unfolding visit rising mark_all
clear_run seen d zero left rest h = ap (λ n. visit seen n rest) (omega arith)
clear_run seen d (suc c) left rest h =
    let e : suc c + left ≡ suc (c + left) = omega arith in
    ap (λ n. visit seen n (rising (suc c) d ++ rest)) e
    ∙ ap (λ b. not b && visit (set seen d true) (c + left) (rising c (suc d) ++ rest)) (h d (omega arith) (omega arith))
    ∙ clear_run (set seen d true) (suc d) c left rest (λ i l u. get_or-set_other seen d i true false (omega arith) ∙ h i (omega arith) (omega arith))

met_run : (seen : List Bool) (d c left : ℕ) (rest : List ℕ) (i : ℕ) → d ≤ i → i < d + c → get_or seen i false ≡ true → visit seen left (rising c d ++ rest) ≡ false
unfolding visit rising
met_run seen d zero left rest i l u e = absurd (omega arith)
met_run seen d (suc c) zero rest i l u e = refl
met_run seen d (suc c) (suc left) rest i l u e =
    by_eq i d
    (λ z. ap (λ b. not b && visit (set seen d true) left (rising c (suc d) ++ rest)) (ap (λ j. get_or seen j false) (sym z) ∙ e))
    (λ z. ap (λ b. not (get_or seen d false) && b) (met_run (set seen d true) (suc d) c left rest i (omega arith) (omega arith) (get_or-set_other seen d i true false z ∙ e))
    ∙ and-false (not (get_or seen d false)))

-- one of the c marks from d on is set
pub record Met (seen : List Bool) (d c : ℕ) : Type 0 where
  pub at : ℕ
  pub from : d ≤ at
  pub below : at < d + c
  pub is : get_or seen at false ≡ true

-- THE RUN of c numbers from d on, marked: r tells whether none of it was marked before; if one was, all marks stay as they were
pub record MarkedRun (before after : List Bool) (d c : ℕ) (r : Bool) : Type 0 where
  pub new : r ≡ true → (i : ℕ) → d ≤ i → i < d + c → get_or before i false ≡ false
  pub then : r ≡ true → after ≡ mark_all before d c
  pub met : r ≡ false → Met before d c
  pub stays : r ≡ false → after ≡ before

-- that is a visit of its numbers, upwards
pub marked_up : (a b : List Bool) (d c : ℕ) (r : Bool) → MarkedRun a b d c r → Visited a b (rising c d) r
marked_up a b d c true m left rest l =
    let n : length (rising c d) ≡ c = length_rising c d in
    ap (λ k. visit a k (rising c d ++ rest)) (omega arith) ∙ clear_run a d c (left - length (rising c d)) rest (m.new refl) ∙ ap (λ s. visit s (left - length (rising c d)) rest) (sym (m.then refl))
marked_up a b d c false m left rest l =
    let e : Met a d c = m.met refl in
    met_run a d c left rest e.at e.from e.below e.is

-- ---- and downwards

-- the c numbers from d on down
unfoldable pub falling : ℕ → ℕ → List ℕ
falling zero d = []
falling (suc c) d = d ∷ falling c (d - 1)

pub length_falling : (c d : ℕ) → length (falling c d) ≡ c
unfolding falling
length_falling zero d = refl
length_falling (suc c) d = ap suc (length_falling c (d - 1))

-- the last of a run may be marked first
all_last : (seen : List Bool) (e c : ℕ) → mark_all (set seen (e + c) true) e c ≡ mark_all seen e (suc c)
unfolding mark_all
all_last seen e zero = ap (λ i. set seen i true) (omega arith)
all_last seen e (suc c) =
    let g : e + suc c ≡ suc e + c = omega arith in
    ap (λ s. mark_all s (suc e) c) (set_comm seen (e + suc c) e true true (omega arith) ∙ ap (λ i. set (set seen e true) i true) g)
    ∙ all_last (set seen e true) (suc e) c

clear_fall : (seen : List Bool) (e c left : ℕ) (rest : List ℕ) → ((i : ℕ) → e ≤ i → i < e + c → get_or seen i false ≡ false)
    → visit seen (c + left) (falling c (e + c - 1) ++ rest) ≡ visit (mark_all seen e c) left rest
unfolding visit falling mark_all
clear_fall seen e zero left rest h = ap (λ n. visit seen n rest) (omega arith)
clear_fall seen e (suc c) left rest h =
    let p : suc c + left ≡ suc (c + left) = omega arith in
    let q : e + suc c - 1 ≡ e + c = omega arith in
    ap (λ n. visit seen n (falling (suc c) (e + suc c - 1) ++ rest)) p
    ∙ ap (λ d. visit seen (suc (c + left)) (falling (suc c) d ++ rest)) q
    ∙ ap (λ b. not b && visit (set seen (e + c) true) (c + left) (falling c (e + c - 1) ++ rest)) (h (e + c) (omega arith) (omega arith))
    ∙ clear_fall (set seen (e + c) true) e c left rest (λ i l u. get_or-set_other seen (e + c) i true false (omega arith) ∙ h i l (omega arith))
    ∙ ap (λ s. visit s left rest) (all_last seen e c)

met_fall : (seen : List Bool) (e c left : ℕ) (rest : List ℕ) (i : ℕ) → e ≤ i → i < e + c → get_or seen i false ≡ true → visit seen left (falling c (e + c - 1) ++ rest) ≡ false
unfolding visit falling
met_fall seen e zero left rest i l u h = absurd (omega arith)
met_fall seen e (suc c) zero rest i l u h = refl
met_fall seen e (suc c) (suc left) rest i l u h =
    let q : e + suc c - 1 ≡ e + c = omega arith in
    ap (λ d. visit seen (suc left) (falling (suc c) d ++ rest)) q
    ∙ by_eq i (e + c)
    (λ z. ap (λ b. not b && visit (set seen (e + c) true) left (falling c (e + c - 1) ++ rest)) (ap (λ j. get_or seen j false) (sym z) ∙ h))
    (λ z. ap (λ b. not (get_or seen (e + c) false) && b) (met_fall (set seen (e + c) true) e c left rest i l (omega arith) (get_or-set_other seen (e + c) i true false z ∙ h))
    ∙ and-false (not (get_or seen (e + c) false)))

pub marked_down : (a b : List Bool) (e c d : ℕ) (r : Bool) → d ≡ e + c - 1 → MarkedRun a b e c r → Visited a b (falling c d) r
marked_down a b e c d true z m left rest l =
    let n : length (falling c d) ≡ c = length_falling c d in
    ap (λ k. visit a k (falling c d ++ rest)) {y = c + (left - length (falling c d))} (omega arith)
    ∙ ap (λ x. visit a (c + (left - length (falling c d))) (falling c x ++ rest)) z
    ∙ clear_fall a e c (left - length (falling c d)) rest (m.new refl)
    ∙ ap (λ s. visit s (left - length (falling c d)) rest) (sym (m.then refl))
marked_down a b e c d false z m left rest l =
    let f : Met a e c = m.met refl in
    ap (λ x. visit a left (falling c x ++ rest)) z ∙ met_fall a e c left rest f.at f.from f.below f.is
