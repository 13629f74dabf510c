-- What a check of names knows on its way: that each of 0..n-1 is named once, and that every link is below n, where a link is tested when it is met and no pass
-- over the links is made before. Where all links are below n, marking is the test; and where the test says yes, every number was met, and so was its link.
use Rattle.std.specs.Prelude.{◌≡◌, refl, Bool, true, false, not, ◌&&◌, ℕ, zero, suc, ◌+◌, ◌-◌, ◌≤◌, ◌<◌, eqb, length, get_or, set}
use Rattle.std.proofs.Common.{sym, ap, ◌∙◌, add-one, arith}
use Rattle.std.proofs.Math.Path.{subst}
use Rattle.std.proofs.Math.Bool.{and-false}
use Rattle.std.proofs.lemmas.Bool.{false≢true}
use mathlib.Core.List.{List, [], ◌∷◌, ◌++◌}
use Rattle.lists.specs.Once.{once_each}
use Rattle.lists.specs.PickLaws.{All}
use Rattle.lists.specs.Runs.{Inside, Begins, all_append}
use Rattle.lists.specs.Visit.{visit, walk_next, walk_seen, walk_met}
use Rattle.lists.specs.Visited.{Visited, visited_none, MarkedRun}
use Rattle.lists.specs.Walk.{walk, walk_length, walks}

-- all links are below n
abbrev pub Stays : ℕ → (ℕ → ℕ) → Type 0
Stays n next = (d : ℕ) → d < n → next d < n

-- ---- one walk, of k numbers from i on, marked

pub record Bounded (n : ℕ) (next : ℕ → ℕ) (before after : List Bool) (k i : ℕ) (r : Bool) : Type 0 where
  pub told : Stays n next → Visited before after (walk next k i) r
  pub safe : r ≡ true → All (Inside n next) (walk next k i) × Visited before after (walk next k i) true

module _ (n : ℕ) (next : ℕ → ℕ) where
  -- of none
  pub bounded_none : (s : List Bool) (k d : ℕ) → k ≡ 0 → Bounded n next s s k d true
  unfolding walk
  bounded_none s k d e = rw (e, walk) (record { told = λ c. visited_none s; safe = λ t. (tt, visited_none s) })

  -- its first run: none of it was marked, and its last link stays, so that it goes on; one was marked; the link leads out
  module _ (k d low c last : ℕ) (b : Begins n next k d low c last) where
    pub bounded_on : (a s z : List Bool) (r : Bool) → MarkedRun a s low c true → next last < n → Bounded n next s z (k - c) (next last) r → Bounded n next a z k d r
    bounded_on a s z r m l f = record {
      told = λ o. b.on a s z r m (f.told o);
      safe = λ t. (b.safe l (f.safe t).0, b.on a s z true m (f.safe t).1);
    }

    pub bounded_stop : (a s z : List Bool) → MarkedRun a s low c false → Bounded n next a z k d false
    bounded_stop a s z m = record { told = λ o. b.stop a s z m; safe = λ t. absurd (false≢true t) }

    pub bounded_out : (a z : List Bool) → n ≤ next last → Bounded n next a z k d false
    bounded_out a z o = record {
      told = λ c. absurd (let x : next last < n = c last b.last_below in omega arith);
      safe = λ t. absurd (false≢true t);
    }

-- ---- all names

-- more names than are left
visit_short : (seen : List Bool) (left : ℕ) (xs rest : List ℕ) → left < length xs → visit seen left (xs ++ rest) ≡ false
unfolding visit
visit_short seen left [] rest h = absurd (omega arith)
visit_short seen zero (x ∷ xs) rest h = refl
visit_short seen (suc left) (x ∷ xs) rest h =
    ap (λ b. not (get_or seen x false) && b) (visit_short (set seen x true) left xs rest (omega arith)) ∙ and-false (not (get_or seen x false))

-- the walks from head h on: that of h, and the others; none after the last head
walks_next : (next size : ℕ → ℕ) (n h : ℕ) → h < n → walks next size (n - h) h ≡ walk next (size h) h ++ walks next size (n - (h + 1)) (h + 1)
unfolding walks
walks_next next size n h l =
    let z : n - h ≡ suc (n - (h + 1)) = omega arith in
    ap (λ m. walks next size m h) z ∙ ap (λ j. walk next (size h) h ++ walks next size (n - (h + 1)) j) (sym (add-one h))

walks_over : (next size : ℕ → ℕ) (n h : ℕ) → n ≤ h → walks next size (n - h) h ≡ []
unfolding walks
walks_over next size n h l = let z : n - h ≡ 0 = omega arith in rw (z, walks)

module _ (n : ℕ) (next : ℕ → ℕ) (names : List ℕ) where
  -- WHAT IS KNOWN of the answer b; and what is still asked, with these marks and so many names left, of the names still to come
  pub record Known (b : Bool) : Type 0 where
    pub told : Stays n next → once_each n names ≡ b
    pub safe : b ≡ true → All (Inside n next) names × (once_each n names ≡ true)

  pub record Asked (marks : List Bool) (left : ℕ) (rest : List ℕ) : Type 0 where
    pub told : Stays n next → once_each n names ≡ visit marks left rest
    pub safe : All (Inside n next) rest → visit marks left rest ≡ true → All (Inside n next) names × (once_each n names ≡ true)

  known_no : (Stays n next → once_each n names ≡ false) → Known false
  known_no f = record { told = f; safe = λ e. absurd (false≢true e) }

  module _ (marks : List Bool) (left : ℕ) where
    -- a walk of k from i on, whole: each number was new, or not
    module _ (k i : ℕ) (rest : List ℕ) (q : Asked marks left (walk next k i ++ rest)) (few : k ≤ left) where
      fits : length (walk next k i) ≤ left
      fits = let e : length (walk next k i) ≡ k = walk_length next k i in omega arith

      pub ask_walked : (after : List Bool) → Bounded n next marks after k i true → Asked after (left - k) rest
      ask_walked after w = record {
        told = λ s. q.told s ∙ is (w.told s);
        safe = λ a v. q.safe (all_append (Inside n next) (walk next k i) rest (w.safe refl).0 a) (is (w.safe refl).1 ∙ v);
      }
        where
          is : Visited marks after (walk next k i) true → visit marks left (walk next k i ++ rest) ≡ visit after (left - k) rest
          is v = v left rest fits ∙ ap (λ m. visit after (left - m) rest) (walk_length next k i)

      pub ask_unwalked : (after : List Bool) → Bounded n next marks after k i false → Known false
      ask_unwalked after w = known_no (λ s. q.told s ∙ w.told s left rest fits)

    -- link by link, with m to go from j: none; and on; met before; its link leads out
    module _ (m j : ℕ) (rest : List ℕ) (q : Asked marks left (walk next m j ++ rest)) where
      pub ask_over : m ≡ 0 → Asked marks left rest
      unfolding walk
      ask_over e = subst (λ k. Asked marks left (walk next k j ++ rest)) e q

      module _ (p : 0 < m) where
        pub ask_link : m ≤ left → get_or marks j false ≡ false → j < n → next j < n → Asked (set marks j true) (left - 1) (walk next (m - 1) (next j) ++ rest)
        ask_link l new b t = record {
          told = λ s. q.told s ∙ walk_met next marks left m j rest p (omega arith) new;
          safe = λ a v. q.safe (subst (λ xs. All (Inside n next) (xs ++ rest)) (sym (walk_next next m j p)) ((b, t), a)) (walk_met next marks left m j rest p (omega arith) new ∙ v);
        }

        pub ask_met : get_or marks j false ≡ true → Known false
        ask_met e = known_no (λ s. q.told s ∙ walk_seen next marks left m j rest p e)

        pub ask_out : j < n → n ≤ next j → Known false
        ask_out b o = known_no (λ s. absurd (let x : next j < n = s j b in omega arith))

    -- head by head, each with the walk of its size: all passed; one that is longer than what is left; one entered
    module _ (size : ℕ → ℕ) (h : ℕ) (q : Asked marks left (walks next size (n - h) h)) where
      pub ask_end : n ≤ h → Known (eqb left 0)
      unfolding visit
      ask_end l =
          let e : Asked marks left [] = subst (Asked marks left) (walks_over next size n h l) q in
          record { told = e.told; safe = e.safe tt }

      module _ (l : h < n) where
        pub ask_enter : Asked marks left (walk next (size h) h ++ walks next size (n - (h + 1)) (h + 1))
        ask_enter = subst (Asked marks left) (walks_next next size n h l) q

        pub ask_long : left < size h → Known false
        ask_long s =
            let z : length (walk next (size h) h) ≡ size h = walk_length next (size h) h in
            known_no (λ t. ask_enter.told t ∙ visit_short marks left (walk next (size h) h) (walks next size (n - (h + 1)) (h + 1)) (omega arith))
