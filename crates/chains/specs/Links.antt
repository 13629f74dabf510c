-- What the walk of free list and chains answers, over the lent fields of the tables, and what its loops know on their way.
use Rattle.std.specs.Prelude.{◌≡◌, refl, Bool, true, false, not, cond, ◌&&◌, ◌||◌, List, ◌++◌, ltb, eqb, length, get_or, set, Option, Some, None}
use Rattle.std.proofs.Math.Path.{sym, ap, ap₂}
use Rattle.std.proofs.Common.{◌∙◌, subst, add-one, lt-ltb, eqb-true, eq-eqb, ne_eqb}
use Rattle.std.proofs.Math.Bool.{and-true}
use Prim.Native.Nat.{ℕ, suc, ◌+◌, ◌-◌, ◌*◌, ◌%◌, ◌≤◌, ◌<◌}
use Rattle.std.proofs.Math.Nat.{sub-zero}
use native.Mathlib.Omega.{arith}
use Rattle.lists.specs.Asked.{Bounded, Known, Asked, ask_walked, ask_unwalked, ask_over, ask_link, ask_met, ask_out, ask_end, ask_enter, ask_long}
use Rattle.lists.proofs.Asked.{ask, answered}
use Rattle.lists.specs.Marks.{marks_of}
use Rattle.lists.specs.Once.{once_each, below_append}
use Rattle.lists.specs.Pick.{every}
use Rattle.lists.specs.Tests.{by_test}
use Rattle.lists.specs.Walk.{walk, walk_below, walks, walks_below, ending, ending_none, ending_turn}
use Rattle.views.specs.Views.{at, goes, heads}
use Rattle.std.specs.Option.{is_some}

-- the names in the order in which they are met: the free list, and then the chains
abbrev pub names : ℕ → ℕ → ℕ → List ℕ → List ℕ → List ℕ
names n used free next noted = walk (at next) (n - used) free ++ walks (at next) (at noted) n 0

-- an outstanding chain at h ends at its noted length
abbrev pub ends_at : ℕ → List ℕ → List ℕ → List ℕ → ℕ → Bool
ends_at n next flags noted h = not (heads n noted h) || ending (goes flags) (at next) (at noted h) h

-- THE ANSWER: something exactly if all nexts are below n and each descriptor is named once; and then, whether each chain ends at its noted length
pub record Found (n used free : ℕ) (next flags noted : List ℕ) (r : Option Bool) : Type 0 where
  pub named : is_some r ≡ (every (λ i. ltb (at next i) n) n 0 && once_each n (names n used free next noted))
  pub ended : (e : Bool) → r ≡ Some e → e ≡ every (ends_at n next flags noted) n 0

-- NEXT among a descriptor's flags says whether `more` are to come in its chain
abbrev pub agrees : ℕ → ℕ → Bool
agrees f more = cond (ltb 0 more) (eqb (f % 2) 1) (not (eqb (f % 2) 1))

shift : (a b c d : Bool) → (a && ((b && c) && d)) ≡ ((a && b) && (c && d))
shift false b c d = refl
shift true false c d = refl
shift true true c d = refl

module _ (n used free : ℕ) (next flags noted : List ℕ) where
  abbrev all : List ℕ
  all = names n used free next noted

  -- the chains of the heads from h on: their names, and whether they end
  abbrev heads_from : ℕ → List ℕ
  heads_from h = walks (at next) (at noted) (n - h) h

  abbrev end_from : ℕ → Bool
  end_from h = every (ends_at n next flags noted) (n - h) h

  -- WHAT THE LOOPS KNOW: at head h; and in its chain, with m to go from j
  pub record AtHead (marks : List Bool) (left : ℕ) (ended : Bool) (h : ℕ) : Type 0 where
    pub asked : Asked n (at next) all marks left (heads_from h)
    pub ends : every (ends_at n next flags noted) n 0 ≡ (ended && end_from h)

  pub record InChain (marks : List Bool) (left : ℕ) (ended : Bool) (h m j : ℕ) : Type 0 where
    pub below : j < n
    pub fits : m ≤ left
    pub asked : Asked n (at next) all marks left (walk (at next) m j ++ heads_from (h + 1))
    pub ends : every (ends_at n next flags noted) n 0 ≡ (ended && (ending (goes flags) (at next) m j && end_from (h + 1)))

  -- the walk is left where it is known that the answer is no
  pub found_no : Known n (at next) all false → Found n used free next flags noted None
  found_no k = record { named = answered n (at next) all false k; ended = λ e z. cc }

  -- the free list, walked with marks of which none was set
  module _ (ws : List ℕ) (room : n ≤ 64 * length ws) (clear : (i : ℕ) → get_or ws i 0 ≡ 0) (u : used ≤ n) (f : free < n) (after : List Bool) where
    begun : Asked n (at next) all (marks_of ws) n all
    begun =
        ask n (at next) all ws room clear
        (λ s. below_append n (walk (at next) (n - used) free) (walks (at next) (at noted) n 0) (walk_below (at next) n s (n - used) free f)
        (walks_below (at next) (at noted) n s n 0 (omega arith)))

    pub free_bad : Bounded n (at next) (marks_of ws) after (n - used) free false → Known n (at next) all false
    free_bad w = ask_unwalked n (at next) all (marks_of ws) n (n - used) free (walks (at next) (at noted) n 0) begun (omega arith) after w

    pub free_good : Bounded n (at next) (marks_of ws) after (n - used) free true → AtHead after used true 0
    free_good w =
        let e : n - (n - used) ≡ used = omega arith in
        let z : n - 0 ≡ n = sub-zero n in
        record {
          asked = subst (λ k. Asked n (at next) all after k (heads_from 0)) e
              (subst (λ m. Asked n (at next) all after (n - (n - used)) (walks (at next) (at noted) m 0)) (sym z)
              (ask_walked n (at next) all (marks_of ws) n (n - used) free (walks (at next) (at noted) n 0) begun (omega arith) after w));
          ends = rw z;
        }

  module _ (marks : List Bool) (left : ℕ) (ended : Bool) (h : ℕ) where
    -- at head h: after the last; its chain is longer than what is left; its chain is entered
    module _ (k : AtHead marks left ended h) where
      asked_all : n ≤ h → Known n (at next) all (eqb left 0)
      asked_all l = ask_end n (at next) all marks left (at noted) h k.asked l

      pub some_left : n ≤ h → (left ≡ 0 → ⊥) → Known n (at next) all false
      some_left l z = subst (Known n (at next) all) (ne_eqb left 0 z) (asked_all l)

      ends_all : n ≤ h → ended ≡ every (ends_at n next flags noted) n 0
      unfolding every
      ends_all l =
          sym (k.ends ∙ (let e : n - h ≡ 0 = omega arith in ap (λ m. ended && every (ends_at n next flags noted) m h) e) ∙ and-true ended)

      pub found_all : n ≤ h → left ≡ 0 → Found n used free next flags noted (Some ended)
      found_all l z = record {
        named = answered n (at next) all true (subst (Known n (at next) all) (eq-eqb left 0 z) (asked_all l));
        ended = λ e s. let f : e ≡ ended = cc in f ∙ ends_all l;
      }

      module _ (l : h < n) where
        pub too_long : left < at noted h → Known n (at next) all false
        too_long s = ask_long n (at next) all marks left (at noted) h k.asked l s

        head_ends : ends_at n next flags noted h ≡ ending (goes flags) (at next) (at noted h) h
        head_ends =
            by_test (eqb (at noted h) 0)
            (λ e. rw (lt-ltb h n l, e) (sym (ending_none (goes flags) (at next) (at noted h) h (eqb-true (at noted h) 0 e))))
            (λ e. rw (lt-ltb h n l, e))

        ends_enter : end_from h ≡ (ending (goes flags) (at next) (at noted h) h && end_from (h + 1))
        unfolding every
        ends_enter =
            let z : n - h ≡ suc (n - (h + 1)) = omega arith in
            ap (λ m. every (ends_at n next flags noted) m h) z
            ∙ ap₂ (λ a j. a && every (ends_at n next flags noted) (n - (h + 1)) j) head_ends (sym (add-one h))

        pub chain_entered : at noted h ≤ left → InChain marks left ended h (at noted h) h
        chain_entered s = record {
          below = l;
          fits = s;
          asked = ask_enter n (at next) all marks left (at noted) h k.asked l;
          ends = k.ends ∙ ap (λ b. ended && b) ends_enter;
        }

    -- in its chain: at its end; and where m are to go from j, the next leads out; j was met before; and on
    module _ (m j : ℕ) (k : InChain marks left ended h m j) where
      pub chain_left : m ≡ 0 → AtHead marks left ended (h + 1)
      chain_left e = record {
        asked = ask_over n (at next) all marks left m j (heads_from (h + 1)) k.asked e;
        ends = k.ends ∙ ap (λ b. ended && (b && end_from (h + 1))) (ending_none (goes flags) (at next) m j e);
      }

      module _ (p : 0 < m) where
        pub leads_out : n ≤ at next j → Known n (at next) all false
        leads_out o = ask_out n (at next) all marks left m j (heads_from (h + 1)) k.asked p k.below o

        pub met_before : get_or marks j false ≡ true → Known n (at next) all false
        met_before e = ask_met n (at next) all marks left m j (heads_from (h + 1)) k.asked p e

        pub chain_on : get_or marks j false ≡ false → at next j < n → InChain (set marks j true) (left - 1) (ended && agrees (at flags j) (m - 1)) h (m - 1) (at next j)
        chain_on e l = record {
          below = l;
          fits = let f = k.fits in omega arith;
          asked = ask_link n (at next) all marks left m j (heads_from (h + 1)) k.asked p k.fits e k.below l;
          ends = k.ends
              ∙ ap (λ b. ended && (b && end_from (h + 1))) (ending_turn (goes flags) (at next) m j p)
              ∙ shift ended (agrees (at flags j) (m - 1)) (ending (goes flags) (at next) (m - 1) (at next j)) (end_from (h + 1));
        }
