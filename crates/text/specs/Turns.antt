-- A line of entries one entry at a time: what one entry more makes of the line, and of the buffers in the lent list.
use Rattle.std.specs.Prelude.{◌≡◌, refl, Bool, true, false, cond, take, set, Option, Some, None}
use Rattle.std.proofs.Common.{sym, ◌∙◌, subst, take-suc-set, length-take-le}
use Rattle.std.proofs.Math.Path.{ap}
use mathlib.Core.List.{List, [], ◌∷◌, ◌++◌}
use Prim.Native.Nat.{ℕ, zero, suc, ◌+◌, ◌-◌, ◌≤◌, ◌<◌}
use native.Mathlib.Omega.{arith}
use Rattle.std.proofs.Math.ListN.{length, length-append}
use Rattle.lists.specs.Tests.{by_test}
use Rattle.virtio.specs.declared.Buffer.{Buffer}
use Rattle.text.specs.declared.Side.{Side}
use Rattle.text.specs.Words.{newline, comma, line_none}
use Rattle.text.specs.Text.{FoundEntry, stands, Listed, unlisted, listed, entry_at, buffer_of, list_end, entries, side}
use Rattle.text.specs.Held.{Holds, Lists}
use Rattle.text.specs.Lines.{side_of, ends_at}
use Rattle.std.proofs.lemmas.Option.{none-some, same_Some}

-- ---- the line

-- what an entry makes of the line, with k entries left after it
abbrev turn : ℕ → Bool → List ℕ → List Buffer → FoundEntry → Listed
turn k output s bs e =
    cond
    e.ok
    (cond
    (stands comma s e.at)
    (entries k output s (suc e.at) (bs ++ (buffer_of output e ∷ [])))
    (list_end s e.at (bs ++ (buffer_of output e ∷ []))))
    unlisted

module _ (output : Bool) (s : List ℕ) (at : ℕ) (bs : List Buffer) where
  pub entries_over : (left : ℕ) → left ≡ 0 → entries left output s at bs ≡ unlisted
  unfolding entries
  entries_over left e = rw (e, entries)

  -- the entry e was read there
  module _ (e : FoundEntry) (is : e ≡ entry_at s at) where
    entries_turn : (left : ℕ) → 0 < left → entries left output s at bs ≡ turn (left - 1) output s bs e
    unfolding entries
    entries_turn zero l = absurd (omega arith)
    entries_turn (suc k) l =
        let m : k ≡ suc k - 1 = omega arith in
        ap (turn k output s bs) (sym is) ∙ ap (λ j. turn j output s bs e) m

    pub entries_bad : (left : ℕ) → 0 < left → e.ok ≡ false → entries left output s at bs ≡ unlisted
    entries_bad left l o = entries_turn left l ∙ rw o

    pub entries_last
        : (left : ℕ)
        → 0 < left
        → e.ok ≡ true
        → stands comma s e.at ≡ false
        → entries left output s at bs ≡ list_end s e.at (bs ++ (buffer_of output e ∷ []))
    entries_last left l o c = entries_turn left l ∙ rw (o, c)

    pub entries_next
        : (left : ℕ)
        → 0 < left
        → e.ok ≡ true
        → stands comma s e.at ≡ true
        → entries left output s at bs ≡ entries (left - 1) output s (e.at + 1) (bs ++ (buffer_of output e ∷ []))
    entries_next left l o c =
        let m : suc e.at ≡ e.at + 1 = omega arith in
        entries_turn left l ∙ rw (o, c) (ap (λ j. entries (left - 1) output s j (bs ++ (buffer_of output e ∷ []))) m)

-- one entry lengthens the list by one, and a line by as many entries as it may have
turn_length
    : (k : ℕ) (output : Bool) (s : List ℕ) (bs : List Buffer) (e : FoundEntry)
    → ((at : ℕ) (more : List Buffer) → length (entries k output s at more).buffers ≤ length more + k)
    → length (turn k output s bs e).buffers ≤ length bs + suc k
turn_length k output s bs e f =
    let more : List Buffer = bs ++ (buffer_of output e ∷ []) in
    let n : length more ≡ length bs + 1 = length-append bs (buffer_of output e ∷ []) in
    let m : length (entries k output s (suc e.at) more).buffers ≤ length more + k = f (suc e.at) more in
    by_test e.ok
    (λ o. by_test (stands comma s e.at)
    (λ c. rw (o, c) (omega arith))
    (λ c. by_test (stands newline s e.at) (λ d. rw (o, c, d) (omega arith)) (λ d. rw (o, c, d) (omega arith))))
    (λ o. rw o (omega arith))

entries_length : (k : ℕ) (output : Bool) (s : List ℕ) (at : ℕ) (bs : List Buffer) → length (entries k output s at bs).buffers ≤ length bs + k
unfolding entries
entries_length zero output s at bs = omega arith
entries_length (suc k) output s at bs = turn_length k output s bs (entry_at s at) (λ i more. entries_length k output s i more)

-- a side's line lengthens the list by at most 65
pub side_length : (key : List ℕ) (output : Bool) (s : List ℕ) (at : ℕ) (bs : List Buffer) → length (side key output s at bs).buffers ≤ length bs + 65
side_length key output s at bs =
    let p : ℕ = at + length key in
    let m : length (entries 65 output s p bs).buffers ≤ length bs + 65 = entries_length 65 output s p bs in
    by_test (stands key s at)
    (λ k. by_test (stands line_none s p)
    (λ w. rw (k, w) (omega arith))
    (λ w. by_test (stands newline s p) (λ n. rw (k, w, n) (omega arith)) (λ n. rw (k, w, n) (omega arith))))
    (λ k. rw k (omega arith))

-- ---- the buffers

-- one entry more in the list
pub held_more : (k : ℕ) (list : List Buffer) (b : Buffer) → k < length list → take (k + 1) (set list k b) ≡ take k list ++ (b ∷ [])
held_more k list b l =
    let e : k + 1 ≡ suc k = omega arith in
    ap (λ j. take j (set list k b)) e ∙ take-suc-set list k b l

-- ---- what the side's line came to

module _ (r : Option Side) (list : List Buffer) where
  pub lists_by : {l m : Listed} → l ≡ m → Lists r list l → Lists r list m
  lists_by e h = subst (λ (x : Listed). Lists r list x) e h

  lists_as : {l : Listed} (q : Option Side) → r ≡ q → Lists q list l → Lists r list l
  lists_as {l = l} q e h = subst (λ (x : Option Side). Lists x list l) (sym e) h

  pub lists_wrong : r ≡ None → Lists r list unlisted
  lists_wrong f =
      lists_as None f record {
        good = refl;
        small = λ x e. absurd (none-some x e);
        place = λ x e. absurd (none-some x e);
        holds = λ x e. absurd (none-some x e);
      }

  pub lists_good : (bs : List Buffer) (k at : ℕ) → k ≤ 130 → Holds k list bs → r ≡ side_of k at → Lists r list (listed bs at)
  lists_good bs k at l h f =
      let one : Side = record { count = k; at = at } in
      lists_as (side_of k at) f record {
        good = refl;
        small = λ x e. subst (λ (y : Side). y.count ≤ 130) (same_Some one x e) l;
        place = λ x e. sym (ap (λ (y : Side). y.at) (same_Some one x e));
        holds = λ x e. subst (λ (y : Side). Holds y.count list bs) (same_Some one x e) h;
      }

  pub lists_end : (s : List ℕ) (at k : ℕ) → k ≤ 130 → r ≡ ends_at s at k → Lists r list (list_end s at (take k list))
  lists_end s at k l e =
      by_test (stands newline s at)
      (λ t. rw t (lists_good (take k list) k (suc at) l refl (rw t at e)))
      (λ t. rw t (lists_wrong (rw t at e)))

-- a good line's count is how many buffers there are
pub lists_count
    : (r : Option Side) (x : Side) (list : List Buffer) (l : Listed)
    → length list ≡ 130
    → Lists r list l
    → r ≡ Some x
    → x.count ≡ length l.buffers
lists_count r x list l wide h t =
    let small : x.count ≤ 130 = h.small x t in
    sym (length-take-le x.count list (omega arith)) ∙ ap length (h.holds x t)

-- a good line has at most 65 buffers more than there were, so that there is room for a second one
pub lists_few
    : (r : Option Side) (x : Side) (list : List Buffer) (key : List ℕ) (output : Bool) (s : List ℕ) (at : ℕ) (bs : List Buffer)
    → length list ≡ 130
    → Lists r list (side key output s at bs)
    → r ≡ Some x
    → x.count ≤ length bs + 65
lists_few r x list key output s at bs wide h t =
    omega (arith, lists_count r x list (side key output s at bs) wide h t, side_length key output s at bs)
