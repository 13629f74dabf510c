-- The loops that free a chain: each turn leaves what is still to be emptied or cleared, and the last one leaves nothing.
use Rattle.std.specs.Prelude.{◌≡◌, refl, List, [], ◌∷◌, ℕ, zero, suc, ◌+◌, ◌-◌, ◌<◌, get_or, set}
use Rattle.std.proofs.Common.{sym, ap, ap₂, ◌∙◌, arith}
use Rattle.lists.specs.Walk.{hop, walk}
use Rattle.lists.specs.WalkLaws.{walk_agree, hop_agree}
use Rattle.lists.specs.Stores.{set_keeps}
use Rattle.virtio.specs.declared.Desc.{Desc}
use Rattle.virtio.specs.Desc.{no_desc, no_buffer}
use Rattle.rules.specs.Record.{Tables}
use Rattle.rules.specs.Step.{emptied, empty_all, relink}
use Rattle.tables.specs.Stores.{with_desc, with_entry}
use Rattle.react.specs.Reactions.{links, unlinked, unchained, cleared}

-- ---- descriptors

-- the table with descriptor i emptied has the same links
abbrev without : List Desc → ℕ → List Desc
without s i = set s i (emptied (get_or s i no_desc))

same_links : (s : List Desc) (i j : ℕ) → links (without s i) j ≡ links s j
same_links s i j = set_keeps (λ d. d.next) s i (emptied (get_or s i no_desc)) no_desc refl j

unlinked_turn : (s : List Desc) (i k x : ℕ) → 1 < k → unlinked s i k x ≡ unlinked (without s i) (links s i) (k - 1) x
unfolding walk hop empty_all
unlinked_turn s i zero x l = absurd (omega arith)
unlinked_turn s i (suc zero) x l = absurd (omega arith)
unlinked_turn s i (suc (suc m)) x l =
    let s' : List Desc = without s i in
    let j : ℕ = links s i in
    let e : suc (suc m) - 1 ≡ suc m = omega arith in
    let f : suc m - 1 ≡ m = omega arith in
    ap (λ a. relink (empty_all s (walk (links s) (suc (suc m)) i)) (hop (links s) a i) x) e
    ∙ ap₂ (λ w p. relink (empty_all s' w) p x)
    (sym (walk_agree (links s) (links s') (suc m) j (λ a b. same_links s i (hop (links s) a j))))
    (sym (hop_agree (links s) (links s') m j (λ a b. same_links s i (hop (links s) a j))))
    ∙ ap (λ a. relink (empty_all s' (walk (links s') (suc m) j)) (hop (links s') a j) x) (sym f)
    ∙ ap (λ a. unlinked s' j a x) (sym e)

-- the last one is emptied and linked in one store
abbrev closing : Desc → ℕ → Desc
closing d x = record { addr = 0; len = 0; flags = d.flags; next = x }

relink_without : (s : List Desc) (i x : ℕ) → relink (without s i) i x ≡ set s i (closing (get_or s i no_desc) x)
relink_without [] i x = refl
relink_without (d ∷ ds) zero x = refl
relink_without (d ∷ ds) (suc i) x = ap (λ (r : List Desc). d ∷ r) (relink_without ds i x)

unlinked_last : (s : List Desc) (i x : ℕ) → unlinked s i 1 x ≡ set s i (closing (get_or s i no_desc) x)
unfolding walk hop empty_all
unlinked_last s i x = relink_without s i x

module _ (t t' : Tables) (d e : Desc) (i k x : ℕ) (loaded : d ≡ get_or t.shadow i no_desc) (stored : t' ≡ with_desc t i e) where
  -- a turn of the loop stores the descriptor with its own link
  is_without : e ≡ closing d d.next → t' ≡ with_desc t i (emptied (get_or t.shadow i no_desc))
  is_without f = stored ∙ ap (with_desc t i) (f ∙ ap emptied loaded)

  pub free_turn : e ≡ closing d d.next → 1 < k → unchained t i k x ≡ unchained t' d.next (k - 1) x
  free_turn f l =
      ap (λ s. record { shadow = s; noted = t.noted; kept = t.kept }) (unlinked_turn t.shadow i k x l)
      ∙ ap₂ (λ (y : Tables) (j : ℕ). unchained y j (k - 1) x) (sym (is_without f)) (sym (ap (λ (y : Desc). y.next) loaded))

  pub turn_links : e ≡ closing d d.next → (j : ℕ) → links t'.shadow j ≡ links t.shadow j
  turn_links f j = ap (λ (y : Tables). links y.shadow j) (is_without f) ∙ same_links t.shadow i j

  -- and behind it the last one is stored with the new link
  pub free_last : e ≡ closing d x → k ≡ 1 → t' ≡ unchained t i k x
  free_last f l =
      stored
      ∙ ap (with_desc t i) (f ∙ ap (λ y. closing y x) loaded)
      ∙ ap (λ s. record { shadow = s; noted = t.noted; kept = t.kept }) (sym (unlinked_last t.shadow i x))
      ∙ ap (λ a. unchained t i a x) (sym l)

-- ---- list entries

cleared_turn : (t : Tables) (a k : ℕ) → 0 < k → cleared t a k ≡ cleared (with_entry t a no_buffer) (suc a) (k - 1)
cleared_turn t a zero l = absurd (omega arith)
cleared_turn t a (suc k) l =
    let e : k ≡ suc k - 1 = omega arith in
    ap (cleared (with_entry t a no_buffer) (suc a)) e

pub clear_turn : (t t' : Tables) (a i k : ℕ) → t' ≡ with_entry t (a + i) no_buffer → i < k → cleared t (a + i) (k - i) ≡ cleared t' (a + (i + 1)) (k - (i + 1))
clear_turn t t' a i k e l =
    let f : suc (a + i) ≡ a + (i + 1) = omega arith in
    let g : k - i - 1 ≡ k - (i + 1) = omega arith in
    cleared_turn t (a + i) (k - i) (omega arith)
    ∙ ap (λ y. cleared y (suc (a + i)) (k - i - 1)) (sym e)
    ∙ ap₂ (cleared t') f g

pub clear_none : (t : Tables) (a k : ℕ) → k ≡ 0 → t ≡ cleared t a k
clear_none t a k e = ap (cleared t a) (sym e)
