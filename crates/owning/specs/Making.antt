-- New by its refusal, what no refusal shows, and its adds one after the other.
use Rattle.std.specs.Prelude.{◌≡◌, None, Bool, true, false, ◌&&◌, List, [], ◌∷◌, ℕ, suc, ◌+◌, ◌-◌, ◌*◌, ◌≤◌, ◌<◌, ◌^◌, leb, length, replicate}
use Rattle.std.proofs.Math.Path.{refl, sym, ap}
use Rattle.std.proofs.Common.{◌∙◌, eq-eqb, ne_eqb, leb-true}
use Rattle.std.proofs.lemmas.Bool.{false≢true, not-false}
use native.Mathlib.Omega.{arith}
use Rattle.std.proofs.lemmas.List.Edits.{sets}
use Rattle.lists.specs.Tests.{and_left, and_right}
use Rattle.lists.specs.PickLaws.{first_none}
use Rattle.virtio.specs.Memory.{Memory}
use Rattle.rules.specs.Record.{Queue}
use Rattle.rules.specs.Answer.{Outcome}
use Rattle.rules.specs.WellFormed.{base_ok}
use Rattle.rules.specs.Calls.{fits, add}
use Rattle.rules.specs.New.{lends}
use Rattle.rules.specs.Owning.{Owned, no_view, own_buffer, add_own, own_new_tests, own_new_refusal, own_not_made, own_new}
use Rattle.owns.specs.Clauses.{placed_ends}
use Rattle.owning.specs.Owned.{added_of}

module _ (q : Queue) (base size : ℕ) (m : Memory) (s : List ℕ) where
  pub new_no : (x : ℕ) → x ≡ own_new_refusal q base size m s → (x ≡ 0 → ⊥) → own_not_made x q m s ≡ own_new q base size m s
  unfolding own_new
  new_no x e z = ap (λ y. own_not_made y q m s) e ∙ sym (rw (ne_eqb (own_new_refusal q base size m s) 0 (λ n. z (e ∙ n))))

  -- what is made, from what the adds came to and the cleared store
  abbrev pub made_by : Outcome → List ℕ → Owned
  made_by o t = record {
    answer = 0;
    value = 0;
    view = no_view;
    owning = record { queue = o.queue; base = base; size = size; held = None };
    memory = o.memory;
    store = t;
  }

  pub new_yes : (o : Outcome) (t : List ℕ) → own_new_refusal q base size m s ≡ 0 → o ≡ add_own base size q.n 0 q m → t ≡ sets s 0 (replicate (q.n * size) 0)
      → made_by o t ≡ own_new q base size m s
  unfolding own_new
  new_yes o t z e f = ap (λ x. made_by x t) e ∙ ap (made_by (add_own base size q.n 0 q m)) f ∙ sym (rw (eq-eqb (own_new_refusal q base size m s) 0 z))

  -- no refusal: the store does
  pub store_does : own_new_refusal q base size m s ≡ 0 → (q.n * size ≤ length s) × (base + q.n * size ≤ 2 ^ 64)
  store_does e =
      let fit : Bool = fits q m && lends base (q.n * size) (length s) in
      let n : _ = first_none (own_new_tests q size fit) (omega arith) e in
      let l : lends base (q.n * size) (length s) ≡ true = and_right (fits q m) (lends base (q.n * size) (length s)) (not-false fit n.1.0) in
      (leb-true (q.n * size) (length s) (and_left (leb (q.n * size) (length s)) (base_ok base (q.n * size)) l), placed_ends base size q.n (and_right (leb (q.n * size) (length s)) (base_ok base (q.n * size)) l))

-- ---- the adds: a turn, and the end

module _ (base size n i : ℕ) (q : Queue) (m : Memory) where
  adds_cons : (k : ℕ) → add_own base size (suc k) i q m ≡ add_own base size k (suc i) (add q m (own_buffer base size i ∷ [])).queue (add q m (own_buffer base size i ∷ [])).memory
  unfolding add_own
  adds_cons k = refl

  pub adds_turn : (a : Outcome) → i < n → a ≡ add q m (own_buffer base size i ∷ [])
      → add_own base size (n - i) i q m ≡ add_own base size (n - (i + 1)) (i + 1) a.queue a.memory
  adds_turn a l e =
      let k : n - i ≡ suc (n - (i + 1)) = omega arith in
      let t : suc i ≡ i + 1 = omega arith in
      ap (λ j. add_own base size j i q m) k
      ∙ adds_cons (n - (i + 1))
      ∙ ap (λ (x : Outcome). add_own base size (n - (i + 1)) (suc i) x.queue x.memory) (sym e)
      ∙ ap (λ j. add_own base size (n - (i + 1)) j a.queue a.memory) t

  pub adds_end : n ≤ i → add_own base size (n - i) i q m ≡ added_of q m
  unfolding add_own
  adds_end l = let k : n - i ≡ 0 = omega arith in rw k

-- ---- memory, store and the store's address, one after the other

pub fits_not : (a b d : Bool) → (a && b) ≡ false → false ≡ (a && (b && d))
fits_not true b d e = sym (rw e)
fits_not false b d e = refl

pub fits_then : (a b d : Bool) → (a && b) ≡ true → d ≡ (a && (b && d))
fits_then true b d e = sym (rw e)
fits_then false b d e = absurd (false≢true e)
