-- Owning new: one that is refused gives an owning record that is all zero but its queue, and alters nothing; one that is not makes a good record,
-- with the buffer of every token out and nothing held.
use Rattle.std.specs.Prelude.{None, ◌≡◌, refl, Bool, true, ◌&&◌, List, [], ◌∷◌, leb, eqb, length, replicate}
use Rattle.std.proofs.Common.{sym, ap₂, subst, ◌∙◌, inl, arith, ne_eqb, eq-eqb, leb-true, eqb-true}
use Rattle.std.proofs.Math.Path.{ap}
use Rattle.std.proofs.Math.Bool.{cond}
use Rattle.std.proofs.lemmas.Bool.{false≢true, not-false}
use Prim.Native.Nat.{ℕ, zero, suc, ◌+◌, ◌*◌, ◌≤◌, ◌<◌}
use Rattle.std.proofs.lemmas.List.Edits.{sets}
use Rattle.lists.specs.Pick.{Test, rising, same}
use Rattle.lists.specs.PickLaws.{first_none, NoneOf}
use Rattle.lists.specs.Tests.{by_eq, and_left, and_right}
use Rattle.virtio.specs.declared.Buffer.{Buffer}
use Rattle.virtio.specs.Memory.{Memory}
use Rattle.rules.specs.declared.Open.TheVariants.{Idle}
use Rattle.rules.specs.Record.{Queue, next_of, free_count, free_list, buffers_of}
use Rattle.rules.specs.WellFormed.{base_ok}
use Rattle.rules.specs.Meaning.{Out, Based}
use Rattle.rules.specs.Answer.{Outcome}
use Rattle.rules.specs.Calls.{fits, add_refusal, add}
use Rattle.rules.specs.New.{lends}
use Rattle.rules.specs.Owning.{Owning, no_view, Owned, own_buffer, own_new_tests, own_new_refusal, add_own, own_made, own_not_made, own_new}
use Rattle.laws.specs.WellFormedIs.{based_means}
use Rattle.laws.specs.CallKeeps.{Good, none_open}
use Rattle.laws.specs.OwnIs.{Away, OwnWell, OwnGood, means_own}
use Rattle.laws.specs.OwnFree.{walk_first}
use Rattle.laws.specs.OwnAdds.{one_allowed, AddedOne, one_added_lem, one_fit}

-- two lists of numbers that test as one are one
same_means : (xs ys : List ℕ) → same xs ys ≡ true → xs ≡ ys
unfolding same
same_means [] [] e = refl
same_means [] (y ∷ ys) e = absurd (false≢true e)
same_means (x ∷ xs) [] e = absurd (false≢true e)
same_means (x ∷ xs) (y ∷ ys) e =
    ap₂ (λ (a : ℕ) (l : List ℕ). a ∷ l)
    (eqb-true x y (and_left (eqb x y) (same xs ys) e))
    (same_means xs ys (and_right (eqb x y) (same xs ys) e))

-- ---- the buffers are added one by one

-- those below i are out, and k descriptors from i on are free, in this order
record Lined (base size : ℕ) (q : Queue) (m : Memory) (k i : ℕ) : Type 0 where
  good : Good q
  idle : q.call ≡ Idle
  fit : fits q m ≡ true
  free : free_list q ≡ rising k i
  out : (h : ℕ) → h < i → Out q h
  list : (h : ℕ) → h < i → buffers_of q h ≡ own_buffer base size h ∷ []

module _ (base size : ℕ) (d : size ≡ 0 → ⊥) where
  -- one more
  module _ (q : Queue) (m : Memory) (k i : ℕ) (l : Lined base size q m (suc k) i) where
    abbrev b : Buffer
    b = own_buffer base size i

    free_first : free_list q ≡ i ∷ rising k (suc i)
    unfolding rising
    free_first = l.free

    allowed : add_refusal q m (b ∷ []) ≡ 0
    allowed =
        one_allowed q m b l.good l.idle l.fit
        (let u : 0 < free_count q = (walk_first (next_of q) (free_count q) q.counts.free i (rising k (suc i)) free_first).1 in omega arith) d

    lined_on : Lined base size (add q m (b ∷ [])).queue (add q m (b ∷ [])).memory k (suc i)
    lined_on =
        let r : Queue = (add q m (b ∷ [])).queue in
        let a : AddedOne q r b = one_added_lem q m b l.good allowed in
        let s : q.counts.free ≡ i = (walk_first (next_of q) (free_count q) q.counts.free i (rising k (suc i)) free_first).0 in
        let x : free_list q ≡ q.counts.free ∷ free_list r = a.takes in
        let y : free_list q ≡ i ∷ rising k (suc i) = free_first in
        record {
          good = a.good;
          idle = a.idle;
          fit = one_fit q m b l.good allowed ∙ l.fit;
          free = cc;
          out = λ h u. by_eq h i (λ e. subst (Out r) (s ∙ sym e) a.out) (λ e. a.others_out h (l.out h (omega arith)));
          list =
              λ h u. by_eq h i
              (λ e. ap (buffers_of r) (e ∙ sym s) ∙ a.list ∙ ap (λ j. own_buffer base size j ∷ []) (sym e))
              (λ e. a.others_list h (l.out h (omega arith)) ∙ l.list h (omega arith));
        }

    kept_n : (add q m (b ∷ [])).queue.n ≡ q.n
    kept_n = (one_added_lem q m b l.good allowed).n

  -- all of them
  lined_all
      : (k i j : ℕ) (q : Queue) (m : Memory)
      → Lined base size q m k i
      → i + k ≡ j
      → (Lined base size (add_own base size k i q m).queue (add_own base size k i q m).memory 0 j) × ((add_own base size k i q m).queue.n ≡ q.n)
  unfolding add_own
  lined_all zero i j q m l e = (subst (λ x. Lined base size q m 0 x) (omega arith) l, refl)
  lined_all (suc k) i j q m l e =
      let r : Outcome = add q m (own_buffer base size i ∷ []) in
      let a = lined_all k (suc i) j r.queue r.memory (lined_on q m k i l) (omega arith) in
      (a.0, a.1 ∙ kept_n q m k i l)

-- ---- the call

-- what a new that is not refused makes: base and size as given, nothing held, every token's buffer out, and the store cleared
pub record OwnMade (q : Queue) (base size : ℕ) (s : List ℕ) (r : Owned) : Type 0 where
  pub value : r.value ≡ 0
  pub view : r.view ≡ no_view
  pub n : r.owning.queue.n ≡ q.n
  pub base_is : r.owning.base ≡ base
  pub size_is : r.owning.size ≡ size
  pub held : r.owning.held ≡ None
  pub good : OwnGood r.owning
  pub away : (h : ℕ) → h < q.n → Away r.owning h
  pub store : r.store ≡ sets s 0 (replicate (q.n * size) 0)

module _ (q : Queue) (base size : ℕ) (m : Memory) (s : List ℕ) where
  abbrev refusal : ℕ
  refusal = own_new_refusal q base size m s

  abbrev tests : List Test
  tests = own_new_tests q size (fits q m && lends base (q.n * size) (length s))

  -- THE LAWS: a new that is refused gives the refusal's number, value 0, an owning record that is all zero but its queue, and alters nothing
  pub new_refused : (own_new_refusal q base size m s ≡ 0 → ⊥) → own_new q base size m s ≡ record {
    answer = own_new_refusal q base size m s;
    value = 0;
    view = no_view;
    owning = record { queue = q; base = 0; size = 0; held = None };
    memory = m;
    store = s;
  }
  unfolding own_new
  new_refused d = ap (λ b. cond b (own_made q base size m s) (own_not_made refusal q m s)) (ne_eqb refusal 0 d)

  -- one that is not does what new does
  pub new_goes : own_new_refusal q base size m s ≡ 0 → own_new q base size m s ≡ own_made q base size m s
  unfolding own_new
  new_goes e = ap (λ b. cond b (own_made q base size m s) (own_not_made refusal q m s)) (eq-eqb refusal 0 e)

  module _ (g : Good q) (e : own_new_refusal q base size m s ≡ 0) where
    none : NoneOf tests
    none = first_none tests (omega arith) e

    lent : (fits q m && (leb (q.n * size) (length s) && base_ok base (q.n * size))) ≡ true
    lent = not-false _ none.1.0

    asked : ((leb 1 size && leb size 1024) && same (free_list q) (rising q.n 0)) ≡ true
    asked = not-false _ none.1.1.1.0

    sized : (leb 1 size && leb size 1024) ≡ true
    sized = and_left (leb 1 size && leb size 1024) (same (free_list q) (rising q.n 0)) asked

    base_good : Based base (q.n * size)
    base_good =
        let l : Bool = leb (q.n * size) (length s) in
        let b : Bool = base_ok base (q.n * size) in
        based_means base (q.n * size) (and_right l b (and_right (fits q m) (l && b) lent))

    some : 1 ≤ size
    some = leb-true 1 size (and_left (leb 1 size) (leb size 1024) sized)

    start : Lined base size q m q.n 0
    start = record {
      good = g;
      idle = none_open q.call none.1.1.0;
      fit = and_left (fits q m) (leb (q.n * size) (length s) && base_ok base (q.n * size)) lent;
      free = same_means (free_list q) (rising q.n 0) (and_right (leb 1 size && leb size 1024) (same (free_list q) (rising q.n 0)) asked);
      out = λ h l. absurd (omega arith);
      list = λ h l. absurd (omega arith);
    }

    -- the record that it makes
    abbrev o : Owning
    o = (own_made q base size m s).owning

    lined : Lined base size o.queue (own_made q base size m s).memory 0 q.n
    lined = (lined_all base size (let l = some in omega arith) q.n 0 q.n q m start (omega arith)).0

    same_n : o.queue.n ≡ q.n
    same_n = (lined_all base size (let l = some in omega arith) q.n 0 q.n q m start (omega arith)).1

    all_out : (h : ℕ) → h < q.n → Away o h
    all_out h l = record { out = lined.out h l; list = lined.list h l }

    made_well : OwnWell o
    made_well =
        let k : o.queue.n ≡ q.n = same_n in
        record {
          queue = lined.good.well;
          idle = lined.idle;
          based = subst (λ x. Based base (x * size)) (sym k) base_good;
          some = some;
          most = leb-true size 1024 (and_right (leb 1 size) (leb size 1024) sized);
          tokens = λ h l. inl (all_out h (omega arith));
          holding = λ t l f. absurd (let z : ◌≡◌ {A = ℕ} 0 1 = cc in omega arith);
        }

    pub made_owns : OwnMade q base size s (own_made q base size m s)
    made_owns = record {
      value = refl;
      view = refl;
      n = same_n;
      base_is = refl;
      size_is = refl;
      held = refl;
      good = record { good = lined.good; well = means_own o made_well };
      away = all_out;
      store = refl;
    }
