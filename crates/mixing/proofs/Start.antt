-- A fresh queue and a fresh device meet the invariant.
use Rattle.std.proofs.Math.Path.{◌≡◌, refl, sym, ap}
use Rattle.std.proofs.Common.{subst, ◌∙◌, inl, inr, arith, length-set}
use Rattle.std.specs.Prelude.{Bool, not, ◌&&◌, ◌||◌, List, [], ◌∷◌, map, ℕ, zero, suc, ◌+◌, ◌*◌, ◌≤◌, ◌<◌, ltb, leb, length, get_or, set, replicate}
use Rattle.std.proofs.Math.Bool.{true, false, cond}
use Rattle.std.proofs.lemmas.Bool.{false≢true}
use borrow.Author.Tests.{eqb-true, eqb-false, not-false, le-leb}
use Rattle.std.proofs.Math.Dec.{eqb}
use Rattle.std.proofs.lemmas.List.Edits.{sets}
use Rattle.lists.specs.Tests.{by_eq, and_left, and_right, and_both, implied, implies}
use Rattle.lists.specs.Pick.{Test, ◌when◌}
use Rattle.lists.specs.PickLaws.{first_none, NoneOf}
use Rattle.lists.specs.Once.{mem, no_dup}
use Rattle.lists.specs.Bytes.{get_le}
use Rattle.lists.specs.Stores.{sets_outside}
use Rattle.virtio.specs.declared.Desc.{Desc}
use Rattle.virtio.specs.Desc.{put_desc, put_desc_length, put_desc_outside}
use Rattle.virtio.specs.Layout.{table_size, avail_size, used_size, avail_at, used_at, need_one, need_two, need_pool}
use Rattle.virtio.specs.Memory.{Memory, used_region, bytes_of, avail_idx, used_idx}
use Rattle.virtio.specs.Sizes.{legacy_apart}
use Rattle.rules.specs.Record.{Queue, is_open}
use Rattle.rules.specs.WellFormed.{size_ok}
use Rattle.rules.specs.Answer.{InvalidParam, BadSize, AlreadyUsed, BadRegion}
use Rattle.rules.specs.Calls.{fits}
use Rattle.rules.specs.New.{Ask, Made, made, not_made, new, new_refusal, regions_ok, lends, cleared, put_descs, linked, nexts_from, linking, clear_used, clear_front, fresh_memory, fresh_queue}
use Rattle.laws.specs.CallKeeps.{Good}
use Rattle.laws.specs.NewKeeps.{new_good}
use Rattle.laws.specs.FreshKeeps.{none_outstanding}
use Rattle.mixing.specs.Device.{fresh_device}
use Rattle.mixing.specs.Demand.{start, wiring}
use Rattle.mixing.specs.Fields.{num}
use Rattle.mixing.specs.Facts.{none, Notes, Facts, Inv}
use Rattle.mixing.specs.Stages.{kind}
use Rattle.mixing.specs.Turns.{Quiet}
use Rattle.mixing.proofs.Whole.{driver, device, sides}

-- ---- cleared bytes

set_zero : (s : List ℕ) (a : ℕ) → get_or (set s a 0) a 0 ≡ 0
set_zero [] a = refl
set_zero (x ∷ xs) zero = refl
set_zero (x ∷ xs) (suc a) = set_zero xs a

clear_zero : (k : ℕ) (s : List ℕ) (a i : ℕ) → a ≤ i → i < a + k → get_or (cleared s a k) i 0 ≡ 0
clear_zero zero s a i l u = absurd (omega arith)
clear_zero (suc k) s a i l u =
    by_eq i a
    (λ e. ap (λ z. get_or (sets (set s a 0) (suc a) (replicate k 0)) z 0) e ∙ sets_outside (set s a 0) (suc a) (replicate k 0) a 0 (inl (omega arith))
    ∙ set_zero s a)
    (λ e. clear_zero k (set s a 0) (suc a) i (omega arith) (omega arith))

clear_length : (k : ℕ) (s : List ℕ) (a : ℕ) → length (cleared s a k) ≡ length s
clear_length zero s a = refl
clear_length (suc k) s a = clear_length k (set s a 0) (suc a) ∙ length-set s a 0

zero_number : (k : ℕ) (s : List ℕ) (a : ℕ) → ((i : ℕ) → a ≤ i → i < a + k → get_or s i 0 ≡ 0) → get_le k s a ≡ 0
unfolding get_le
zero_number zero s a h = refl
zero_number (suc k) s a h =
    let x : get_or s a 0 ≡ 0 = h a (omega arith) (omega arith) in
    let y : get_le k s (suc a) ≡ 0 = zero_number k s (suc a) (λ i l u. h i (omega arith) (omega arith)) in
    omega arith

-- ---- the table linked

descs_length : (ds : List Desc) (s : List ℕ) (a : ℕ) → length (put_descs s a ds) ≡ length s
unfolding put_descs
descs_length [] s a = refl
descs_length (d ∷ ds) s a = descs_length ds (put_desc s a d) (a + 16) ∙ put_desc_length s a d

descs_behind : (ds : List Desc) (s : List ℕ) (a i : ℕ) → a + 16 * length ds ≤ i → get_or (put_descs s a ds) i 0 ≡ get_or s i 0
unfolding put_descs
descs_behind [] s a i l = refl
descs_behind (d ∷ ds) s a i l = descs_behind ds (put_desc s a d) (a + 16) i (omega arith) ∙ put_desc_outside s a d i (inr (omega arith))

linked_length : (k a : ℕ) → length (map linking (nexts_from k a)) ≡ k
unfolding nexts_from
linked_length zero a = refl
linked_length (suc zero) a = refl
linked_length (suc (suc k)) a = ap suc (linked_length (suc k) (suc a))

module _ (a : Ask) (m : Memory) where
  -- ---- what new made

  abbrev refusal : ℕ
  refusal = new_refusal a (length m.one) (length m.two) (length m.pool)

  made_is_lem : (new a m).answer ≡ 0 → (new a m ≡ made a m) × (refusal ≡ 0)
  unfolding new
  made_is_lem e = go (eqb refusal 0) refl e
    where
      go : (b : Bool) → eqb refusal 0 ≡ b → (cond b (made a m) (not_made refusal m)).answer ≡ 0
          → (cond b (made a m) (not_made refusal m) ≡ made a m) × (refusal ≡ 0)
      go true z y = (refl, eqb-true refusal 0 z)
      go false z y = absurd (eqb-false refusal 0 z y)

  abbrev q : Queue
  q = fresh_queue a

  abbrev x : Memory
  x = fresh_memory a m

  -- ---- the fields are cleared

  abbrev front : List ℕ
  front = put_descs (cleared m.one 0 (table_size a.n + avail_size a.n)) 0 (linked a.n)

  front_zero : (i : ℕ) → 16 * a.n ≤ i → i < 18 * a.n + 6 → get_or front i 0 ≡ 0
  front_zero i l u =
      descs_behind (linked a.n) (cleared m.one 0 (table_size a.n + avail_size a.n)) 0 i
      (let e : length (linked a.n) ≡ a.n = linked_length a.n 0 in omega arith)
      ∙ clear_zero (table_size a.n + avail_size a.n) m.one 0 i (omega arith) (omega arith)

  idx_zero : num q avail_idx x ≡ 0
  idx_zero = go a.modes.legacy refl
    where
      go : (b : Bool) → a.modes.legacy ≡ b → get_le 2 (clear_used b a.n (clear_front a.n m)).one (16 * a.n + 2) ≡ 0
      go true e =
          zero_number 2 (cleared front (used_at true a.n) (used_size a.n)) (16 * a.n + 2)
          (λ i l u. let z : avail_at a.n + avail_size a.n ≤ used_at true a.n = legacy_apart a.n in
          sets_outside front (used_at true a.n) (replicate (used_size a.n) 0) i 0 (inl (omega arith)) ∙ front_zero i (omega arith) (omega arith))
      go false e = zero_number 2 front (16 * a.n + 2) (λ i l u. front_zero i (omega arith) (omega arith))

  used_zero : num q used_idx x ≡ 0
  used_zero = go a.modes.legacy
    where
      go : (b : Bool) → get_le 2 (bytes_of (used_region b) (clear_used b a.n (clear_front a.n m))) (used_at b a.n + 2) ≡ 0
      go true =
          zero_number 2 (cleared front (used_at true a.n) (used_size a.n)) (used_at true a.n + 2)
          (λ i l u. clear_zero (used_size a.n) front (used_at true a.n) i (omega arith) (omega arith))
      go false =
          zero_number 2 (cleared m.two (used_at false a.n) (used_size a.n)) (used_at false a.n + 2)
          (λ i l u. clear_zero (used_size a.n) m.two (used_at false a.n) i (omega arith) (omega arith))

  -- ---- the regions still fit

  front_length : length front ≡ length m.one
  front_length =
      descs_length (linked a.n) (cleared m.one 0 (table_size a.n + avail_size a.n)) 0 ∙ clear_length (table_size a.n + avail_size a.n)
      m.one 0

  one_length : (b : Bool) → length (clear_used b a.n (clear_front a.n m)).one ≡ length m.one
  one_length true = clear_length (used_size a.n) front (used_at true a.n) ∙ front_length
  one_length false = front_length

  two_length : (b : Bool) → length (clear_used b a.n (clear_front a.n m)).two ≡ length m.two
  two_length true = refl
  two_length false = clear_length (used_size a.n) m.two (used_at false a.n)

  pool_length : (b : Bool) → length (clear_used b a.n (clear_front a.n m)).pool ≡ length m.pool
  pool_length true = refl
  pool_length false = refl

  abbrev tests : List Test
  tests =
      (BadSize when not (size_ok a.n))
      ∷ (AlreadyUsed when a.in_use)
      ∷ (InvalidParam when ltb a.most a.n)
      ∷ (BadRegion when not (regions_ok a (length m.one) (length m.two) (length m.pool)))
      ∷ []

  abbrev Two : Bool
  Two = a.modes.legacy || lends a.base_two (need_two false a.n) (length m.two)

  abbrev Pool : Bool
  Pool = not a.modes.indirect || lends a.base_pool (need_pool a.n) (length m.pool)

  regions : refusal ≡ 0 → regions_ok a (length m.one) (length m.two) (length m.pool) ≡ true
  regions e = let t : NoneOf tests = first_none tests (omega arith) e in not-false _ t.1.1.1.0

  two_fits : (b : Bool) → (b || lends a.base_two (need_two false a.n) (length m.two)) ≡ true → leb (need_two b a.n) (length m.two) ≡ true
  unfolding need_two
  two_fits true e = le-leb 0 (length m.two) (omega arith)
  two_fits false e = and_left _ _ e

  fresh_fits : refusal ≡ 0 → fits q x ≡ true
  fresh_fits e =
      let r = regions e in
      let y : (Two && Pool) ≡ true = and_right (lends a.base_one (need_one a.modes.legacy a.n) (length m.one)) (Two && Pool) r in
      and_both _ _
      (ap (leb (need_one a.modes.legacy a.n)) (one_length a.modes.legacy) ∙ and_left _ _
      (and_left (lends a.base_one (need_one a.modes.legacy a.n) (length m.one)) (Two && Pool) r))
      (and_both _ _
      (ap (leb (need_two a.modes.legacy a.n)) (two_length a.modes.legacy) ∙ two_fits a.modes.legacy (and_left Two Pool y))
      (ap (λ z. not a.modes.indirect || leb (need_pool a.n) z) (pool_length a.modes.legacy)
      ∙ implies a.modes.indirect (leb (need_pool a.n) (length m.pool))
      (λ i. and_left _ _ (implied a.modes.indirect (lends a.base_pool (need_pool a.n) (length m.pool)) (and_right Two Pool y) i))))

  -- ---- the invariant

  abbrev no_notes : Notes
  no_notes = record { adds = 0; takes = 0; uses = 0; pops = 0; stage = λ h. none }

  fresh_facts : Good q → refusal ≡ 0 → Facts a.base_pool q x fresh_device no_notes
  unfolding mem no_dup
  fresh_facts k e = record {
    good = k;
    fit = fresh_fits e;
    based = λ i. sym (ap (λ b. cond b a.base_pool 0) i);
    avail = omega arith;
    last = omega arith;
    took = omega arith;
    gave = omega arith;
    popped = omega arith;
    given = omega arith;
    offers = omega arith;
    near = omega arith;
    outs = none_outstanding a;
    held = λ h z. absurd (false≢true z);
    once = refl;
    many = omega arith;
    shown = record {
      idx = idx_zero ∙ omega arith;
      used = used_zero ∙ omega arith;
      slots = λ j l u. absurd (omega arith);
      elements = λ j l u. absurd (omega arith);
      led = λ h j z. absurd (let c : ◌≡◌ {A = ℕ} 0 3 = ap kind z in omega arith);
    };
    at_driver = tt;
    at_device = tt;
  }

  -- THE LAW
  pub start_inv : (new a m).answer ≡ 0 → Inv (wiring a) (start (new a m))
  start_inv e =
      let y = made_is_lem e in
      subst (λ r. Inv (wiring a) (start r)) (sym y.0)
      (record {
        notes = no_notes;
        size = refl;
        layout = refl;
        facts = fresh_facts (subst (λ (r : Made). Good r.queue) y.0 (new_good a m e))
            y.1;
      })

  pub start_quiet : (new a m).answer ≡ 0 → Quiet (sides (wiring a)) (start (new a m))
  start_quiet e driver = ap (λ (r : Made). is_open r.queue.call) (made_is_lem e).0
  start_quiet e device = refl
