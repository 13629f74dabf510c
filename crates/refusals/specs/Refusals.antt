-- The refusals of the calls case by case, where it is known whether the regions do.
use Rattle.std.specs.Prelude.{◌≡◌, refl, Bool, true, false, not, cond, ◌&&◌, ◌||◌, List, [], ◌∷◌, ℕ, ◌≤◌, ◌<◌, leb, length}
use Rattle.std.proofs.Common.{sym, ◌∙◌, arith, le-leb, eq-eqb, ne_eqb}
use Rattle.std.proofs.lemmas.Bool.{lt-leb}
use Rattle.lists.specs.Pick.{Test, ◌when◌, first}
use Rattle.lists.specs.PickLaws.{first_none, first_then, first_stops}
use Rattle.virtio.specs.declared.Buffer.{Buffer}
use Rattle.virtio.specs.Chain.{in_order}
use Rattle.virtio.specs.Layout.{need_one, need_two, need_pool}
use Rattle.rules.specs.Record.{Queue, is_open}
use Rattle.rules.specs.WellFormed.{broken, well_formed, no_empty}
use Rattle.rules.specs.Answer as answer
use Rattle.rules.specs.declared.Refusal.{Refusal}
use Rattle.rules.specs.declared.Refusal.TheVariants.{EmptyBuffer, BadRecord, BadRegion}
use Rattle.rules.specs.Refused.{refusal_number}
use Rattle.rules.specs.Calls.{bad_list, full, step_tests, call_tests, add_tests}
use Rattle.views.specs.declared.Core.{Core}
use Rattle.refusals.specs.Told.{passed, failed}

-- regions of these lengths do
abbrev pub fits_by : Core → ℕ → ℕ → ℕ → Bool
fits_by c one two pool =
    leb (need_one c.modes.legacy c.n) one
    && (leb (need_two c.modes.legacy c.n) two && (not c.modes.indirect || leb (need_pool c.n) pool))

-- ---- case by case

module _ (c : Core) (one two pool x y z : ℕ) (e : x ≡ need_one c.modes.legacy c.n) where
  pub fits_not : one < x → false ≡ fits_by c one two pool
  fits_not l = sym (rw (← e, lt-leb x one l) refl)

  module _ (l : x ≤ one) (f : y ≡ need_two c.modes.legacy c.n) where
    pub fits_not_two : two < y → false ≡ fits_by c one two pool
    fits_not_two m = sym (rw (← e, ← f, le-leb x one l, lt-leb y two m) refl)

    module _ (m : y ≤ two) where
      pub fits_pool : c.modes.indirect ≡ true → z ≡ need_pool c.n → leb z pool ≡ fits_by c one two pool
      fits_pool i g = sym (rw (← e, ← f, ← g, le-leb x one l, le-leb y two m, i) refl)

      pub fits_all : c.modes.indirect ≡ false → true ≡ fits_by c one two pool
      fits_all i = sym (rw (← e, ← f, le-leb x one l, le-leb y two m, i) refl)

unbroken : (q : Queue) → broken q ≡ 0 → well_formed q ≡ true
unfolding well_formed
unbroken q e = eq-eqb (broken q) 0 e

is_broken : (q : Queue) → (broken q ≡ 0 → ⊥) → well_formed q ≡ false
unfolding well_formed
is_broken q e = ne_eqb (broken q) 0 e

module _ (q : Queue) (fit : Bool) where
  pub step_bad : (broken q ≡ 0 → ⊥) → 12 ≡ first (step_tests q fit)
  step_bad e = rw (is_broken q e)

  pub step_told : broken q ≡ 0 → fit ≡ true → 0 ≡ first (step_tests q fit)
  step_told e f = rw (unbroken q e, f)

  pub step_short : broken q ≡ 0 → fit ≡ false → 13 ≡ first (step_tests q fit)
  step_short e f = rw (unbroken q e, f)

  -- b: what the code was told of the record
  module _ (b : Bool) (w : b ≡ well_formed q) where
    pub step_stops : (e : Refusal) → refusal_number e ≡ cond b 0 (refusal_number BadRecord) → refusal_number e ≡ first (step_tests q fit)
    step_stops e n =
        let f : (b ≡ false) × (refusal_number e ≡ refusal_number BadRecord) = failed b BadRecord e n in
        f.1 ∙ sym (rw (sym w ∙ f.0) refl)

    pub step_goes : (x : ℕ) → cond b 0 (refusal_number BadRecord) ≡ 0 → x ≡ cond fit 0 (refusal_number BadRegion) → x ≡ first (step_tests q fit)
    step_goes x n e = e ∙ rw (sym w ∙ passed b BadRecord n) (by_test fit)
      where
        by_test : (f : Bool) → cond f 0 (refusal_number BadRegion) ≡ first ((answer.BadRegion when not f) ∷ [])
        by_test true = refl
        by_test false = refl

  -- what refuses a step refuses a call; where nothing does, an open call is left to ask for
  pub call_stops : (x : ℕ) → x ≡ first (step_tests q fit) → (x ≡ 0 → ⊥) → x ≡ first (call_tests q fit)
  call_stops x e f = e ∙ sym (first_stops (step_tests q fit) ((answer.Busy when is_open q.call) ∷ []) (λ z. f (e ∙ z)))

  call_asks : first (step_tests q fit) ≡ 0 → first (call_tests q fit) ≡ first ((answer.Busy when is_open q.call) ∷ [])
  call_asks e =
      first_then (step_tests q fit) ((answer.Busy when is_open q.call) ∷ []) (first_none (step_tests q fit) (omega arith) e)

  pub call_busy : first (step_tests q fit) ≡ 0 → is_open q.call ≡ true → 11 ≡ first (call_tests q fit)
  call_busy e o = sym (call_asks e ∙ rw o refl)

  pub call_told : first (step_tests q fit) ≡ 0 → is_open q.call ≡ false → 0 ≡ first (call_tests q fit)
  call_told e o = sym (call_asks e ∙ rw o refl)

  -- and what refuses a call refuses an add; where nothing does, its list and the room for it are
  module _ (bs : List Buffer) where
    abbrev own : List Test
    own =
        (answer.InvalidParam when bad_list bs) ∷ (answer.QueueFull when full q (length bs)) ∷ (answer.EmptyBuffer when not (no_empty bs)) ∷ []

    pub add_stops : (x : ℕ) → x ≡ first (call_tests q fit) → (x ≡ 0 → ⊥) → x ≡ first (add_tests q fit bs)
    add_stops x e f = e ∙ sym (first_stops (call_tests q fit) own (λ z. f (e ∙ z)))

    module _ (e : first (call_tests q fit) ≡ 0) where
      add_asks : first (add_tests q fit bs) ≡ first own
      add_asks = first_then (call_tests q fit) own (first_none (call_tests q fit) (omega arith) e)

      pub add_none : length bs ≡ 0 → 1 ≡ first (add_tests q fit bs)
      add_none z = sym (add_asks ∙ rw (eq-eqb (length bs) 0 z) refl)

      module _ (s : length bs ≡ 0 → ⊥) where
        pub add_mixed : in_order bs ≡ false → 1 ≡ first (add_tests q fit bs)
        add_mixed o = sym (add_asks ∙ rw (ne_eqb (length bs) 0 s, o) refl)

        module _ (o : in_order bs ≡ true) where
          pub add_full : full q (length bs) ≡ true → 2 ≡ first (add_tests q fit bs)
          add_full f = sym (add_asks ∙ rw (ne_eqb (length bs) 0 s, o, f) refl)

          pub add_empty : full q (length bs) ≡ false → no_empty bs ≡ false → 7 ≡ first (add_tests q fit bs)
          add_empty f z = sym (add_asks ∙ rw (ne_eqb (length bs) 0 s, o, f, z) refl)

          pub add_told : full q (length bs) ≡ false → no_empty bs ≡ true → 0 ≡ first (add_tests q fit bs)
          add_told f z = sym (add_asks ∙ rw (ne_eqb (length bs) 0 s, o, f, z) refl)

        -- by what is told of the last test
        pub add_last : (o : in_order bs ≡ true) → full q (length bs) ≡ false → (x : ℕ) → x ≡ cond (no_empty bs) 0 (refusal_number EmptyBuffer) → x ≡ first (add_tests q fit bs)
        add_last o f x e = e ∙ by_test (no_empty bs) refl
          where
            by_test : (b : Bool) → no_empty bs ≡ b → cond b 0 (refusal_number EmptyBuffer) ≡ first (add_tests q fit bs)
            by_test true z = add_told o f z
            by_test false z = add_empty o f z
