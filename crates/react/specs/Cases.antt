-- The reactions case by case: what each way out of the code says is the rule's reaction.
use Rattle.std.specs.Prelude.{◌≡◌, Bool, true, false, not, cond, List, [], ◌∷◌, ℕ, ◌+◌, ◌%◌, ◌≤◌, ◌<◌, ltb, eqb}
use Rattle.std.proofs.Common.{sym, ap, ap₂, ◌∙◌, arith, lt-ltb, le-ltb, eq-eqb, ne_eqb}
use Rattle.std.proofs.lemmas.Bool.{not-false}
use Rattle.lists.specs.Index.{after}
use Rattle.lists.specs.Pick.{Test, ◌when◌}
use Rattle.lists.specs.PickLaws.{NoneOf, first_none}
use Rattle.virtio.specs.declared.Desc.{Desc}
use Rattle.virtio.specs.Desc.{has_indirect}
use Rattle.rules.specs.declared.Open.{Open}
use Rattle.rules.specs.declared.Open.TheVariants.{Add, PopIdx, PopId, PopLen, PopStore, PeekIdx, PeekId}
use Rattle.rules.specs.Record.{Queue, desc_of, noted_of, outstanding, size_of, with_avail}
use Rattle.rules.specs.WellFormed.{steps_of_stores, store_steps}
use Rattle.rules.specs.Meaning.{Out}
use Rattle.rules.specs.Answer.{WrongToken, NotOutstanding, Mismatch}
use Rattle.rules.specs.Step.{token_of, Reaction, will_go_on, ends, freed, stored_count, verdict, popped, react}
use Rattle.laws.specs.WellFormedIs.{out_means}

module _ (q : Queue) where
  -- the reaction to the call that a match found
  pub for_call : (v : ℕ) {x y : Open} {r : Reaction} → x ≡ y → r ≡ react q y v → r ≡ react q x v
  for_call v e p = p ∙ ap (λ z. react q z v) (sym e)

  -- ---- an add's store, by how many buffers it has
  pub add_goes : (h i size : ℕ) → size ≡ size_of q h → i + 1 < size + 3 → will_go_on q (Add h (i + 1)) ≡ react q (Add h i) 0
  add_goes h i size e l =
      let f : ltb (i + 1) (size_of q h + 3) ≡ true = ap (λ x. ltb (i + 1) (x + 3)) (sym e) ∙ lt-ltb (i + 1) (size + 3) l in
      rw f

  pub add_ends : (h i size : ℕ) → size ≡ size_of q h → size + 3 ≤ i + 1 → ends (with_avail q (after q.counts.avail)) 0 h ≡ react q (Add h i) 0
  add_ends h i size e l =
      let f : ltb (i + 1) (size_of q h + 3) ≡ false = ap (λ x. ltb (i + 1) (x + 3)) (sym e) ∙ le-ltb (i + 1) (size + 3) l in
      rw f

  -- ---- used idx, seen by a pop and by a peek
  pub pop_none : (t v : ℕ) (b : Bool) → v ≡ q.counts.last → ends q 3 0 ≡ react q (PopIdx t b) v
  pop_none t v b e = rw (eq-eqb v q.counts.last e)

  pub pop_some : (t v : ℕ) (b : Bool) → (v ≡ q.counts.last → ⊥) → will_go_on q (PopId t b) ≡ react q (PopIdx t b) v
  pop_some t v b e = rw (ne_eqb v q.counts.last e)

  pub peek_none : (v : ℕ) → v ≡ q.counts.last → ends q 3 0 ≡ react q PeekIdx v
  peek_none v e = rw (eq-eqb v q.counts.last e)

  pub peek_some : (v : ℕ) → (v ≡ q.counts.last → ⊥) → will_go_on q PeekId ≡ react q PeekIdx v
  peek_some v e = rw (ne_eqb v q.counts.last e)

  -- ---- a pop's store
  pub store_goes : (k i len steps : ℕ) → steps ≡ steps_of_stores q.modes.event_idx k → i + 1 < steps → will_go_on q (PopStore k (i + 1) len) ≡ react q (PopStore k i len) 0
  store_goes k i len steps e l = rw (← e, lt-ltb (i + 1) steps l)

  pub store_ends : (k i len steps : ℕ) → steps ≡ steps_of_stores q.modes.event_idx k → steps ≤ i + 1 → ends q 0 len ≡ react q (PopStore k i len) 0
  store_ends k i len steps e l = rw (← e, le-ltb (i + 1) steps l)

  -- ---- the verdict
  pub wrong_token : (t id : ℕ) (b : Bool) → (id % 65536 ≡ t → ⊥) → 4 ≡ verdict q t b id
  wrong_token t id b e = rw (ne_eqb (id % 65536) t e)

  module _ (t id : ℕ) (b : Bool) (e : id % 65536 ≡ t) where
    pub no_descriptor : q.n ≤ t → 8 ≡ verdict q t b id
    no_descriptor l = rw (eq-eqb (id % 65536) t e, le-ltb t q.n l)

    pub no_chain : t < q.n → noted_of q t ≡ 0 → 8 ≡ verdict q t b id
    no_chain l z = rw (eq-eqb (id % 65536) t e, lt-ltb t q.n l, eq-eqb (noted_of q t) 0 z)

    pub no_match : t < q.n → (noted_of q t ≡ 0 → ⊥) → b ≡ false → 9 ≡ verdict q t b id
    no_match l z f = rw (eq-eqb (id % 65536) t e, lt-ltb t q.n l, ne_eqb (noted_of q t) 0 z, f)

    pub all_fine : t < q.n → (noted_of q t ≡ 0 → ⊥) → b ≡ true → 0 ≡ verdict q t b id
    all_fine l z f = rw (eq-eqb (id % 65536) t e, lt-ltb t q.n l, ne_eqb (noted_of q t) 0 z, f)

  -- none of its tests holds where it is 0, so the token heads a chain
  pub fine_out : (t id x : ℕ) (b : Bool) → x ≡ verdict q t b id → x ≡ 0 → Out q t
  fine_out t id x b e z =
      let tests : List Test = (WrongToken when not (eqb (token_of id) t)) ∷ (NotOutstanding when not (outstanding q t)) ∷ (Mismatch when not b) ∷ [] in
      let none : NoneOf tests = first_none tests (omega arith) (sym e ∙ z) in
      out_means q t (not-false (outstanding q t) none.1.0)

  -- how many descriptors it then stores, by what was loaded of the head
  pub count_is : (t k x : ℕ) (d : Desc) → d ≡ desc_of q t → k ≡ noted_of q t → x ≡ cond (has_indirect d) 0 k → x ≡ stored_count q t
  count_is t k x d e f z = z ∙ ap₂ (λ (y : Desc) (j : ℕ). cond (has_indirect y) 0 j) e f

  -- ---- a pop's third load: refused, or freed and ended, or freed and to be stored
  module _ (t id len x : ℕ) (b : Bool) (is : x ≡ verdict q t b id) where
    pub pop_refused : (x ≡ 0 → ⊥) → ends q x 0 ≡ react q (PopLen t b id) len
    pop_refused z =
        ap (λ y. ends q y 0) is
        ∙ sym (ap (λ f. cond f (popped q t len) (ends q (verdict q t b id) 0)) (ne_eqb (verdict q t b id) 0 (λ w. z (is ∙ w))))

    pop_freed_lem : x ≡ 0 → popped q t len ≡ react q (PopLen t b id) len
    pop_freed_lem z =
        sym (ap (λ f. cond f (popped q t len) (ends q (verdict q t b id) 0)) (eq-eqb (verdict q t b id) 0 (sym is ∙ z)))

    module _ (r : Queue) (count steps : ℕ) (z : x ≡ 0) (e : r ≡ freed q t) (k : count ≡ stored_count q t) (m : steps ≡ steps_of_stores q.modes.event_idx count) where
      all_steps : steps ≡ store_steps q (stored_count q t)
      all_steps = m ∙ ap (store_steps q) k

      pub pop_ends : steps ≡ 0 → ends r 0 len ≡ react q (PopLen t b id) len
      pop_ends n =
          ap (λ y. ends y 0 len) e
          ∙ sym (ap (λ f. cond f (ends (freed q t) 0 len) (will_go_on (freed q t) (PopStore (stored_count q t) 0 len))) (eq-eqb (store_steps q (stored_count q t)) 0 (sym all_steps ∙ n)))
          ∙ pop_freed_lem z

      pub pop_goes : (steps ≡ 0 → ⊥) → will_go_on r (PopStore count 0 len) ≡ react q (PopLen t b id) len
      pop_goes n =
          ap₂ (λ y j. will_go_on y (PopStore j 0 len)) e k
          ∙ sym (ap (λ f. cond f (ends (freed q t) 0 len) (will_go_on (freed q t) (PopStore (stored_count q t) 0 len))) (ne_eqb (store_steps q (stored_count q t)) 0 (λ w. n (all_steps ∙ w))))
          ∙ pop_freed_lem z
