-- A call that was opened can go on: what its refusals leave where none applies, and that the record opened is checked and the regions do.
use Rattle.std.specs.Prelude.{◌≡◌, refl, Bool, true, false, cond, Err, List, ℕ, ◌+◌, ◌≤◌, eqb}
use Rattle.std.proofs.Common.{sym, ap, ◌∙◌, subst, arith, eq-eqb, ne_eqb, eqb-true}
use Rattle.virtio.specs.declared.Buffer.{Buffer}
use Rattle.virtio.specs.Memory.{Memory}
use Rattle.rules.specs.declared.Open.TheVariants.{PopIdx, PeekIdx}
use Rattle.rules.specs.declared.Refusal.{Refusal}
use Rattle.rules.specs.Refused.{result_number, result_value}
use Rattle.rules.specs.Record.{Queue, Tables, with_call}
use Rattle.rules.specs.WellFormed.{well_formed}
use Rattle.rules.specs.Answer.{Outcome, refused, unless}
use Rattle.rules.specs.Calls.{fits, add_refusal, call_refusal, add_opened, opened, open_add, matches, open_pop, open_peek, moves, whole}
use Rattle.laws.specs.CallKeeps.{Good, open_pop_keeps, open_peek_keeps}
use Rattle.laws.specs.Opening.{open_add_keeps}
use Rattle.laws.specs.Regions.{Shaped, add_shaped}
use Rattle.views.specs.declared.Core.{Core}
use Rattle.views.specs.Tables.{queue_of}
use Rattle.wellformed.specs.Room.{HasRoom}
use Rattle.tables.specs.declared.TablesRef.{TablesRef}
use Rattle.tables.specs.declared.TablesMut.{TablesMut}
use Rattle.tables.specs.Lent.{tables_read, tables_held, Reads, reads_tables}
use Rattle.tables.specs.Ready.{ReadyHeld}
use Rattle.laws.specs.Allowed.{call_allowed, add_allowed}
use Rattle.refusals.specs.Checked.{Indices, ready_held, fitting}
use Rattle.refusals.specs.Told.{some_refusal}
use Rattle.asks.specs.declared.Done.{Done}
use Rattle.asks.specs.Outcomes.{done_of}
use Rattle.queue.specs.Outcomes.{Going}
use Rattle.queue.specs.Steps.{fitting_like}
use Rattle.queue.specs.Opened.{add_opening, pop_opening, peek_opening}

-- an answer of 0 says that no refusal applies
not_refused : (k : ℕ) (q : Queue) (m : Memory) (o : Outcome) → (unless k q m o).answer ≡ 0 → k ≡ 0
not_refused k q m o e = go (eqb k 0) refl e
  where
    go : (b : Bool) → eqb k 0 ≡ b → (cond b o (refused k q m)).answer ≡ 0 → k ≡ 0
    go true f e = eqb-true k 0 f
    go false f e = e

went_on : (k : ℕ) (q : Queue) (m : Memory) (o : Outcome) → k ≡ 0 → unless k q m o ≡ o
went_on k q m o e = rw (eq-eqb k 0 e) refl

module _ (c : Core) (t : TablesMut) (one two pool : List ℕ) (o : Done) (room : HasRoom c t.room) (wide : Indices c) where
  abbrev q : Queue
  q = queue_of c (tables_held t)

  abbrev m : Memory
  m = record { one = one; two = two; pool = pool }

  -- tables with as much room, that say the record opened
  module _ (t' : TablesMut) (same : t'.room ≡ t.room) where
    going : (k : ℕ) (p : Queue) → done_of o (tables_held t') m ≡ unless k q m (opened p m) → (k ≡ 0 → well_formed q ≡ true) → (k ≡ 0 → fits q m ≡ true) → Shaped p q
        → (Good q → Good (unless k q m (opened p m)).queue) → Going o t' one two pool
    going k p e v f s g = record {
      ready = λ z.
          let a : ReadyHeld c t = ready_held c t room wide (v (none z)) in
          record {
            within = (let d : o.core.n ≡ c.n = size z in let w : c.n ≤ t.room = a.within in omega arith);
            words_of = t'.words_of;
            lens_of = t'.lens_of;
            halves_of = t'.halves_of;
            sides_of = t'.sides_of;
            good = subst Good (sym (ap (λ (x : Outcome). x.queue) e)) (g a.good);
          };
      fitting = λ z. fitting_like c o.core one two pool one pool (size z) (modes z) refl refl (fitting c one two pool (f (none z)));
      opened = λ z. (ap (λ (x : Outcome). x.value) (is z), ap (λ (x : Outcome). x.steps) (is z));
    }
      where
        none : result_number o.outcome ≡ 0 → k ≡ 0
        none z = not_refused k q m (opened p m) (sym (ap (λ (x : Outcome). x.answer) e) ∙ z)

        is : result_number o.outcome ≡ 0 → done_of o (tables_held t') m ≡ opened p m
        is z = e ∙ went_on k q m (opened p m) (none z)

        size : result_number o.outcome ≡ 0 → o.core.n ≡ c.n
        size z = ap (λ (x : Outcome). x.queue.n) (is z) ∙ s.n

        modes : result_number o.outcome ≡ 0 → o.core.modes ≡ c.modes
        modes z = ap (λ (x : Outcome). x.queue.modes) (is z) ∙ s.modes

    -- THE LAW of an add that was opened
    pub add_going : (bs : List Buffer) → done_of o (tables_held t') m ≡ open_add q m bs → Going o t' one two pool
    add_going bs e =
        going (add_refusal q m bs) (add_opened q bs) (e ∙ add_opening q m bs)
        (λ z. (add_allowed q (fits q m) bs z).well)
        (λ z. (add_allowed q (fits q m) bs z).fits)
        (add_shaped q bs)
        (λ g. subst (λ (x : Outcome). Good x.queue) (add_opening q m bs) (open_add_keeps q m bs g))

  -- and of a pop and a peek, which alter no list
  pub pop_going : (k : ℕ) (bs : List Buffer) → done_of o (tables_held t) m ≡ open_pop q m k bs → Going o t one two pool
  pop_going k bs e =
      going t refl (call_refusal q m) (with_call q (PopIdx k (matches q k bs))) (e ∙ pop_opening q m k bs)
      (λ z. (call_allowed q (fits q m) z).well)
      (λ z. (call_allowed q (fits q m) z).fits)
      (record { n = refl; modes = refl })
      (λ g. subst (λ (x : Outcome). Good x.queue) (pop_opening q m k bs) (open_pop_keeps q m k bs g))

  pub peek_going : done_of o (tables_held t) m ≡ open_peek q m → Going o t one two pool
  peek_going e =
      going t refl (call_refusal q m) (with_call q PeekIdx) (e ∙ peek_opening q m)
      (λ z. (call_allowed q (fits q m) z).well)
      (λ z. (call_allowed q (fits q m) z).fits)
      (record { n = refl; modes = refl })
      (λ g. subst (λ (x : Outcome). Good x.queue) (peek_opening q m) (open_peek_keeps q m g))

-- what was opened over tables that were read was opened over those that are held
module _ (c : Core) (t : TablesMut) (r : TablesRef) (h : Reads t r) (m : Memory) (o : Done) where
  pub pop_held : (k : ℕ) (bs : List Buffer) → done_of o (tables_read r) m ≡ open_pop (queue_of c (tables_read r)) m k bs → done_of o (tables_held t) m ≡ open_pop (queue_of c (tables_held t)) m k bs
  pop_held k bs e = subst (λ u. done_of o u m ≡ open_pop (queue_of c u) m k bs) (reads_tables t r h) e

  pub peek_held : done_of o (tables_read r) m ≡ open_peek (queue_of c (tables_read r)) m → done_of o (tables_held t) m ≡ open_peek (queue_of c (tables_held t)) m
  peek_held e = subst (λ u. done_of o u m ≡ open_peek (queue_of c u) m) (reads_tables t r h) e

-- ---- whole calls

module _ (n : ℕ) (o : Done) (t : Tables) (m : Memory) where
  -- a refusal is the whole call
  pub whole_no : (x : Refusal) → o.outcome ≡ Err x → done_of o t m ≡ whole n (done_of o t m)
  whole_no x e =
      let z : result_number o.outcome ≡ 0 → ⊥ = λ k. some_refusal x (sym (ap result_number e) ∙ k) in
      sym (rw (ne_eqb (result_number o.outcome) 0 z) refl)

  -- a call that was just opened takes its steps
  pub whole_yes : result_number o.outcome ≡ 0 → (result_value o.outcome ≡ 0) × (o.steps ≡ 0) → moves (n + 4) (opened (queue_of o.core t) m) ≡ whole n (done_of o t m)
  whole_yes e z =
      let d : opened (queue_of o.core t) m ≡ done_of o t m = λ i. record { answer = sym e i; value = sym z.0 i; steps = sym z.1 i; queue = queue_of o.core t; memory = m } in
      ap (moves (n + 4)) d ∙ sym (rw (eq-eqb (result_number o.outcome) 0 e) refl)
