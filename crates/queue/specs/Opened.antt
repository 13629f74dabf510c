-- Openings and runs, as their refusals and what follows.
use Rattle.std.specs.Prelude.{◌≡◌, Bool, List, ℕ, length}
use Rattle.std.proofs.Common.{ap₂, ◌∙◌}
use Rattle.lists.specs.Pick.{first}
use Rattle.std.proofs.Math.Path.{refl}
use Rattle.virtio.specs.declared.Buffer.{Buffer}
use Rattle.virtio.specs.Memory.{Memory}
use Rattle.rules.specs.declared.Open.TheVariants.{PopIdx, PeekIdx}
use Rattle.rules.specs.Record.{Queue, with_call}
use Rattle.rules.specs.Answer.{unless}
use Rattle.rules.specs.Calls.{add_refusal, call_refusal, step_refusal, add_opened, opened, open_add, matches, open_pop, open_peek, moves, run, step_tests, add_tests}
use Rattle.views.specs.declared.Core.{Core}
use Rattle.views.specs.Tables.{queue_of}
use Rattle.tables.specs.declared.TablesRef.{TablesRef}
use Rattle.tables.specs.declared.TablesMut.{TablesMut}
use Rattle.tables.specs.Lent.{tables_read, tables_held, Reads, reads_tables}
use Rattle.refusals.specs.Refusals.{fits_by}

module _ (q : Queue) (m : Memory) where
  pub add_opening : (bs : List Buffer) → open_add q m bs ≡ unless (add_refusal q m bs) q m (opened (add_opened q bs) m)
  unfolding open_add
  add_opening bs = refl

  pub pop_opening : (t : ℕ) (bs : List Buffer) → open_pop q m t bs ≡ unless (call_refusal q m) q m (opened (with_call q (PopIdx t (matches q t bs))) m)
  unfolding open_pop
  pop_opening t bs = refl

  pub peek_opening : open_peek q m ≡ unless (call_refusal q m) q m (opened (with_call q PeekIdx) m)
  unfolding open_peek
  peek_opening = refl

  pub run_opening : (b : ℕ) → run b q m ≡ unless (step_refusal q m) q m (moves b (opened q m))
  unfolding run
  run_opening b = refl

-- what the code was told of tables that it read, where it knows whether the bytes do, is what the rules say of the tables that are held
module _ (c : Core) (t : TablesMut) (r : TablesRef) (h : Reads t r) (one two pool : List ℕ) (fit : Bool) (f : fit ≡ fits_by c (length one) (length two) (length pool)) where
  pub add_number : (bs : List Buffer) (x : ℕ) → x ≡ first (add_tests (queue_of c (tables_read r)) fit bs)
      → x ≡ add_refusal (queue_of c (tables_held t)) (record { one = one; two = two; pool = pool }) bs
  add_number bs x e =
      e ∙ ap₂ (λ u b. first (add_tests (queue_of c u) b bs)) (reads_tables t r h) f

  pub step_number : (x : ℕ) → x ≡ first (step_tests (queue_of c (tables_read r)) fit)
      → x ≡ step_refusal (queue_of c (tables_held t)) (record { one = one; two = two; pool = pool })
  step_number x e =
      e ∙ ap₂ (λ u b. first (step_tests (queue_of c u) b)) (reads_tables t r h) f
