-- How much of a caller's list has to be looked at: nothing of one that no queue takes where a call does not ask for its order, and else nothing behind the first
-- input that comes after an output.
use Rattle.std.specs.Prelude.{◌≡◌, refl, Bool, true, false, not, cond, ◌||◌, ◌&&◌, ltb, List, ℕ, zero, suc, ◌+◌, ◌-◌, ◌≤◌, ◌<◌, set, length, get_or}
use Rattle.std.proofs.Common.{sym, ◌∙◌, arith, ltb-true, ltb-false, true≢false}
use Rattle.std.proofs.Math.Path.{ap}
use Rattle.std.proofs.Math.Seq.{set_out}
use Rattle.lists.specs.Tests.{by_test}
use Rattle.virtio.specs.declared.Buffer.{Buffer}
use Rattle.virtio.specs.Desc.{no_buffer}
use Rattle.virtio.specs.Memory.{Memory}
use Rattle.rules.specs.Record.{Queue, is_open}
use Rattle.rules.specs.WellFormed.{well_formed}
use Rattle.rules.specs.Calls.{fits, call_refusal, open_add, open_pop, whole, add, pop_used}
use Rattle.buffers.specs.declared.gathering.Gathered.{Gathered}
use Rattle.buffers.specs.Long.{AskedOrRefused, open_add_long, open_pop_long}
use Rattle.buffers.specs.Gather.{kept, passed, filled, gathered, StandsIn, filled_length}

-- ---- the copy is done as soon as it holds 65 buffers and an input came after an output

mixed_written : (xs : List Buffer) (i : ℕ) → (filled xs i).mixed ≡ true → (filled xs i).written ≡ true
unfolding filled
mixed_written xs zero e = e
mixed_written xs (suc i) e =
    by_test (filled xs i).mixed
    (λ m. rw (mixed_written xs i m))
    (λ m. by_test (filled xs i).written (λ w. rw w) (λ w. absurd (true≢false (sym (rw (m, w) at e)))))

module _ (xs : List Buffer) where
  kept_same : (i : ℕ) (b : Buffer) → 65 ≤ i → (filled xs i).mixed ≡ true → kept (filled xs i) i b ≡ filled xs i
  kept_same i b l e =
      let n : length (filled xs i).list ≡ 65 = filled_length xs i in
      let w : (filled xs i).written ≡ true = mixed_written xs i e in λ j. record {
        count = (filled xs i).count;
        list = set_out (filled xs i).list i b (omega arith) j;
        written = (ap (λ (t : Bool). t || b.output) w ∙ sym w) j;
        mixed = (ap (λ (t : Bool). t || ((filled xs i).written && not b.output)) e ∙ sym e) j;
      }

  done_from : (i more : ℕ) → 65 ≤ i → (filled xs i).mixed ≡ true → filled xs (i + more) ≡ filled xs i
  unfolding filled
  done_from i zero l e = ap (filled xs) {x = i + 0} {y = i} (omega arith)
  done_from i (suc more) l e =
      let before : filled xs (i + more) ≡ filled xs i = done_from i more l e in
      ap (filled xs) {x = i + suc more} {y = suc (i + more)} (omega arith)
      ∙ (kept_same (i + more) (get_or xs (i + more) no_buffer) (omega arith) (ap (λ (g : Gathered). g.mixed) before ∙ e) ∙ before)

  pub filled_done : (i : ℕ) → i ≤ length xs → 65 ≤ i → (filled xs i).mixed ≡ true → filled xs i ≡ gathered xs
  filled_done i h l e = sym (ap (filled xs) {x = length xs} {y = i + (length xs - i)} (omega arith) ∙ done_from i (length xs - i) l e)

  -- a buffer for which there is no room is passed by
  pub passed_by : (i : ℕ) → 65 ≤ i → passed (filled xs i) (get_or xs i no_buffer).output ≡ filled xs (suc i)
  unfolding filled
  passed_by i l =
      let n : length (filled xs i).list ≡ 65 = filled_length xs i in
      let b : Buffer = get_or xs i no_buffer in λ j. record {
        count = (filled xs i).count;
        list = sym (set_out (filled xs i).list i b (omega arith)) j;
        written = (filled xs i).written || b.output;
        mixed = (filled xs i).mixed || ((filled xs i).written && not b.output);
      }

-- ---- THE LAWS: the calls answer a list that can stand in as they answer the caller's

module _ (q : Queue) (m : Memory) (ordered : Bool) (bs xs : List Buffer) (s : StandsIn ordered bs xs) where
  by_length : (P : Type 0) → (64 < length xs → P) → (bs ≡ xs → P) → P
  by_length P f g =
      by_test (ltb 64 (length xs)) (λ e. f (ltb-true 64 (length xs) e)) (λ e. g (s.short (ltb-false 64 (length xs) e)))

  -- a call that is refused before its own tests doesn't look at the list
  refused_before : (call_refusal q m ≡ 0 → ⊥) → open_add q m bs ≡ open_add q m xs
  unfolding open_add
  refused_before z =
      by_test (well_formed q)
      (λ w. by_test (fits q m) (λ f. by_test (is_open q.call) (λ b. rw (w, f, b)) (λ b. absurd (z (rw (w, f, b))))) (λ f. rw (w, f)))
      (λ w. rw w)

  pub add_stood : AskedOrRefused ordered q m → add q m bs ≡ add q m xs
  add_stood asked =
      ap (whole q.n)
      (by_length (open_add q m bs ≡ open_add q m xs)
      (λ l. by_test ordered (λ o. open_add_long q m bs xs (s.long l) l (s.order l o)) (λ o. refused_before (asked o)))
      (ap (open_add q m)))

  pub pop_stood : (t : ℕ) → pop_used q m t bs ≡ pop_used q m t xs
  pop_stood t =
      ap (whole q.n)
      (by_length (open_pop q m t bs ≡ open_pop q m t xs) (λ l. open_pop_long q m bs xs (s.long l) l t) (ap (open_pop q m t)))

-- ---- where the copy's second loop stands

pub behind : (count few i : ℕ) → few ≡ cond (ltb count 65) count 65 → few ≤ i → i < count → 65 ≤ i
behind count few i e l h =
    by_test (ltb count 65)
    (λ t. let f : few ≡ count = e ∙ rw t in absurd (omega arith))
    (λ t. let f : few ≡ 65 = e ∙ rw t in omega arith)

pub few_most : (count few : ℕ) → few ≡ cond (ltb count 65) count 65 → few ≤ count
few_most count few e =
    by_test (ltb count 65)
    (λ t. let f : few ≡ count = e ∙ rw t in omega arith)
    (λ t. let f : few ≡ 65 = e ∙ rw t in let l : 65 ≤ count = ltb-false count 65 t in omega arith)
