-- Calls by their refusals: what is answered where one applies, and where none does.
use Rattle.std.specs.Prelude.{◌≡◌, refl, ℕ, Err}
use Rattle.std.proofs.Common.{sym, ap, ◌∙◌, eq-eqb, ne_eqb}
use Rattle.virtio.specs.Memory.{Memory}
use Rattle.rules.specs.declared.Refusal.{Refusal}
use Rattle.rules.specs.Record.{Queue, Tables}
use Rattle.rules.specs.Refused.{refusal_number}
use Rattle.rules.specs.Answer.{Outcome, unless}
use Rattle.views.specs.declared.Core.{Core}
use Rattle.views.specs.Tables.{queue_of}
use Rattle.refusals.specs.Told.{some_refusal}
use Rattle.asks.specs.declared.Done.{Done}
use Rattle.asks.specs.Outcomes.{done_of}

-- a refusal applies, with the number k; none does
pub says_no : (c : Core) (t : Tables) (m : Memory) (o : Outcome) (k : ℕ) (e : Refusal) (r : Done) → r ≡ record { core = c; outcome = Err e; steps = 0 } → refusal_number e ≡ k
    → done_of r t m ≡ unless k (queue_of c t) m o
says_no c t m o k e r d f =
    ap (λ y. done_of y t m) d ∙ sym (rw (← f, ne_eqb (refusal_number e) 0 (some_refusal e)) refl)

pub says_yes : (q : Queue) (m : Memory) (o p : Outcome) (k : ℕ) → k ≡ 0 → p ≡ o → p ≡ unless k q m o
says_yes q m o p k z e = e ∙ sym (rw (eq-eqb k 0 z) refl)
