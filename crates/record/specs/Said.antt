-- What the laws of the rules say of the methods' answers: what an add publishes, and what a pop frees.
use Rattle.std.specs.Prelude.{◌≡◌, true, ◌⊎◌, List, ℕ, ◌+◌, ◌<◌, ◌^◌, length, get_or}
use Rattle.std.proofs.Common.{sym, ap, ◌∙◌, subst, arith}
use Rattle.lists.specs.Tests.{by_eq}
use Rattle.lists.specs.PickLaws.{get_d_rising_lem}
use Rattle.virtio.specs.declared.Buffer.{Buffer}
use Rattle.virtio.specs.Desc.{no_buffer}
use Rattle.virtio.specs.Memory.{Memory}
use Rattle.rules.specs.WellFormed.{well_formed}
use Rattle.rules.specs.Answer.{Outcome}
use Rattle.rules.specs.Refused.{result_number}
use Rattle.rules.specs.Calls.{add_refusal, add, pop_used}
use Rattle.laws.specs.Reads.{Narrow, AllNarrow, Reads}
use Rattle.laws.specs.Published.{add_publishes}
use Rattle.laws.specs.Whole.{add_refused}
use Rattle.laws.specs.PopFrees.{Refuses, Frees, pop_frees_or_nothing}
use Rattle.opens.specs.Given.{given, buffer_in}
use Rattle.opens.specs.Turns.{given_length}
use Rattle.refusals.specs.Checked.{Indices}
use Rattle.record.specs.declared.Queue.{Queue}
use Rattle.record.specs.declared.Answer.{Answer}
use Rattle.record.specs.Abs.{abs, Arrays}
use Rattle.record.specs.Asked.{answer_of}
use Rattle.record.specs.Kept.{good_of}

-- addresses of 64 bits and lengths of 32, as the slices' types have them
abbrev pub Fits : List ℕ → List ℕ → Type 0
Fits addrs sizes = ((i : ℕ) → get_or addrs i 0 < 2 ^ 64) × ((i : ℕ) → get_or sizes i 0 < 2 ^ 32)

-- so the buffers of a caller's list fit their fields
pub given_narrow : (addrs sizes outs : List ℕ) → Fits addrs sizes → AllNarrow (given addrs sizes outs)
unfolding given
given_narrow addrs sizes outs f i b =
    let n : length (given addrs sizes outs) ≡ length addrs = given_length addrs sizes outs in
    subst Narrow (sym (get_d_rising_lem (buffer_in addrs sizes outs) no_buffer (length addrs) 0 i (omega arith))) (record { addr = f.0 (0 + i); len = f.1 (0 + i) })

module _ (q : Queue) (a : Arrays q) (i : Indices q.core) (w : well_formed (abs q) ≡ true) (r : Answer) (m m' : Memory) where
  -- THE LAW of an add that is answered 0: the memory that it leaves is read, by VIRTIO's rules, as the list given, whose buffers fit their fields
  pub add_published
      : (bs : List Buffer)
      → AllNarrow bs
      → answer_of r m' ≡ add (abs q) m bs
      → result_number r.outcome ≡ 0
      → Reads q.core.modes.legacy q.core.n q.core.base m' q.core.avail_idx q.core.free_head bs
  add_published bs f e z =
      let n : add_refusal (abs q) m bs ≡ 0 = by_eq (add_refusal (abs q) m bs) 0 (λ y. y) (λ y. absurd (y (sym (ap (λ (o : Outcome). o.answer) (add_refused (abs q) m bs y)) ∙ sym (ap (λ (o : Outcome). o.answer) e) ∙ z))) in
      subst (λ x. Reads q.core.modes.legacy q.core.n q.core.base x q.core.avail_idx q.core.free_head bs) (sym (ap (λ (o : Outcome). o.memory) e)) (add_publishes (abs q) m bs (good_of q a i w) n f)

  -- THE LAW of a pop: refused, with record and memory as they were, or the token's chain freed and nothing else
  pub pop_freed_lem : (t : ℕ) (bs : List Buffer) → answer_of r m' ≡ pop_used (abs q) m t bs → Refuses (abs q) m (answer_of r m') ⊎ Frees (abs q) t bs (answer_of r m')
  pop_freed_lem t bs e =
      subst (λ o. Refuses (abs q) m o ⊎ Frees (abs q) t bs o) (sym e) (pop_frees_or_nothing (abs q) m t bs (good_of q a i w))
