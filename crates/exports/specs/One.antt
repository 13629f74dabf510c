-- Any two outcomes that a contract of an exported function permits are one: the answer, the memory, and the lent tables.
use Rattle.std.specs.Prelude.{◌≡◌, Bool, List, ℕ}
use Rattle.std.proofs.Common.{ap}
use Rattle.virtio.specs.Memory.{Memory}
use Rattle.rules.specs.Answer.{Outcome}
use Rattle.rules.specs.New as rule
use Rattle.record.specs.declared.Queue.{Queue}
use Rattle.record.specs.Abs.{Arrays, abs_fixes}
use Rattle.exports.specs.declared.Flat.{Flat}
use Rattle.exports.specs.declared.FlatMade.{FlatMade}
use Rattle.exports.specs.declared.FlatAnswer.{FlatAnswer}
use Rattle.exports.specs.declared.LentAnswer.{LentAnswer}
use Rattle.exports.specs.Flat.{AnswerNumbers, plain_of, queue_of, flat_of, made_is, answer_is, lent_is, made_of, answer_of}

-- C's record is one where record's is
flat_one : (f g : Flat) → queue_of f ≡ queue_of g → f ≡ g
flat_one f g e = ap flat_of e

pub flat_made_one : (r s : FlatMade) (m l : Memory) → Arrays (queue_of r.queue) → Arrays (queue_of s.queue) → made_of (made_is r) m ≡ made_of (made_is s) l → (r ≡ s) × (m ≡ l)
flat_made_one r s m l a b e =
    let q : r.queue ≡ s.queue = flat_one r.queue s.queue (abs_fixes (queue_of r.queue) (queue_of s.queue) a b (ap (λ (x : rule.Made). x.queue) e)) in (
      λ i. record { answer = (e i).answer; table = (e i).table; avail = (e i).avail; used = (e i).used; queue = q i },
      ap (λ (x : rule.Made). x.memory) e,
    )

pub flat_answer_one : (r s : FlatAnswer) (m l : Memory) → Arrays (queue_of r.queue) → Arrays (queue_of s.queue) → answer_of (answer_is r) m ≡ answer_of (answer_is s) l → (r ≡ s) × (m ≡ l)
flat_answer_one r s m l a b e =
    let q : r.queue ≡ s.queue = flat_one r.queue s.queue (abs_fixes (queue_of r.queue) (queue_of s.queue) a b (ap (λ (x : Outcome). x.queue) e)) in (
      λ i. record { answer = (e i).answer; value = (e i).value; steps = (e i).steps; queue = q i },
      ap (λ (x : Outcome). x.memory) e,
    )

module _ (r s : LentAnswer) (words lens halves words' lens' halves' : List ℕ) (sides sides' : List Bool) where
  abbrev pub first : AnswerNumbers
  first = lent_is r words lens halves sides

  abbrev pub second : AnswerNumbers
  second = lent_is s words' lens' halves' sides'

  pub lent_answer_one
      : (m l : Memory)
      → Arrays first.queue
      → Arrays second.queue
      → answer_of first m ≡ answer_of second l
      → (r ≡ s) × (m ≡ l) × (words ≡ words') × (lens ≡ lens') × (halves ≡ halves') × (sides ≡ sides')
  lent_answer_one m l a b e =
      let q : first.queue ≡ second.queue = abs_fixes first.queue second.queue a b (ap (λ (x : Outcome). x.queue) e) in
      let p : r.plain ≡ s.plain = ap (λ (x : Queue). plain_of x.core) q in (
        λ i. record { answer = (e i).answer; value = (e i).value; steps = (e i).steps; plain = p i },
        ap (λ (x : Outcome). x.memory) e,
        ap (λ (x : Queue). x.words) q,
        ap (λ (x : Queue). x.lens) q,
        ap (λ (x : Queue). x.halves) q,
        ap (λ (x : Queue). x.sides) q,
      )
