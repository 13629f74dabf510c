-- What new is asked, and what new, available_desc and the other calls answer, as the rules' records.
use Rattle.std.specs.Prelude.{◌≡◌, ℕ, ◌<◌, Result, Ok, Err}
use Rattle.std.proofs.Common.{ap, arith}
use Rattle.virtio.specs.Memory.{Memory}
use Rattle.rules.specs.Answer.{Outcome}
use Rattle.rules.specs.New as rule
use Rattle.rules.specs.declared.Refusal.{Refusal}
use Rattle.rules.specs.Refused.{refusal_number, result_number, result_value, refusal_above, refusal_one, result_one}
use Rattle.record.specs.declared.Answer.{Answer}
use Rattle.record.specs.declared.Ask.{Ask}
use Rattle.record.specs.declared.Made.{Made}
use Rattle.record.specs.declared.Places.{Places}
use Rattle.record.specs.declared.Queue.{Queue}
use Rattle.record.specs.Abs.{abs, Arrays, abs_fixes}

abbrev pub ask_of : Ask → rule.Ask
ask_of a = record {
  n = a.n;
  in_use = a.in_use;
  most = a.most;
  modes = a.modes;
  base_one = a.base_one;
  base_two = a.base_two;
  base_pool = a.base_pool;
}

abbrev pub places_of : Result Places Refusal → Places
places_of (Ok p) = p
places_of (Err r) = record { table = 0; avail = 0; used = 0 }

abbrev pub made_of : Made → Memory → rule.Made
made_of r m = record {
  answer = result_number r.outcome;
  table = (places_of r.outcome).table;
  avail = (places_of r.outcome).avail;
  used = (places_of r.outcome).used;
  queue = abs r.queue;
  memory = m;
}

abbrev pub told_of : Result ℕ Refusal → Queue → Memory → Outcome
told_of r q m = record { answer = result_number r; value = result_value r; steps = 0; queue = abs q; memory = m }

abbrev pub answer_of : Answer → Memory → Outcome
answer_of r m = record {
  answer = result_number r.outcome;
  value = result_value r.outcome;
  steps = r.steps;
  queue = abs r.queue;
  memory = m;
}

-- ---- any two outcomes that these equations permit are one: an answer of new, or of another call, and the memory that it leaves; an answer of available_desc

-- number and places say the whole of what new answers beside the record
places_one : (r s : Result Places Refusal) → result_number r ≡ result_number s → places_of r ≡ places_of s → r ≡ s
places_one (Ok p) (Ok q) n e = ap Ok e
places_one (Ok p) (Err b) n e = absurd (let l : 0 < refusal_number b = refusal_above b in omega arith)
places_one (Err a) (Ok q) n e = absurd (let l : 0 < refusal_number a = refusal_above a in omega arith)
places_one (Err a) (Err b) n e = ap Err (refusal_one a b n)

pub made_one : (r s : Made) (m l : Memory) → Arrays r.queue → Arrays s.queue → made_of r m ≡ made_of s l → (r ≡ s) × (m ≡ l)
made_one r s m l a b e =
    let q : r.queue ≡ s.queue = abs_fixes r.queue s.queue a b (ap (λ (x : rule.Made). x.queue) e) in
    let o : r.outcome ≡ s.outcome = places_one r.outcome s.outcome (ap (λ (x : rule.Made). x.answer) e) (λ i. record { table = (e i).table; avail = (e i).avail; used = (e i).used }) in (
      λ i. record { outcome = o i; queue = q i },
      ap (λ (x : rule.Made). x.memory) e,
    )

pub answer_one : (r s : Answer) (m l : Memory) → Arrays r.queue → Arrays s.queue → answer_of r m ≡ answer_of s l → (r ≡ s) × (m ≡ l)
answer_one r s m l a b e =
    let q : r.queue ≡ s.queue = abs_fixes r.queue s.queue a b (ap (λ (x : Outcome). x.queue) e) in
    let o : r.outcome ≡ s.outcome = result_one r.outcome s.outcome (ap (λ (x : Outcome). x.answer) e) (ap (λ (x : Outcome). x.value) e) in (
      λ i. record { outcome = o i; steps = (e i).steps; queue = q i },
      ap (λ (x : Outcome). x.memory) e,
    )

pub told_one : (r s : Result ℕ Refusal) (q : Queue) (m : Memory) → told_of r q m ≡ told_of s q m → r ≡ s
told_one r s q m e = result_one r s (ap (λ (x : Outcome). x.answer) e) (ap (λ (x : Outcome). x.value) e)
