-- What C keeps and gets, as the structs of crate record: the same fields, with no call open.
use Rattle.std.specs.Prelude.{Bool, List, ℕ}
use Rattle.virtio.specs.Memory.{Memory}
use Rattle.rules.specs.declared.Open.TheVariants.{Idle}
use Rattle.rules.specs.Answer.{Outcome}
use Rattle.rules.specs.New as rule
use Rattle.rules.specs.Refused.{result_number, result_value}
use Rattle.views.specs.declared.Core.{Core}
use Rattle.asks.specs.declared.Done.{Done}
use Rattle.record.specs.declared.Queue.{Queue}
use Rattle.record.specs.declared.Ask.{Ask}
use Rattle.record.specs.declared.Made.{Made}
use Rattle.record.specs.declared.Answer.{Answer}
use Rattle.record.specs.Abs.{abs}
use Rattle.record.specs.Asked.{places_of}
use Rattle.exports.specs.declared.Plain.{Plain}
use Rattle.exports.specs.declared.Flat.{Flat}
use Rattle.exports.specs.declared.FlatAsk.{FlatAsk}
use Rattle.exports.specs.declared.FlatMade.{FlatMade}
use Rattle.exports.specs.declared.FlatAnswer.{FlatAnswer}
use Rattle.exports.specs.declared.LentAnswer.{LentAnswer}

abbrev pub core_of : Plain → Core
core_of p = record {
  n = p.n;
  modes = record { indirect = p.indirect; event_idx = p.event_idx; legacy = p.legacy };
  base = p.base;
  num_used = p.num_used;
  free_head = p.free_head;
  avail_idx = p.avail_idx;
  last_used_idx = p.last_used_idx;
  call = Idle;
}

abbrev pub plain_of : Core → Plain
plain_of c = record {
  n = c.n;
  indirect = c.modes.indirect;
  event_idx = c.modes.event_idx;
  legacy = c.modes.legacy;
  base = c.base;
  num_used = c.num_used;
  free_head = c.free_head;
  avail_idx = c.avail_idx;
  last_used_idx = c.last_used_idx;
}

abbrev pub queue_of : Flat → Queue
queue_of f = record { core = core_of f.plain; words = f.words; lens = f.lens; halves = f.halves; sides = f.sides }

abbrev pub flat_of : Queue → Flat
flat_of q = record { plain = plain_of q.core; words = q.words; lens = q.lens; halves = q.halves; sides = q.sides }

-- plain fields, with tables that are lent
abbrev pub lent_of : Plain → List ℕ → List ℕ → List ℕ → List Bool → Queue
lent_of p words lens halves sides = record { core = core_of p; words = words; lens = lens; halves = halves; sides = sides }

-- ---- what new is asked, and the answers

abbrev pub ask_is : FlatAsk → Ask
ask_is a = record {
  n = a.n;
  in_use = a.in_use;
  most = a.most;
  modes = record { indirect = a.indirect; event_idx = a.event_idx; legacy = a.legacy };
  base_one = a.base_one;
  base_two = a.base_two;
  base_pool = a.base_pool;
}

-- what C is answered, with its record as record's: number and value, where record's answers have a Result
pub record MadeNumbers : Type 0 where
  pub answer : ℕ
  pub table : ℕ
  pub avail : ℕ
  pub used : ℕ
  pub queue : Queue

pub record AnswerNumbers : Type 0 where
  pub answer : ℕ
  pub value : ℕ
  pub steps : ℕ
  pub queue : Queue

abbrev pub made_is : FlatMade → MadeNumbers
made_is r = record { answer = r.answer; table = r.table; avail = r.avail; used = r.used; queue = queue_of r.queue }

abbrev pub answer_is : FlatAnswer → AnswerNumbers
answer_is r = record { answer = r.answer; value = r.value; steps = r.steps; queue = queue_of r.queue }

abbrev pub lent_is : LentAnswer → List ℕ → List ℕ → List ℕ → List Bool → AnswerNumbers
lent_is r words lens halves sides =
    record { answer = r.answer; value = r.value; steps = r.steps; queue = lent_of r.plain words lens halves sides }

-- and the rules' records of these
abbrev pub made_of : MadeNumbers → Memory → rule.Made
made_of r m =
    record { answer = r.answer; table = r.table; avail = r.avail; used = r.used; queue = abs r.queue; memory = m }

abbrev pub answer_of : AnswerNumbers → Memory → Outcome
answer_of r m = record { answer = r.answer; value = r.value; steps = r.steps; queue = abs r.queue; memory = m }

-- what C is answered of what record, or a call over lent tables, answers
abbrev pub flat_made : Made → FlatMade
flat_made r = record {
  answer = result_number r.outcome;
  table = (places_of r.outcome).table;
  avail = (places_of r.outcome).avail;
  used = (places_of r.outcome).used;
  queue = flat_of r.queue;
}

abbrev pub flat_answer : Answer → FlatAnswer
flat_answer r =
    record { answer = result_number r.outcome; value = result_value r.outcome; steps = r.steps; queue = flat_of r.queue }

abbrev pub lent_answer : Done → LentAnswer
lent_answer d =
    record { answer = result_number d.outcome; value = result_value d.outcome; steps = d.steps; plain = plain_of d.core }
