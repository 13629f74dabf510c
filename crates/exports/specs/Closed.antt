-- Why a record with no field for the open call loses nothing: new, add, pop_used and peek_used, whole, leave none open where none was.
use Rattle.std.specs.Prelude.{◌≡◌, refl, Bool, true, false, cond, List, ℕ, eqb, length}
use Rattle.std.proofs.Common.{sym, ap, ◌∙◌}
use Rattle.std.proofs.lemmas.Bool.{false≢true}
use Rattle.lists.specs.Tests.{by_eq}
use Rattle.virtio.specs.declared.Buffer.{Buffer}
use Rattle.virtio.specs.Memory.{Memory}
use Rattle.rules.specs.declared.Open.{Open}
use Rattle.rules.specs.declared.Open.TheVariants.{Idle, Add, PopIdx, PopId, PopLen, PopStore, PeekIdx, PeekId}
use Rattle.rules.specs.Record as model
use Rattle.rules.specs.Record.{is_open}
use Rattle.rules.specs.WellFormed.{well_formed}
use Rattle.rules.specs.Answer.{Outcome}
use Rattle.rules.specs.New as rule
use Rattle.rules.specs.New.{new_refusal, made, not_made, new}
use Rattle.rules.specs.Calls.{fits, add_refusal, call_refusal, add, pop_used, peek_used}
use Rattle.laws.specs.Allowed.{add_allowed, call_allowed}
use Rattle.laws.specs.CallKeeps.{Good}
use Rattle.laws.specs.Whole.{add_refused, pop_refused, peek_refused, add_closes, pop_closes, peek_closes}
use Rattle.views.specs.declared.Core.{Core}
use Rattle.refusals.specs.Checked.{Indices}
use Rattle.record.specs.declared.Queue.{Queue}
use Rattle.record.specs.declared.Made.{Made}
use Rattle.record.specs.declared.Answer.{Answer}
use Rattle.record.specs.Abs.{abs, Arrays}
use Rattle.record.specs.Asked.{answer_of, made_of}
use Rattle.record.specs.Kept.{good_of}
use Rattle.exports.specs.Flat.{core_of, plain_of, queue_of, flat_of}

-- a call that is not open is none
not_open : (c : Open) → is_open c ≡ false → c ≡ Idle
not_open Idle e = refl
not_open (Add head step) e = absurd (false≢true (sym e))
not_open (PopIdx token matched) e = absurd (false≢true (sym e))
not_open (PopId token matched) e = absurd (false≢true (sym e))
not_open (PopLen token matched id) e = absurd (false≢true (sym e))
not_open (PopStore count step len) e = absurd (false≢true (sym e))
not_open PeekIdx e = absurd (false≢true (sym e))
not_open PeekId e = absurd (false≢true (sym e))

-- a record with none open comes back from C as it was
core_back : (c : Core) → c.call ≡ Idle → core_of (plain_of c) ≡ c
core_back c e = λ i. record {
  n = c.n;
  modes = c.modes;
  base = c.base;
  num_used = c.num_used;
  free_head = c.free_head;
  avail_idx = c.avail_idx;
  last_used_idx = c.last_used_idx;
  call = sym e i;
}

queue_back : (q : Queue) → q.core.call ≡ Idle → queue_of (flat_of q) ≡ q
queue_back q e = λ i. record { core = core_back q.core e i; words = q.words; lens = q.lens; halves = q.halves; sides = q.sides }

-- an answer with another record
abbrev pub with_queue : Answer → Queue → Answer
with_queue r q = record { outcome = r.outcome; steps = r.steps; queue = q }

abbrev pub made_with : Made → Queue → Made
made_with r q = record { outcome = r.outcome; queue = q }

answer_back : (r : Answer) (m : Memory) (o : Outcome) → answer_of r m ≡ o → o.queue.call ≡ Idle → answer_of (with_queue r (queue_of (flat_of r.queue))) m ≡ o
answer_back r m o e idle =
    ap (λ (q : Queue). answer_of (with_queue r q) m) (queue_back r.queue (ap (λ (x : Outcome). x.queue.call) e ∙ idle)) ∙ e

-- ---- the rules' calls leave none open

module _ (q : model.Queue) (m : Memory) (good : well_formed q ≡ true → Good q) (idle : q.call ≡ Idle) where
  add_idle : (bs : List Buffer) → (add q m bs).queue.call ≡ Idle
  add_idle bs =
      by_eq (add_refusal q m bs) 0
      (λ z. not_open _ (add_closes q m (good (add_allowed q (fits q m) bs z).well) bs z))
      (λ z. ap (λ (o : Outcome). o.queue.call) (add_refused q m bs z) ∙ idle)

  pop_idle : (t : ℕ) (bs : List Buffer) → (pop_used q m t bs).queue.call ≡ Idle
  pop_idle t bs =
      by_eq (call_refusal q m) 0
      (λ z. not_open _ (pop_closes q m (good (call_allowed q (fits q m) z).well) t bs z))
      (λ z. ap (λ (o : Outcome). o.queue.call) (pop_refused q m t bs z) ∙ idle)

  peek_idle : (peek_used q m).queue.call ≡ Idle
  peek_idle =
      by_eq (call_refusal q m) 0
      (λ z. not_open _ (peek_closes q m (good (call_allowed q (fits q m) z).well) z))
      (λ z. ap (λ (o : Outcome). o.queue.call) (peek_refused q m z) ∙ idle)

either_idle : (t : Bool) (a b : rule.Made) → a.queue.call ≡ Idle → b.queue.call ≡ Idle → (cond t a b).queue.call ≡ Idle
either_idle true a b x y = x
either_idle false a b x y = y

new_idle : (k : rule.Ask) (m : Memory) → (new k m).queue.call ≡ Idle
unfolding new
new_idle k m =
    let refusal : ℕ = new_refusal k (length m.one) (length m.two) (length m.pool) in
    either_idle (eqb refusal 0) (made k m) (not_made refusal m) refl refl

-- ---- THE LAWS: what a method answers for C's record, it answers by way of C. Of each call: `before` is C's record as a struct, `q` the struct that the
-- method got, `r` its answer, `after` the record that C gets.

module _
    (before q : Queue) (r : Answer) (after : Queue) (m m' : Memory)
    (a : Arrays before) (i : Indices before.core) (idle : before.core.call ≡ Idle)
    (got : q ≡ before) (handed : after ≡ queue_of (flat_of r.queue))
  where
    back : (o : Outcome) → answer_of r m' ≡ o → o.queue.call ≡ Idle → answer_of (with_queue r after) m' ≡ o
    back o e x = ap (λ (k : Queue). answer_of (with_queue r k) m') handed ∙ answer_back r m' o e x

    pub add_back : (bs : List Buffer) → answer_of r m' ≡ add (abs q) m bs → answer_of (with_queue r after) m' ≡ add (abs before) m bs
    add_back bs e =
        back (add (abs before) m bs) (e ∙ ap (λ (k : Queue). add (abs k) m bs) got) (add_idle (abs before) m (good_of before a i) idle bs)

    pub pop_back : (t : ℕ) (bs : List Buffer) → answer_of r m' ≡ pop_used (abs q) m t bs → answer_of (with_queue r after) m' ≡ pop_used (abs before) m t bs
    pop_back t bs e =
        back (pop_used (abs before) m t bs) (e ∙ ap (λ (k : Queue). pop_used (abs k) m t bs) got) (pop_idle (abs before) m (good_of before a i) idle t bs)

    pub peek_back : answer_of r m' ≡ peek_used (abs q) m → answer_of (with_queue r after) m' ≡ peek_used (abs before) m
    peek_back e =
        back (peek_used (abs before) m) (e ∙ ap (λ (k : Queue). peek_used (abs k) m) got) (peek_idle (abs before) m (good_of before a i) idle)

pub new_back : (k : rule.Ask) (r : Made) (after : Queue) (m m' : Memory) → after ≡ queue_of (flat_of r.queue) → made_of r m' ≡ new k m → made_of (made_with r after) m' ≡ new k m
new_back k r after m m' handed e =
    ap (λ (q : Queue). made_of (made_with r q) m') (handed ∙ queue_back r.queue (ap (λ (x : rule.Made). x.queue.call) e ∙ new_idle k m)) ∙ e

-- of the calls that leave the record as it is
pub asked_back
    : (before q : Queue) (r : Answer) (after : Queue) (m' : Memory) (o : Queue → Outcome)
    → ((k : Queue) → (o k).queue ≡ abs k)
    → before.core.call ≡ Idle
    → q ≡ before
    → after ≡ queue_of (flat_of r.queue)
    → answer_of r m' ≡ o q
    → answer_of (with_queue r after) m' ≡ o before
asked_back before q r after m' o leaves idle got handed e =
    ap (λ (k : Queue). answer_of (with_queue r k) m') handed
    ∙ answer_back r m' (o before) (e ∙ ap o got) (ap (λ (k : model.Queue). k.call) (leaves before) ∙ idle)
