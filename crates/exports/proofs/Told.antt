-- What C is answered is what the rules answer: of new from what record's method says, of the other calls from what the call over the tables says, lent or in
-- C's record. The record that goes there and comes back loses no open call (specs/Closed), and a list that C gives goes as one that can stand in for it (buffers
-- Reach). The laws of record's answers and of lists that are copied whole (`asked_told`, `add_told`, `pop_told`, `peek_told`, `listed`) are for callers that go
-- that way. Assumes nothing.
use Rattle.std.specs.Prelude.{◌≡◌, refl, Bool, List, ℕ}
use Rattle.std.proofs.Common.{ap, sym, subst, arith, ◌∙◌}
use Rattle.virtio.specs.declared.Buffer.{Buffer}
use Rattle.virtio.specs.Memory.{Memory}
use Rattle.rules.specs.Answer.{Outcome}
use Rattle.rules.specs.New as rule
use Rattle.rules.specs.Record as model
use Rattle.rules.specs.Calls.{add, pop_used, peek_used}
use Rattle.views.specs.declared.Core.{Core}
use Rattle.views.specs.Tables.{tables_of}
use Rattle.tables.specs.declared.TablesMut.{TablesMut}
use Rattle.tables.specs.Lent.{tables_held}
use Rattle.wellformed.specs.Room.{HasRoom}
use Rattle.refusals.specs.Checked.{Indices}
use Rattle.asks.specs.declared.Done.{Done}
use Rattle.asks.specs.Outcomes.{done_of}
use Rattle.record.specs.declared.Queue.{Queue}
use Rattle.record.specs.declared.Made.{Made}
use Rattle.record.specs.declared.Answer.{Answer}
use Rattle.record.specs.Abs.{abs, Arrays}
use Rattle.record.specs.Asked as records
use Rattle.record.specs.Fine.{size_small}
use Rattle.buffers.specs.declared.gathering.Gathered.{Gathered}
use Rattle.buffers.specs.Long.{AskedOrRefused}
use Rattle.buffers.specs.Gather.{gathered, shortened, list_of, stands_for, StandsIn}
use Rattle.buffers.proofs.Stands.{add_stands, pop_stands}
use Rattle.buffers.proofs.Reach.{add_stood, pop_stood}
use Rattle.exports.specs.declared.Plain.{Plain}
use Rattle.exports.specs.declared.Flat.{Flat}
use Rattle.exports.specs.declared.FlatMade.{FlatMade}
use Rattle.exports.specs.declared.FlatAnswer.{FlatAnswer}
use Rattle.exports.specs.declared.LentAnswer.{LentAnswer}
use Rattle.exports.specs.Flat.{core_of, plain_of, queue_of, flat_of, made_is, answer_is, lent_is, made_of, answer_of, flat_made, flat_answer, lent_answer}
use Rattle.exports.specs.Closed.{with_queue, add_back, pop_back, peek_back, new_back, asked_back}

-- plain fields with tables
abbrev lent_with : Core → List ℕ → List ℕ → List ℕ → List Bool → Queue
lent_with k words lens halves sides = record { core = k; words = words; lens = lens; halves = halves; sides = sides }

-- tables at the limit have room for an allowed size
pub limit_has_room : (c : Core) → HasRoom c 64
limit_has_room c = record { most = omega arith; enough = size_small c.n }

-- and so tables that are read with room for as much
pub read_has_room : (c : Core) (r : ℕ) → r ≡ 64 → HasRoom c r
read_has_room c r e = subst (HasRoom c) (sym e) (limit_has_room c)

-- the buffers that are handed on are those that stand for C's list
pub listed : (xs bs : List Buffer) (s g : Gathered) → bs ≡ list_of s → s ≡ shortened g → g ≡ gathered xs → bs ≡ stands_for (gathered xs)
listed xs bs s g b e f = b ∙ ap list_of (e ∙ ap shortened f)

pub new_told : (k : rule.Ask) (d : Made) (r : FlatMade) (m m' : Memory) → r ≡ flat_made d → records.made_of d m' ≡ rule.new k m → made_of (made_is r) m' ≡ rule.new k m
new_told k d r m m' gives e =
    ap (λ (x : FlatMade). made_of (made_is x) m') gives ∙ new_back k d (queue_of (flat_of d.queue)) m m' refl e

-- a call with the record by value is one over its tables, which lie in the record
module _ (words lens halves : List ℕ) (sides : List Bool) where
  abbrev beside : LentAnswer → FlatAnswer
  beside a = record {
    answer = a.answer;
    value = a.value;
    steps = a.steps;
    queue = record { plain = a.plain; words = words; lens = lens; halves = halves; sides = sides };
  }

  pub by_value : (a : LentAnswer) (r : FlatAnswer) (m : Memory) (o : Outcome) → r ≡ beside a → answer_of (lent_is a words lens halves sides) m ≡ o → answer_of (answer_is r) m ≡ o
  by_value a r m o e s = ap (λ (x : FlatAnswer). answer_of (answer_is x) m) e ∙ s

-- and so of a record that is the same
pub asked_read : (ordered : Bool) (m : Memory) (k q : model.Queue) → k ≡ q → AskedOrRefused ordered k m → AskedOrRefused ordered q m
asked_read ordered m k q e u = subst (λ x. AskedOrRefused ordered x m) e u

-- ---- the record by value: f as C has it and q as record has it, record's answer d and C's r

module _ (f : Flat) {q : Queue} (got : q ≡ queue_of f) (d : Answer) (r : FlatAnswer) (gives : r ≡ flat_answer d) (m m' : Memory) where
  abbrev back : Queue
  back = queue_of (flat_of d.queue)

  told : (o : Outcome) → records.answer_of (with_queue d back) m' ≡ o → answer_of (answer_is r) m' ≡ o
  told o e = ap (λ (x : FlatAnswer). answer_of (answer_is x) m') gives ∙ e

  pub asked_told : (o : Queue → Outcome) → ((k : Queue) → (o k).queue ≡ abs k) → records.answer_of d m' ≡ o q → answer_of (answer_is r) m' ≡ o (queue_of f)
  asked_told o leaves e = told _ (asked_back (queue_of f) q d back m' o leaves refl got refl e)

  module _ (a : Arrays (queue_of f)) (i : Indices (core_of f.plain)) where
    pub add_told : (xs : List Buffer) {bs : List Buffer} → bs ≡ stands_for (gathered xs) → records.answer_of d m' ≡ add (abs q) m bs → answer_of (answer_is r) m' ≡ add (abs (queue_of f)) m xs
    add_told xs {bs} s e =
        told _ (add_back (queue_of f) q d back m m' a i refl got refl bs e)
        ∙ (ap (add (abs (queue_of f)) m) s ∙ add_stands (abs (queue_of f)) m xs)

    pub pop_told : (t : ℕ) (xs : List Buffer) {bs : List Buffer} → bs ≡ stands_for (gathered xs) → records.answer_of d m' ≡ pop_used (abs q) m t bs → answer_of (answer_is r) m' ≡ pop_used (abs (queue_of f)) m t xs
    pop_told t xs {bs} s e =
        told _ (pop_back (queue_of f) q d back m m' a i refl got refl t bs e)
        ∙ (ap (pop_used (abs (queue_of f)) m t) s ∙ pop_stands (abs (queue_of f)) m xs t)

    pub peek_told : records.answer_of d m' ≡ peek_used (abs q) m → answer_of (answer_is r) m' ≡ peek_used (abs (queue_of f)) m
    peek_told e = told _ (peek_back (queue_of f) q d back m m' a i refl got refl e)

-- ---- its tables lent: p as C has the plain fields and c as the code has them, the code's answer d and C's r, and the tables before and after

module _ (p : Plain) {c : Core} (got : c ≡ core_of p) (d : Done) (r : LentAnswer) (gives : r ≡ lent_answer d)
    (words lens halves : List ℕ) (sides : List Bool) (m m' : Memory) where
  abbrev held : Core → Queue
  held k = lent_with k words lens halves sides

  abbrev before : Queue
  before = held (core_of p)

  module _ (words' lens' halves' : List ℕ) (sides' : List Bool) where
    abbrev left : Core → Queue
    left k = lent_with k words' lens' halves' sides'

    abbrev answered : Answer
    answered = record { outcome = d.outcome; steps = d.steps; queue = left d.core }

    abbrev after : Queue
    after = left (core_of (plain_of d.core))

    said : (o : Outcome) → records.answer_of (with_queue answered after) m' ≡ o → answer_of (lent_is r words' lens' halves' sides') m' ≡ o
    said o e = ap (λ (x : LentAnswer). answer_of (lent_is x words' lens' halves' sides') m') gives ∙ e

  pub asked_said : (o : Queue → Outcome) → ((k : Queue) → (o k).queue ≡ abs k) → records.answer_of (answered words lens halves sides) m' ≡ o (held c) → answer_of (lent_is r words lens halves sides) m' ≡ o before
  asked_said o leaves e =
      said words lens halves sides _ (asked_back before (held c) (answered words lens halves sides) (after words lens halves sides) m' o leaves refl (ap held got) refl e)

  module _ (u : TablesMut) (room : u.room ≡ 64) (a : Arrays before) (i : Indices (core_of p)) where
    -- C's answer, the tables as they are then; the code's, and the record that it was asked of
    abbrev answers : Outcome
    answers = answer_of (lent_is r u.words.now u.lens.now u.halves.now u.sides.now) m'

    abbrev done : Outcome
    done = done_of d (tables_held u) m'

    abbrev asked : model.Queue
    asked = abs (held c)

    abbrev now : Answer
    now = answered u.words.now u.lens.now u.halves.now u.sides.now

    abbrev then : Queue
    then = after u.words.now u.lens.now u.halves.now u.sides.now

    limited : (o : Outcome) → done ≡ o → records.answer_of now m' ≡ o
    limited o e = ap (λ (k : ℕ). done_of d (tables_of k u.words.now u.lens.now u.halves.now u.sides.now) m') (sym room) ∙ e

    pub add_said : (ordered : Bool) (xs : List Buffer) {bs : List Buffer} → AskedOrRefused ordered (abs before) m → StandsIn ordered bs xs → done ≡ add asked m bs → answers ≡ add (abs before) m xs
    add_said ordered xs {bs} u s e =
        said _ _ _ _ _ (add_back before (held c) now then m m' a i refl (ap held got) refl bs (limited _ e)) ∙ add_stood (abs before) m ordered bs xs s u

    pub pop_said : (t : ℕ) (ordered : Bool) (xs : List Buffer) {bs : List Buffer} → StandsIn ordered bs xs → done ≡ pop_used asked m t bs → answers ≡ pop_used (abs before) m t xs
    pop_said t ordered xs {bs} s e =
        said _ _ _ _ _ (pop_back before (held c) now then m m' a i refl (ap held got) refl t bs (limited _ e)) ∙ pop_stood (abs before) m ordered bs xs s t

    pub peek_said : done ≡ peek_used asked m → answers ≡ peek_used (abs before) m
    peek_said e = said _ _ _ _ _ (peek_back before (held c) now then m m' a i refl (ap held got) refl (limited _ e))
