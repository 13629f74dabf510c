-- What a replay's blocks come to, by what the code read of them; and blocks one after another.
use Rattle.std.specs.Prelude.{◌≡◌, refl, Bool, true, false, cond, ◌&&◌, List, ◌++◌, ℕ, zero, suc, ◌+◌, ◌-◌, ◌*◌, ◌%◌, ◌^◌, ◌<◌, ◌≤◌, ltb, length, take, Result, Ok, Err, MatchResult, Option, Some, None}
use Rattle.std.proofs.Common.{sym, ◌∙◌, arith, lt-ltb, le-ltb}
use Rattle.std.proofs.Math.Path.{ap, subst}
use Rattle.std.proofs.lemmas.Bool.{false≢true}
use Rattle.std.proofs.lemmas.Result.{IfErr-at_err, err_from_is_err_and}
use Rattle.std.specs.Option.{ok_or}
use Rattle.std.specs.Result.{is_err, IsErrAnd}
use Rattle.lists.specs.Bytes.{get_le, put_le}
use Rattle.lists.specs.Index.{after}
use Rattle.lists.specs.Tests.{and_both}
use Rattle.virtio.specs.Layout.{used_at, need_two}
use Rattle.virtio.specs.declared.Buffer.{Buffer}
use Rattle.virtio.specs.Memory.{Memory}
use Rattle.rules.specs.Answer.{Outcome}
use Rattle.rules.specs.Record.{free_count}
use Rattle.rules.specs.Calls.{add, pop_used}
use Rattle.access.specs.Accesses.{memory}
use Rattle.record.specs.Abs.{abs}
use Rattle.text.specs.Text.{Found, stands, field}
use Rattle.print.specs.Words.{word_answer, word_value, word_steps, word_free}
use Rattle.print.specs.Print.{field_line, report, bad_line}
use Rattle.print.specs.Page.{Has, SameLoan}
use Rattle.print.specs.declared.Page.{Page}
use Rattle.replay.specs.declared.Played.{Played}
use Rattle.text.specs.declared.Side.{Side}
use Rattle.replay.specs.Words.{line_add, line_used, line_pop, word_id, word_len, word_token}
use Rattle.replay.specs.Replay.{Play, wrong, called, gave_back, completed, add_block, used_block, pop_block, block, blocks}
use Rattle.replay.specs.Plays.{play_of, Plays, Sized, LeadsTo}
use Rattle.replay.specs.Sides.{both, told_as, as_bad, as_good, BothRead}

-- what holds of the replay that the struct says holds of the replay that it plays
pub at_play
    : (P : Play → Type 0) {before : List ℕ} {page : Page} {p : Played} {m : Memory} {q : Play}
    → Plays before page p m q
    → ((text : List ℕ) → Has before page text → P (play_of p m text))
    → P q
at_play P {q = q} h g = subst P h.same (g q.said h.wrote)

-- an equation of replays moves where the struct stands
pub is_played : {before : List ℕ} {page : Page} {p : Played} {m : Memory} {q r : Play} → q ≡ r → Plays before page p m r → Plays before page p m q
is_played {before = before} {page = page} {p = p} {m = m} e h = subst (λ (x : Play). Plays before page p m x) (sym e) h

-- what a block leads to, by an equation of replays
pub leads_as
    : (before : List ℕ) (page : Page) (p : Played) (m : Memory) (q : Play) (came : Result Played ℕ) {r next : Play}
    → r ≡ next
    → LeadsTo before page p m q came next
    → LeadsTo before page p m q came r
leads_as before page p m q came e h = subst (λ (x : Play). LeadsTo before page p m q came x) (sym e) h

-- a line that was not read is the wrong one, of this number
pub line_of : {A : Type 0} (o : Option A) (k j : ℕ) → ok_or o k ≡ Err j → (o ≡ None) × (j ≡ k)
line_of None k j e = (refl, IfErr-at_err (λ y. y ≡ k) e refl)
line_of (Some x) k j e = absurd (false≢true (ap is_err e))

-- what `?` hands on of a wrong line
pub leads_wrong
    : (before : List ℕ) (page : Page) (p : Played) (m : Memory) (q : Play) (came : Result Played ℕ) {next : Play} {k line : ℕ}
    → (y : ℕ) × (came ≡ Err y) × (y ≡ k)
    → k ≡ line
    → Plays before page p m q
    → next ≡ wrong q line
    → LeadsTo before page p m q came next
leads_wrong before page p m q came {next = next} r e h f =
    subst (λ (x : Result Played ℕ). LeadsTo before page p m q x next) (sym r.1) (h, f ∙ ap (λ j. wrong q j) (sym (r.2 ∙ e)))

-- what two lists came to, where a block has a line more before them
abbrev pub Later : (r came : Result Side ℕ) → Type 0
Later r came = MatchResult r (λ x. came ≡ Ok x) (λ k. IsErrAnd came (λ j. j ≡ 1 + k))

pub later_ok : (r came : Result Side ℕ) → Later r came → (x : Side) → came ≡ Ok x → r ≡ Ok x
later_ok (Ok y) came h x e = sym h ∙ e
later_ok (Err k) came h x e = let p = err_from_is_err_and came h in absurd (false≢true (ap is_err (sym e ∙ p.1)))

pub later_err : (r came : Result Side ℕ) → Later r came → (j : ℕ) → came ≡ Err j → (k : ℕ) × (r ≡ Err k) × (j ≡ 1 + k)
later_err (Ok y) came h j e = absurd (false≢true (ap is_err (sym h ∙ e)))
later_err (Err k) came h j e =
    let p = err_from_is_err_and came h in
    (k, refl, IfErr-at_err (λ y. y ≡ 1 + k) (sym p.1 ∙ e) p.2)

-- the five lines of a call, with its number, its value and the free descriptors as the code has them
pub reported
    : (before : List ℕ) (after : Page) (text op : List ℕ) (r : Outcome) (answer value free : ℕ)
    → answer ≡ r.answer
    → value ≡ r.value
    → free ≡ free_count r.queue
    → Has before after (
    text
    ++ (op
    ++ field_line word_answer answer
    ++ field_line word_value value
    ++ field_line word_steps r.steps
    ++ field_line word_free free)
    )
    → Has before after (text ++ report op r)
reported before after text op r answer value free e f g w = rw (← e, ← f, ← g) w

-- ---- a used block

-- what the code stores is the element given back
pub completes
    : (n : ℕ) (one two pool : List ℕ) (id len : ℕ) {idx next : ℕ} {a b c : List ℕ}
    → idx ≡ get_le 2 two 2
    → a ≡ put_le 4 two (4 + 8 * (idx % n)) id
    → b ≡ put_le 4 a (4 + 8 * (idx % n) + 4) len
    → next ≡ after idx
    → c ≡ put_le 2 b 2 next
    → memory one c pool ≡ completed n (memory one two pool) id len
unfolding completed used_at
completes n one two pool id len {idx = idx} {next = next} e f g h k =
    let i : ℕ = 8 * (idx % n) in
    let here : 4 + i ≡ 0 + (4 + i) = omega arith in
    let last : 4 + i + 4 ≡ 0 + (8 + i) = omega arith in
    ap (λ (x : List ℕ). memory one x pool) (
    k
    ∙ ap (λ (x : List ℕ). put_le 2 x 2 next) (g ∙ ap (λ (x : List ℕ). put_le 4 x (4 + i + 4) len) f)
    ∙ ap (λ (x : ℕ). put_le 2 (put_le 4 (put_le 4 two x id) (4 + i + 4) len) 2 next) here
    ∙ ap (λ (x : ℕ). put_le 2 (put_le 4 (put_le 4 two (0 + (4 + i)) id) x len) 2 next) last
    ∙ ap (put_le 2 (put_le 4 (put_le 4 two (0 + (4 + i)) id) (0 + (8 + i)) len) 2) h
    )
    ∙ ap (λ (x : ℕ). memory one (put_le 2 (put_le 4 (put_le 4 two (0 + (4 + 8 * (x % n))) id) (0 + (8 + 8 * (x % n))) len) 2 (after x)) pool) e

pub gave_plays
    : {before : List ℕ} {page : Page} (p : Played) (m : Memory) {l : Memory} (text : List ℕ) (id len next : ℕ)
    → l ≡ completed p.size m id len
    → Has before page text
    → Plays
    before
    page
    (record { queue = p.queue; size = p.size; at = next; line = p.line + 3 })
    l
    (gave_back (play_of p m text) id len next)
gave_plays p m {l = l} text id len next e w = record {
  same = λ i. record {
    queue = abs p.queue;
    memory = e i;
    size = p.size;
    at = next;
    line = p.line + 3;
    said = text;
    going = true;
  };
  wrote = w;
}

module _ (s : List ℕ) (p : Play) (at : ℕ) (i : Found) (read : i ≡ field word_id (2 ^ 32 - 1) s at) where
  abbrev id_then : Found → Found → Play
  id_then x y = cond x.ok (cond y.ok (gave_back p x.value y.value y.at) (wrong p 2)) (wrong p 1)

  abbrev len_of : Found → Found
  len_of x = field word_len (2 ^ 32 - 1) s x.at

  used_id : used_block s p at ≡ id_then i (len_of i)
  unfolding used_block
  used_id = ap (λ (x : Found). id_then x (len_of x)) (sym read)

  pub used_no_id : i.ok ≡ false → used_block s p at ≡ wrong p 1
  used_no_id e = used_id ∙ ap (λ b. cond b (cond (len_of i).ok (gave_back p i.value (len_of i).value (len_of i).at) (wrong p 2)) (wrong p 1)) e

  module _ (l : Found) (more : l ≡ field word_len (2 ^ 32 - 1) s i.at) (fine : i.ok ≡ true) where
    used_len : used_block s p at ≡ cond l.ok (gave_back p i.value l.value l.at) (wrong p 2)
    used_len = used_id ∙ ap (λ (y : Found). id_then i y) (sym more) ∙ rw fine

    pub used_no_len : l.ok ≡ false → used_block s p at ≡ wrong p 2
    used_no_len e = used_len ∙ rw e

    pub used_gave : l.ok ≡ true → used_block s p at ≡ gave_back p i.value l.value l.at
    used_gave e = used_len ∙ rw e

-- ---- an add and a pop, by their two lists

module _ (s : List ℕ) (p : Play) (at : ℕ) (r : Result Side ℕ) {list : List Buffer} (told : BothRead r list s at) where
  abbrev added : List Buffer → ℕ → Play
  added bs next = called p line_add (add p.queue p.memory bs) next 3

  add_says : add_block s p at ≡ told_as r list (λ j. wrong p (0 + j)) added
  unfolding add_block
  add_says = told.says 0 p added

  pub add_bad : (k : ℕ) → r ≡ Err k → add_block s p at ≡ wrong p k
  add_bad k e =
      let n : 0 + k ≡ k = omega arith in
      add_says ∙ as_bad r list (λ j. wrong p (0 + j)) added k e ∙ ap (λ j. wrong p j) n

  pub add_good : (l : Side) → r ≡ Ok l → add_block s p at ≡ added (take l.count list) l.at
  add_good l e = add_says ∙ as_good r list (λ j. wrong p (0 + j)) added l e

module _ (s : List ℕ) (p : Play) (at : ℕ) (t : Found) (read : t ≡ field word_token (2 ^ 32 - 1) s at) where
  abbrev popped : ℕ → List Buffer → ℕ → Play
  popped token bs next = called p line_pop (pop_used p.queue p.memory token bs) next 4

  abbrev token_then : Found → Play
  token_then x = cond x.ok (both s x.at (wrong p 2) (wrong p 3) (popped x.value)) (wrong p 1)

  pop_token : pop_block s p at ≡ token_then t
  unfolding pop_block
  pop_token = ap token_then (sym read)

  pub pop_no_token : t.ok ≡ false → pop_block s p at ≡ wrong p 1
  pop_no_token e = pop_token ∙ ap (λ k. cond k (both s t.at (wrong p 2) (wrong p 3) (popped t.value)) (wrong p 1)) e

  module _ (good : t.ok ≡ true) (r : Result Side ℕ) {list : List Buffer} (told : BothRead r list s t.at) where
    pop_says : pop_block s p at ≡ told_as r list (λ j. wrong p (1 + j)) (popped t.value)
    pop_says =
        pop_token
        ∙ ap (λ k. cond k (both s t.at (wrong p 2) (wrong p 3) (popped t.value)) (wrong p 1)) good
        ∙ told.says 1 p (popped t.value)

    pub pop_bad : (k : ℕ) → r ≡ Err k → pop_block s p at ≡ wrong p (1 + k)
    pop_bad k e = pop_says ∙ as_bad r list (λ j. wrong p (1 + j)) (popped t.value) k e

    pub pop_good : (l : Side) → r ≡ Ok l
        → pop_block s p at ≡ popped t.value (take l.count list) l.at
    pop_good l e = pop_says ∙ as_good r list (λ j. wrong p (1 + j)) (popped t.value) l e

-- ---- a block, by its first line

module _ (s : List ℕ) (p : Play) where
  pub block_add : stands line_add s p.at ≡ true → block s p ≡ add_block s p (p.at + 7)
  unfolding block
  block_add e = rw e

  module _ (no_add : stands line_add s p.at ≡ false) where
    pub block_used : stands line_used s p.at ≡ true → block s p ≡ used_block s p (p.at + 8)
    unfolding block
    block_used e = rw (no_add, e)

    module _ (no-used : stands line_used s p.at ≡ false) where
      pub block_pop : stands line_pop s p.at ≡ true → block s p ≡ pop_block s p (p.at + 7)
      unfolding block
      block_pop e = rw (no_add, no-used, e)

      pub block_wrong : stands line_pop s p.at ≡ false → block s p ≡ wrong p 0
      unfolding block
      block_wrong e = rw (no_add, no-used, e)

-- ---- blocks: the struct stands where some replay does, and the blocks that are left of it end at `end`

pub record Rest (before : List ℕ) (page : Page) (p : Played) (m : Memory) (left : ℕ) (s : List ℕ) (end : Play) : Type 0 where
  pub here : Play
  pub plays : Plays before page p m here
  pub rest : blocks left s here ≡ end

-- one more
goes_on : (s : List ℕ) (left : ℕ) (q : Play) → 0 < left → q.going ≡ true → ltb q.at (length s) ≡ true → blocks left s q ≡ blocks (left - 1) s (block s q)
unfolding blocks
goes_on s zero q h e f = absurd (omega arith)
goes_on s (suc k) q h e f =
    let one : k ≡ suc k - 1 = omega arith in
    ap (λ b. cond b (blocks k s (block s q)) q) (and_both q.going (ltb q.at (length s)) e f) ∙ ap (λ j. blocks j s (block s q)) one

-- it ended, or the text did
stays : (s : List ℕ) (left : ℕ) (q : Play) → (q.going && ltb q.at (length s)) ≡ false → blocks left s q ≡ q
unfolding blocks
stays s zero q e = refl
stays s (suc k) q e = rw e

and_no : (a b : Bool) → b ≡ false → (a && b) ≡ false
and_no true b e = e
and_no false b e = refl

module _ {before : List ℕ} {page : Page} {p : Played} {m : Memory} where
  same_going : {q : Play} → Plays before page p m q → q.going ≡ true
  same_going h = sym (ap (λ (x : Play). x.going) h.same)

  same_at : {q : Play} → Plays before page p m q → p.at ≡ q.at
  same_at h = ap (λ (x : Play). x.at) h.same

module _ {before : List ℕ} {page : Page} {p : Played} {m : Memory} {s : List ℕ} {end : Play} (left : ℕ) (h : Rest before page p m left s end) where
  pub rest_turn
      : {after : Page} {r : Played} {n : Memory} (less : ℕ)
      → less + 1 ≡ left
      → p.at < length s
      → Plays before after r n (block s h.here)
      → Rest before after r n less s end
  rest_turn less e f turn =
      let q : Play = h.here in
      let one : less ≡ left - 1 = omega arith in
      let l : ltb q.at (length s) ≡ true = lt-ltb q.at (length s) (omega (arith, same_at h.plays)) in
      record {
        here = block s q;
        plays = turn;
        rest = ap (λ j. blocks j s (block s q)) one ∙ sym (goes_on s left q (omega arith) (same_going h.plays) l) ∙ h.rest;
      }

  -- a wrong line ends them there
  pub rest_wrong : (k : ℕ) → 0 < left → p.at < length s → block s h.here ≡ wrong h.here k → wrong h.here k ≡ end
  rest_wrong k some f turn =
      let q : Play = h.here in
      let l : ltb q.at (length s) ≡ true = lt-ltb q.at (length s) (omega (arith, same_at h.plays)) in
      sym (stays s (left - 1) (wrong q k) refl)
      ∙ ap (blocks (left - 1) s) (sym turn)
      ∙ sym (goes_on s left q some (same_going h.plays) l)
      ∙ h.rest

  pub rest_none : left ≡ 0 → Plays before page p m end
  unfolding blocks
  rest_none e =
      let q : Play = h.here in
      subst (λ (x : Play). Plays before page p m x) (sym (ap (λ k. blocks k s q) e) ∙ h.rest) h.plays

  pub rest_read : length s ≤ p.at → Plays before page p m end
  rest_read e =
      let q : Play = h.here in
      let l : ltb q.at (length s) ≡ false = le-ltb q.at (length s) (omega (arith, same_at h.plays)) in
      let f : (q.going && ltb q.at (length s)) ≡ false = and_no q.going (ltb q.at (length s)) l in
      subst (λ (x : Play). Plays before page p m x) (sym (stays s left q f) ∙ h.rest) h.plays

-- the line of a wrong one is written behind what was printed
pub wrote_wrong
    : {before : List ℕ} {page : Page} (after : Page) {p : Played} {m : Memory} {q end : Play} (k : ℕ)
    → Plays before page p m q
    → wrong q k ≡ end
    → ((text : List ℕ) → Has before page text → Has before after (text ++ bad_line (p.line + k)))
    → Has before after end.said
wrote_wrong {before = before} after {p = p} {q = q} k h e f =
    let same : p.line ≡ q.line = ap (λ (x : Play). x.line) h.same in
    subst (λ (x : Play). Has before after x.said) e (subst (λ j. Has before after (q.said ++ bad_line (j + k))) same (f q.said h.wrote))

-- ---- the code's loop over blocks: s is the text, and what is marked ₀ is what it was called with

pub record Turning (s one₀ two₀ pool₀ : List ℕ) (page₀ : Page) (p₀ : Played) (one two pool : List ℕ) (page : Page) (p : Played) (left : ℕ) : Type 0 where
  pub goes
      : (before : List ℕ) (q : Play)
      → Plays before page₀ p₀ (memory one₀ two₀ pool₀) q
      → Rest before page p (memory one two pool) left s (blocks (length s) s q)
  pub lines : p.line + 4 * left ≤ 4 + 4 * length s
  pub sized : Sized p two
  pub kept_one : length one ≡ length one₀
  pub kept_two : length two ≡ length two₀
  pub kept_pool : length pool ≡ length pool₀
  pub kept_page : SameLoan page₀ page

pub sized_kept : (p r : Played) (two after : List ℕ) → Sized p two → r.size ≡ p.size → length after ≡ length two → Sized r after
sized_kept p r two after h e k = (omega arith, omega arith, k ∙ h.2 ∙ ap (need_two false) (sym e))
