-- No replay prints more than 131,072 bytes: a block prints at most 64, and one that goes on has at least 16. So in room for as many all is written.
use Rattle.std.specs.Prelude.{◌≡◌, Bool, ◌&&◌, ltb, eqb, length, take, drop}
use Rattle.std.proofs.Math.Path.{refl}
use Rattle.std.proofs.Common.{ap, ◌∙◌, pow-suc, arith, ltb-true, ltb-false, length-append, take_all}
use Rattle.std.proofs.Math.Bool.{true, false, cond}
use mathlib.Core.List.{List, [], ◌∷◌, ◌++◌}
use Prim.Native.Nat.{ℕ, zero, suc, ◌+◌, ◌-◌, ◌*◌, ◌/◌, ◌%◌, ◌^◌, ◌<◌, ◌≤◌}
use Rattle.std.proofs.lemmas.List.Edits.{sets, sets-eq}
use Rattle.std.proofs.lemmas.List.{take-append-le}
use Rattle.lists.specs.Tests.{by_test, and_left, and_right, either}
use Rattle.virtio.specs.declared.Buffer.{Buffer}
use Rattle.virtio.specs.Memory.{Memory}
use Rattle.rules.specs.Answer.{Outcome}
use Rattle.rules.specs.Record.{free_count}
use Rattle.rules.specs.WellFormed.{size_ok}
use Rattle.rules.specs.New.{Ask, Made, new, new_refusal, made, not_made}
use Rattle.rules.specs.Calls.{add, pop_used}
use Rattle.record.specs.Fine.{size_small}
use Rattle.text.specs.Text.{Found, stands, field, Listed, side}
use Rattle.print.specs.Words.{word_answer, word_value, word_steps, word_free, word_bad}
use Rattle.print.specs.Print.{decimal_of, decimal, field_line, report, bad_line, Written}
use Rattle.replay.specs.Words.{
  word_size,
  word_indirect,
  word_event,
  line_add,
  line_used,
  line_pop,
  word_in,
  word_out,
  word_id,
  word_len,
  word_token,
}
use Rattle.replay.specs.Replay.{
  Play,
  wrong,
  called,
  gave_back,
  add_block,
  used_block,
  pop_block,
  block,
  blocks,
  zeros,
  asked,
  opened,
  replayed,
  transcript,
}
use Rattle.replay.specs.Laws.{field_within}
use Rattle.replay.specs.Forward.{Inside, field_read, block_onward, will_go_on, blocks_stop}
use Rattle.replay.specs.Small.{SmallCall, add_small, pop_small}

-- ---- numbers and lines

-- a decimal is that of the tenth part, where there is one, and a digit
digit_more : (k x j : ℕ) → (10 ≤ x → length (decimal_of k (x / 10)) ≤ j) → length (decimal_of (suc k) x) ≤ suc j
unfolding decimal_of
digit_more k x j h =
    let last : List ℕ = (48 + x % 10) ∷ [] in
    let tens : List ℕ = cond (ltb x 10) [] (decimal_of k (x / 10)) in
    let few : length tens ≤ j =
    either (λ (l : List ℕ). length l ≤ j) (ltb x 10) [] (decimal_of k (x / 10)) (λ e. omega arith) (λ e. h (ltb-false x 10 e)) in
    omega (arith, length-append tens last)

-- a number below a power of ten has no more digits than that has zeros
decimal_short : (k j x : ℕ) → x < 10 ^ suc j → length (decimal_of k x) ≤ suc j
unfolding decimal_of
decimal_short zero j x h = omega arith
decimal_short (suc k) zero x h = digit_more k x zero (λ g. absurd (omega arith))
decimal_short (suc k) (suc j) x h = digit_more k x (suc j) (λ g. decimal_short k j (x / 10) (omega (arith, pow-suc 10 (suc j))))

-- and no number more than the most that are printed
decimal_long : (k x : ℕ) → length (decimal_of k x) ≤ k
unfolding decimal_of
decimal_long zero x = omega arith
decimal_long (suc k) x = digit_more k x k (λ g. decimal_long k (x / 10))

line_length : (key : List ℕ) (x : ℕ) → length (field_line key x) ≡ length key + length (decimal x) + 1
line_length key x = simp length-append

line_short : (key : List ℕ) (x j : ℕ) → x < 10 ^ suc j → length (field_line key x) ≤ length key + suc j + 1
line_short key x j h = omega (arith, line_length key x, decimal_short 20 j x h)

line_long : (key : List ℕ) (x : ℕ) → length (field_line key x) ≤ length key + 21
line_long key x = omega (arith, line_length key x, decimal_long 20 x)

-- the five lines of a call of a queue of at most 64
report_short : (op : List ℕ) (n : ℕ) (r : Outcome) → n ≤ 64 → SmallCall n r → length op ≡ 7 → length (report op r) ≤ 64
report_short op n r l h e =
    let a : List ℕ = field_line word_answer r.answer in
    let v : List ℕ = field_line word_value r.value in
    let t : List ℕ = field_line word_steps r.steps in
    let f : List ℕ = field_line word_free (free_count r.queue) in
    let all : length (op ++ a ++ v ++ t ++ f) ≡ length op + length a + length v + length t + length f = simp length-append in
    let fa : length a ≤ 7 + 2 + 1 = line_short word_answer r.answer 1 (omega (arith, h.small.answer)) in
    let fv : length v ≤ 6 + 21 = line_long word_value r.value in
    let ft : length t ≤ 6 + 2 + 1 = line_short word_steps r.steps 1 (omega (arith, h.steps)) in
    let ff : length f ≤ 5 + 2 + 1 = line_short word_free (free_count r.queue) 1 (omega (arith, h.small.size)) in
    omega arith

-- ---- blocks

-- a block prints at most 64 bytes, and keeps the queue's size
pub record Says (p q : Play) : Type 0 where
  pub said : length q.said ≤ length p.said + 64
  pub size : q.queue.n ≡ p.queue.n

module _ (s : List ℕ) (p : Play) (n : p.queue.n ≤ 64) where
  wrong_says : (k : ℕ) → Says p (wrong p k)
  wrong_says k =
      let b : length (bad_line (p.line + k)) ≤ 4 + 21 = line_long word_bad (p.line + k) in
      record { said = omega (arith, length-append p.said (bad_line (p.line + k))); size = refl }

  called_says : (op : List ℕ) (r : Outcome) (at k : ℕ) → SmallCall p.queue.n r → length op ≡ 7 → Says p (called p op r at k)
  called_says op r at k h e = record {
    said = omega (arith, length-append p.said (report op r), report_short op p.queue.n r n h e);
    size = h.small.size;
  }

  lists_say
      : (at : ℕ) (x y : Play) (f : List Buffer → ℕ → Play)
      → Says p x
      → Says p y
      → ((bs : List Buffer) (next : ℕ) → Says p (f bs next))
      → (let i : Listed = side word_in false s at [] in
      let o : Listed = side word_out true s i.at i.buffers in
      Says p (cond i.good (cond o.good (f o.buffers o.at) y) x))
  lists_say at x y f hx hy hf =
      let i : Listed = side word_in false s at [] in
      let o : Listed = side word_out true s i.at i.buffers in
      either
      (Says p)
      i.good
      (cond o.good (f o.buffers o.at) y)
      x
      (λ a. either (Says p) o.good (f o.buffers o.at) y (λ b. hf o.buffers o.at) (λ b. hy))
      (λ a. hx)

  add_says : (at : ℕ) → Says p (add_block s p at)
  unfolding add_block
  add_says at =
      lists_say
      at
      (wrong p 1)
      (wrong p 2)
      (λ bs next. called p line_add (add p.queue p.memory bs) next 3)
      (wrong_says 1)
      (wrong_says 2)
      (λ bs next. called_says line_add (add p.queue p.memory bs) next 3 (add_small p.queue p.memory bs) refl)

  used_says : (at : ℕ) → Says p (used_block s p at)
  unfolding used_block
  used_says at =
      let i : Found = field word_id (2 ^ 32 - 1) s at in
      let l : Found = field word_len (2 ^ 32 - 1) s i.at in
      let gave : Play = gave_back p i.value l.value l.at in
      either
      (Says p)
      i.ok
      (cond l.ok gave (wrong p 2))
      (wrong p 1)
      (λ a. either (Says p) l.ok gave (wrong p 2) (λ b. record { said = omega arith; size = refl }) (λ b. wrong_says 2))
      (λ a. wrong_says 1)

  pop_says : (at : ℕ) → Says p (pop_block s p at)
  unfolding pop_block
  pop_says at =
      let t : Found = field word_token (2 ^ 32 - 1) s at in
      let i : Listed = side word_in false s t.at [] in
      let o : Listed = side word_out true s i.at i.buffers in
      let r : List Buffer → Outcome = λ bs. pop_used p.queue p.memory t.value bs in
      let f : List Buffer → ℕ → Play = λ bs next. called p line_pop (r bs) next 4 in
      either
      (Says p)
      t.ok
      (cond i.good (cond o.good (f o.buffers o.at) (wrong p 3)) (wrong p 2))
      (wrong p 1)
      (λ a.
      lists_say
      t.at
      (wrong p 2)
      (wrong p 3)
      f
      (wrong_says 2)
      (wrong_says 3)
      (λ bs next. called_says line_pop (r bs) next 4 (pop_small p.queue p.memory bs t.value) refl))
      (λ a. wrong_says 1)

  pub block_says : Says p (block s p)
  unfolding block
  block_says =
      let c : Play = cond (stands line_pop s p.at) (pop_block s p (p.at + 7)) (wrong p 0) in
      let b : Play = cond (stands line_used s p.at) (used_block s p (p.at + 8)) c in
      either
      (Says p)
      (stands line_add s p.at)
      (add_block s p (p.at + 7))
      b
      (λ _. add_says (p.at + 7))
      (λ _.
      either
      (Says p)
      (stands line_used s p.at)
      (used_block s p (p.at + 8))
      c
      (λ _. used_says (p.at + 8))
      (λ _.
      either
      (Says p)
      (stands line_pop s p.at)
      (pop_block s p (p.at + 7))
      (wrong p 0)
      (λ _. pop_says (p.at + 7))
      (λ _. wrong_says 0)))

-- ---- blocks one after another: four bytes for each that is left to read, and 60 more where the last block stops at a wrong line

blocks_say
    : (k : ℕ) (s : List ℕ) (p : Play)
    → p.queue.n ≤ 64
    → length (blocks k s p).said ≤ length p.said + 4 * (length s - p.at) + 60
unfolding blocks
blocks_say zero s p n = omega arith
blocks_say (suc k) s p n =
    let q : Play = block s p in
    let says : Says p q = block_says s p n in
    either
    (λ (r : Play). length r.said ≤ length p.said + 4 * (length s - p.at) + 60)
    (will_go_on s p)
    (blocks k s q)
    p
    (λ e.
    let more : p.at < length s = ltb-true p.at (length s) (and_right p.going (ltb p.at (length s)) e) in
    by_test (will_go_on s q)
    (λ g.
    let on : Inside s (p.at + 16) q.at = block_onward s p (and_left q.going (ltb q.at (length s)) g) in
    omega (arith, says.said, blocks_say k s q (omega (arith, says.size))))
    (λ g. omega (arith, says.said, ap (λ (r : Play). length r.said) (blocks_stop s k q g))))
    (λ e. omega arith)

-- ---- the whole

-- new keeps the size that it was asked for, or makes a record of none
opened_size : (n : ℕ) (indirect event : Bool) (at : ℕ) (said : List ℕ) → n ≤ 64 → (opened n indirect event at said).queue.n ≤ 64
unfolding new
opened_size n indirect event at said h =
    let a : Ask = asked n indirect event in
    let m : Memory = zeros indirect n in
    let refusal : ℕ = new_refusal a (length m.one) (length m.two) (length m.pool) in
    either (λ (r : Made). r.queue.n ≤ 64) (eqb refusal 0) (made a m) (not_made refusal m) (λ e. h) (λ e. omega arith)

replayed_most : (s : List ℕ) → length s ≤ 32768 → length (replayed s) ≤ 131072
unfolding replayed
replayed_most s h =
    let n : Found = field word_size 65535 s 0 in
    let i : Found = field word_indirect 1 s n.at in
    let e : Found = field word_event 1 s i.at in
    let one : List ℕ = field_line word_size n.value in
    let two : List ℕ = one ++ field_line word_indirect i.value in
    let three : List ℕ = two ++ field_line word_event e.value in
    let start : Play = opened n.value (eqb i.value 1) (eqb e.value 1) e.at three in
    let P : List ℕ → Type 0 = λ l. length l ≤ 131072 in
    let a : length one ≤ 5 + 5 + 1 = line_short word_size n.value 4 (omega (arith, field_within word_size 65535 s 0)) in
    let b : length (field_line word_indirect i.value) ≤ 9 + 1 + 1 =
    line_short word_indirect i.value 0 (omega (arith, field_within word_indirect 1 s n.at)) in
    let c : length (field_line word_event e.value) ≤ 6 + 1 + 1 =
    line_short word_event e.value 0 (omega (arith, field_within word_event 1 s i.at)) in
    let ab : length two ≡ length one + length (field_line word_indirect i.value) = length-append one (field_line word_indirect i.value) in
    let abc : length three ≡ length two + length (field_line word_event e.value) = length-append two (field_line word_event e.value) in
    let rest : List ℕ = (blocks (length s) s start).said in
    either
    P
    (n.ok && size_ok n.value)
    (cond i.ok (cond e.ok rest (two ++ bad_line 3)) (one ++ bad_line 2))
    (bad_line 1)
    (λ good.
    either
    P
    i.ok
    (cond e.ok rest (two ++ bad_line 3))
    (one ++ bad_line 2)
    (λ fine.
    either
    P
    e.ok
    rest
    (two ++ bad_line 3)
    (λ last.
    let x : Inside s (0 + 5 + 1) n.at = field_read word_size 65535 s 0 (and_left n.ok (size_ok n.value) good) in
    let y : Inside s (n.at + 9 + 1) i.at = field_read word_indirect 1 s n.at fine in
    let z : Inside s (i.at + 6 + 1) e.at = field_read word_event 1 s i.at last in
    let size : n.value ≤ 64 = size_small n.value (and_right n.ok (size_ok n.value) good) in
    omega (
      arith,
      blocks_say (length s) s start (opened_size n.value (eqb i.value 1) (eqb e.value 1) e.at three size),
    ))
    (λ last. omega (arith, length-append two (bad_line 3), line_long word_bad 3)))
    (λ fine. omega (arith, length-append one (bad_line 2), line_long word_bad 2)))
    (λ good. omega (arith, line_long word_bad 1))

-- the room that every replay has enough of
abbrev pub longest : ℕ
longest = 131072

-- THE LAW
pub transcript_bound : (s : List ℕ) → length (transcript s) ≤ longest
unfolding transcript
transcript_bound s =
    either
    (λ (l : List ℕ). length l ≤ longest)
    (ltb 32768 (length s))
    (bad_line 0)
    (replayed s)
    (λ e. omega (arith, line_long word_bad 0))
    (λ e. replayed_most s (ltb-false 32768 (length s) e))

-- ---- written

-- what was stored from the front is read back
front : (before text : List ℕ) → length text ≤ length before → take (length text) (sets before 0 text) ≡ text
front before text h =
    let rest : List ℕ = drop (0 + length text) before in
    ap (take (length text)) (sets-eq text before 0 (omega arith))
    ∙ take-append-le (length text) text rest (omega arith)
    ∙ take_all (length text) text (omega arith)

-- where there is room for the longest, all is written: as many bytes as are printed, and they are what is printed
pub all_written
    : {before after : List ℕ} {count : ℕ} (s : List ℕ)
    → longest ≤ length before
    → Written before after count (transcript s)
    → (count ≡ length (transcript s)) × (take count after ≡ transcript s)
all_written {before = before} {after = after} {count = count} s h w =
    let text : List ℕ = transcript s in
    let short : length text ≤ length before = omega (arith, transcript_bound s) in
    let fits : take (length before) text ≡ text = take_all (length before) text short in
    let long : count ≡ length text = w.count ∙ ap length fits in
    let stored : after ≡ sets before 0 text = w.bytes ∙ ap (λ (t : List ℕ). sets before 0 t) fits in
    (long, ap (λ (k : ℕ). take k after) long ∙ ap (take (length text)) stored ∙ front before text short)
