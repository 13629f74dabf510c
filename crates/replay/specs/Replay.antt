-- THE REPLAY (document 01, "Replays, with one given whole"): what is printed, as a function of what is read. The layout is flexible and the pool's
-- base 0; the memory is as long as the layout needs it, and zero at first.
use Rattle.std.specs.Prelude.{Bool, true, false, cond, ◌&&◌, List, [], ◌++◌, ℕ, zero, suc, ◌+◌, ◌-◌, ◌%◌, ◌^◌, ltb, eqb, length, replicate}
use Rattle.lists.specs.Index.{after}
use Rattle.virtio.specs.Layout.{need_one, need_two, need_pool}
use Rattle.virtio.specs.Memory.{Memory, used_idx, used_id, used_len, spot, load_at, store_at}
use Rattle.rules.specs.WellFormed.{size_ok}
use Rattle.rules.specs.Answer.{Outcome}
use Rattle.rules.specs.Record.{Queue}
use Rattle.rules.specs.New.{Ask, Made, new}
use Rattle.rules.specs.Calls.{add, pop_used}
use Rattle.replay.specs.Words.{
  word_size,
  word_indirect,
  word_event,
  line_add,
  line_used,
  line_pop,
  word_in,
  word_out,
  word_id,
  word_len,
  word_token,
}
use Rattle.text.specs.Text.{Found, stands, field, Listed, side}
use Rattle.print.specs.Print.{field_line, report, bad_line}

-- A replay under way: the queue, its memory and size, where the text is read, the number of the line there, what was printed, and whether it goes on.
pub record Play : Type 0 where
  pub queue : Queue
  pub memory : Memory
  pub size : ℕ
  pub at : ℕ
  pub line : ℕ
  pub said : List ℕ
  pub going : Bool

-- the device gives back an element: id and length at used idx, and then idx + 1
unfoldable pub completed : ℕ → Memory → ℕ → ℕ → Memory
completed n m id len =
    let idx : ℕ = load_at (spot false n used_idx) m in
    let k : Memory = store_at (spot false n (used_id (idx % n))) id m in
    let l : Memory = store_at (spot false n (used_len (idx % n))) len k in
    store_at (spot false n used_idx) (after idx) l

module _ (p : Play) where
  -- the replay ends at a wrong line, so many lines on
  abbrev pub wrong : ℕ → Play
  wrong k = record {
    queue = p.queue;
    memory = p.memory;
    size = p.size;
    at = p.at;
    line = p.line;
    said = p.said ++ bad_line (p.line + k);
    going = false;
  }

  -- it goes on behind a block of so many lines, with what a call came to
  abbrev pub called : List ℕ → Outcome → ℕ → ℕ → Play
  called op r at k = record {
    queue = r.queue;
    memory = r.memory;
    size = p.size;
    at = at;
    line = p.line + k;
    said = p.said ++ report op r;
    going = true;
  }

  abbrev pub gave_back : ℕ → ℕ → ℕ → Play
  gave_back id len at = record {
    queue = p.queue;
    memory = completed p.size p.memory id len;
    size = p.size;
    at = at;
    line = p.line + 3;
    said = p.said;
    going = true;
  }

-- ---- blocks: s is the whole text, and the block's first line has been read up to `at`
module _ (s : List ℕ) (p : Play) where
  unfoldable pub add_block : ℕ → Play
  add_block at =
      let i : Listed = side word_in false s at [] in
      let o : Listed = side word_out true s i.at i.buffers in
      cond
      i.good
      (cond o.good (called p line_add (add p.queue p.memory o.buffers) o.at 3) (wrong p 2))
      (wrong p 1)

  unfoldable pub used_block : ℕ → Play
  used_block at =
      let i : Found = field word_id (2 ^ 32 - 1) s at in
      let l : Found = field word_len (2 ^ 32 - 1) s i.at in
      cond i.ok (cond l.ok (gave_back p i.value l.value l.at) (wrong p 2)) (wrong p 1)

  unfoldable pub pop_block : ℕ → Play
  pop_block at =
      let t : Found = field word_token (2 ^ 32 - 1) s at in
      let i : Listed = side word_in false s t.at [] in
      let o : Listed = side word_out true s i.at i.buffers in
      cond
      t.ok
      (cond
      i.good
      (cond
      o.good
      (called p line_pop (pop_used p.queue p.memory t.value o.buffers) o.at 4)
      (wrong p 3))
      (wrong p 2))
      (wrong p 1)

  unfoldable pub block : Play
  block =
      cond
      (stands line_add s p.at)
      (add_block (p.at + 7))
      (cond
      (stands line_used s p.at)
      (used_block (p.at + 8))
      (cond (stands line_pop s p.at) (pop_block (p.at + 7)) (wrong p 0)))

-- blocks until the text ends or a line is wrong; no text has more of them than bytes
unfoldable pub blocks : ℕ → List ℕ → Play → Play
blocks zero s p = p
blocks (suc k) s p = cond (p.going && ltb p.at (length s)) (blocks k s (block s p)) p

-- ---- the header: three lines, each printed once it is found good

abbrev pub zeros : Bool → ℕ → Memory
zeros indirect n = record {
  one = replicate (need_one false n) 0;
  two = replicate (need_two false n) 0;
  pool = replicate (cond indirect (need_pool n) 0) 0;
}

abbrev pub asked : ℕ → Bool → Bool → Ask
asked n indirect event = record {
  n = n;
  in_use = false;
  most = n;
  modes = record { indirect = indirect; event_idx = event; legacy = false };
  base_one = 0;
  base_two = 0;
  base_pool = 0;
}

-- the replay after a header of these numbers, that ends at `at`
abbrev pub opened : ℕ → Bool → Bool → ℕ → List ℕ → Play
opened n indirect event at said =
    let made : Made = new (asked n indirect event) (zeros indirect n) in
    record { queue = made.queue; memory = made.memory; size = n; at = at; line = 4; said = said; going = true }

unfoldable pub replayed : List ℕ → List ℕ
replayed s =
    let n : Found = field word_size 65535 s 0 in
    let i : Found = field word_indirect 1 s n.at in
    let e : Found = field word_event 1 s i.at in
    let one : List ℕ = field_line word_size n.value in
    let two : List ℕ = one ++ field_line word_indirect i.value in
    let three : List ℕ = two ++ field_line word_event e.value in
    cond
    (n.ok && size_ok n.value)
    (cond
    i.ok
    (cond
    e.ok
    (blocks (length s) s (opened n.value (eqb i.value 1) (eqb e.value 1) e.at three)).said
    (two ++ bad_line 3))
    (one ++ bad_line 2))
    (bad_line 1)

-- THE WHOLE: a text above 32,768 bytes is not read
unfoldable pub transcript : List ℕ → List ℕ
transcript s = cond (ltb 32768 (length s)) (bad_line 0) (replayed s)
