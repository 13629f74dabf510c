-- What is read lies inside the text, and each block that goes on moves at least 16 bytes on, so that it is never the count of blocks that ends a replay.
use Rattle.std.specs.Prelude.{◌≡◌, Bool, ◌&&◌, ltb, leb, eqb, length, drop}
use Rattle.std.proofs.Math.Path.{refl, ap}
use Rattle.std.proofs.Common.{sym, ◌∙◌, ltb-true, ltb-false}
use Rattle.std.proofs.Math.Bool.{true, false, cond}
use Rattle.std.proofs.lemmas.Bool.{false≢true}
use mathlib.Core.List.{List, [], ◌∷◌, ◌++◌}
use Prim.Native.Nat.{ℕ, zero, suc, ◌+◌, ◌-◌, ◌*◌, ◌^◌, ◌<◌, ◌≤◌}
use native.Mathlib.Omega.{arith}
use Rattle.lists.specs.Tests.{by_test, and_left, and_right, and_both, either}
use Rattle.virtio.specs.declared.Buffer.{Buffer}
use Rattle.rules.specs.Calls.{add, pop_used}
use Rattle.text.specs.Words.{line_none, newline, comma, colon}
use Rattle.text.specs.Text.{
  Found,
  FoundEntry,
  stands,
  none,
  read,
  digit,
  digits_in,
  number_in,
  number,
  ended,
  field,
  Listed,
  listed,
  unlisted,
  entry_at,
  buffer_of,
  list_end,
  entries,
  side_from,
  side,
}
use Rattle.replay.specs.Words.{line_add, line_used, line_pop, word_in, word_out, word_id, word_len, word_token}
use Rattle.replay.specs.Replay.{Play, wrong, called, gave_back, add_block, used_block, pop_block, block, blocks}
use Rattle.replay.specs.Laws.{stands_long}

-- ---- numbers and lines

-- a number that was read ends behind where it was read from
abbrev Behind : ℕ → Found → Type 0
Behind from r = r.ok ≡ true → from ≤ r.at

digits_behind : (most : ℕ) (cs : List ℕ) (at v : ℕ) → Behind at (digits_in most cs at v)
unfolding digits_in
digits_behind most [] at v = λ e. omega arith
digits_behind most (c ∷ cs) at v =
    let w : ℕ = v * 10 + (c - 48) in
    either
    (Behind at)
    (digit c)
    (cond (leb w most) (digits_in most cs (suc at) w) none)
    (read v at)
    (λ d.
    either
    (Behind at)
    (leb w most)
    (digits_in most cs (suc at) w)
    none
    (λ l e. omega (arith, digits_behind most cs (suc at) w e))
    (λ l e. absurd (false≢true e)))
    (λ d e. omega arith)

number_behind : (most : ℕ) (cs : List ℕ) (at : ℕ) → Behind at (number_in most cs at)
unfolding number_in
number_behind most [] at = λ e. absurd (false≢true e)
number_behind most (c ∷ cs) at =
    let many : Found = digits_in most (c ∷ cs) at 0 in
    either
    (Behind at)
    (eqb c 48)
    (read 0 (suc at))
    (cond (digit c) many none)
    (λ z e. omega arith)
    (λ z. either (Behind at) (digit c) many none (λ d. digits_behind most (c ∷ cs) at 0) (λ d e. absurd (false≢true e)))

-- a place in the text, at or behind another
abbrev pub Inside : List ℕ → ℕ → ℕ → Type 0
Inside s from at = (from ≤ at) × (at ≤ length s)

-- a line's end is a byte of the text
line_ends : (s : List ℕ) (from at : ℕ) → from ≤ at → stands newline s at ≡ true → Inside s (from + 1) (suc at)
line_ends s from at h e = let l : 1 ≤ length s - at = stands_long newline s at e in (omega arith, omega arith)

abbrev Read : List ℕ → ℕ → Found → Type 0
Read s from r = r.ok ≡ true → Inside s from r.at

pub field_read : (key : List ℕ) (most : ℕ) (s : List ℕ) (at : ℕ) → Read s (at + length key + 1) (field key most s at)
field_read key most s at =
    let n : Found = number most s (at + length key) in
    let P : Found → Type 0 = Read s (at + length key + 1) in
    either
    P
    (stands key s at)
    (ended s n)
    none
    (λ k.
    either
    P
    (n.ok && stands newline s n.at)
    (read n.value (suc n.at))
    none
    (λ b e.
    line_ends
    s
    (at + length key)
    n.at
    (number_behind most (drop (at + length key) s) (at + length key) (and_left n.ok (stands newline s n.at) b))
    (and_right n.ok (stands newline s n.at) b))
    (λ b e. absurd (false≢true e)))
    (λ k e. absurd (false≢true e))

-- ---- lists of buffers

abbrev Told : List ℕ → ℕ → Listed → Type 0
Told s from r = r.good ≡ true → Inside s from r.at

entry_behind : (s : List ℕ) (at : ℕ) → (entry_at s at).ok ≡ true → at ≤ (entry_at s at).at
entry_behind s at =
    let a : Found = number (2 ^ 64 - 1) s at in
    either
    (Behind at)
    (a.ok && stands colon s a.at)
    (number (2 ^ 32 - 1) s (suc a.at))
    none
    (λ b e.
    omega (
      arith,
      number_behind (2 ^ 64 - 1) (drop at s) at (and_left a.ok (stands colon s a.at) b),
      number_behind (2 ^ 32 - 1) (drop (suc a.at) s) (suc a.at) e,
    ))
    (λ b e. absurd (false≢true e))

entries_told : (k : ℕ) (output : Bool) (s : List ℕ) (at : ℕ) (bs : List Buffer) → Told s (at + 1) (entries k output s at bs)
unfolding entries
entries_told zero output s at bs = λ e. absurd (false≢true e)
entries_told (suc k) output s at bs =
    let e : FoundEntry = entry_at s at in
    let more : List Buffer = bs ++ (buffer_of output e ∷ []) in
    let P : Listed → Type 0 = Told s (at + 1) in
    either
    P
    e.ok
    (cond (stands comma s e.at) (entries k output s (suc e.at) more) (list_end s e.at more))
    unlisted
    (λ o.
    either
    P
    (stands comma s e.at)
    (entries k output s (suc e.at) more)
    (list_end s e.at more)
    (λ c g.
    let rest : Inside s (suc e.at + 1) (entries k output s (suc e.at) more).at = entries_told k output s (suc e.at) more g in
    (omega (arith, entry_behind s at o), rest.1))
    (λ c.
    either
    P
    (stands newline s e.at)
    (listed more (suc e.at))
    unlisted
    (λ n g. line_ends s at e.at (entry_behind s at o) n)
    (λ n g. absurd (false≢true g))))
    (λ o g. absurd (false≢true g))

side_told : (key : List ℕ) (output : Bool) (s : List ℕ) (at : ℕ) (bs : List Buffer) → Told s (at + length key + 1) (side key output s at bs)
side_told key output s at bs =
    let from : ℕ = at + length key in
    let P : Listed → Type 0 = Told s (from + 1) in
    let some : Listed = cond (stands newline s from) (listed bs (suc from)) (entries 65 output s from bs) in
    either
    P
    (stands key s at)
    (side_from output s from bs)
    unlisted
    (λ k.
    either
    P
    (stands line_none s from)
    (listed bs (from + 5))
    some
    (λ n g. let l : 5 ≤ length s - from = stands_long line_none s from n in (omega arith, omega arith))
    (λ n.
    either
    P
    (stands newline s from)
    (listed bs (suc from))
    (entries 65 output s from bs)
    (λ l g. line_ends s from from (omega arith) l)
    (λ l. entries_told 65 output s from bs)))
    (λ k g. absurd (false≢true g))

-- ---- blocks

-- a block that goes on has at least 16 bytes: an add of no buffers
abbrev pub Onward : List ℕ → Play → Play → Type 0
Onward s p q = q.going ≡ true → Inside s (p.at + 16) q.at

module _ (s : List ℕ) (p : Play) where
  -- a block ends at a wrong line, or goes on where its second list ends
  lists_onward
      : (at : ℕ) (x y : Play) (f : List Buffer → ℕ → Play)
      → p.at + 7 ≤ at
      → x.going ≡ false
      → y.going ≡ false
      → ((bs : List Buffer) (next : ℕ) → (f bs next).at ≡ next)
      → (let i : Listed = side word_in false s at [] in
      let o : Listed = side word_out true s i.at i.buffers in
      Onward s p (cond i.good (cond o.good (f o.buffers o.at) y) x))
  lists_onward at x y f h ex ey place =
      let i : Listed = side word_in false s at [] in
      let o : Listed = side word_out true s i.at i.buffers in
      either
      (Onward s p)
      i.good
      (cond o.good (f o.buffers o.at) y)
      x
      (λ a.
      either
      (Onward s p)
      o.good
      (f o.buffers o.at)
      y
      (λ b g.
      let one : Inside s (at + 3 + 1) i.at = side_told word_in false s at [] a in
      let two : Inside s (i.at + 4 + 1) o.at = side_told word_out true s i.at i.buffers b in
      let here : (f o.buffers o.at).at ≡ o.at = place o.buffers o.at in
      (omega arith, omega arith))
      (λ b g. absurd (false≢true (sym ey ∙ g))))
      (λ a g. absurd (false≢true (sym ex ∙ g)))

  add_onward : Onward s p (add_block s p (p.at + 7))
  unfolding add_block
  add_onward =
      lists_onward
      (p.at + 7)
      (wrong p 1)
      (wrong p 2)
      (λ bs next. called p line_add (add p.queue p.memory bs) next 3)
      (omega arith)
      refl
      refl
      (λ bs next. refl)

  used_onward : Onward s p (used_block s p (p.at + 8))
  unfolding used_block
  used_onward =
      let i : Found = field word_id (2 ^ 32 - 1) s (p.at + 8) in
      let l : Found = field word_len (2 ^ 32 - 1) s i.at in
      either
      (Onward s p)
      i.ok
      (cond l.ok (gave_back p i.value l.value l.at) (wrong p 2))
      (wrong p 1)
      (λ a.
      either
      (Onward s p)
      l.ok
      (gave_back p i.value l.value l.at)
      (wrong p 2)
      (λ b g.
      let one : Inside s (p.at + 8 + 3 + 1) i.at = field_read word_id (2 ^ 32 - 1) s (p.at + 8) a in
      let two : Inside s (i.at + 4 + 1) l.at = field_read word_len (2 ^ 32 - 1) s i.at b in
      (omega arith, two.1))
      (λ b g. absurd (false≢true g)))
      (λ a g. absurd (false≢true g))

  pop_onward : Onward s p (pop_block s p (p.at + 7))
  unfolding pop_block
  pop_onward =
      let t : Found = field word_token (2 ^ 32 - 1) s (p.at + 7) in
      let i : Listed = side word_in false s t.at [] in
      let o : Listed = side word_out true s i.at i.buffers in
      let f : List Buffer → ℕ → Play = λ bs next. called p line_pop (pop_used p.queue p.memory t.value bs) next 4 in
      either
      (Onward s p)
      t.ok
      (cond i.good (cond o.good (f o.buffers o.at) (wrong p 3)) (wrong p 2))
      (wrong p 1)
      (λ a.
      let read : Inside s (p.at + 7 + 6 + 1) t.at = field_read word_token (2 ^ 32 - 1) s (p.at + 7) a in
      lists_onward t.at (wrong p 2) (wrong p 3) f (omega arith) refl refl (λ bs next. refl))
      (λ a g. absurd (false≢true g))

  -- THE LAW of a block
  pub block_onward : Onward s p (block s p)
  unfolding block
  block_onward =
      either
      (Onward s p)
      (stands line_add s p.at)
      (add_block s p (p.at + 7))
      (cond
      (stands line_used s p.at)
      (used_block s p (p.at + 8))
      (cond (stands line_pop s p.at) (pop_block s p (p.at + 7)) (wrong p 0)))
      (λ a. add_onward)
      (λ a.
      either
      (Onward s p)
      (stands line_used s p.at)
      (used_block s p (p.at + 8))
      (cond (stands line_pop s p.at) (pop_block s p (p.at + 7)) (wrong p 0))
      (λ b. used_onward)
      (λ b.
      either
      (Onward s p)
      (stands line_pop s p.at)
      (pop_block s p (p.at + 7))
      (wrong p 0)
      (λ c. pop_onward)
      (λ c g. absurd (false≢true g))))

-- ---- blocks one after another

module _ (s : List ℕ) where
  -- another block is read
  abbrev pub will_go_on : Play → Bool
  will_go_on p = p.going && ltb p.at (length s)

  pub blocks_stop : (k : ℕ) (p : Play) → will_go_on p ≡ false → blocks k s p ≡ p
  unfolding blocks
  blocks_stop zero p e = refl
  blocks_stop (suc k) p e = ap (λ b. cond b (blocks k s (block s p)) p) e

  pub blocks_go : (k : ℕ) (p : Play) → will_go_on p ≡ true → blocks (suc k) s p ≡ blocks k s (block s p)
  unfolding blocks
  blocks_go k p e = ap (λ b. cond b (blocks k s (block s p)) p) e

  has_more : (p : Play) → will_go_on p ≡ true → p.at < length s
  has_more p e = ltb-true p.at (length s) (and_right p.going (ltb p.at (length s)) e)

  -- after a block there is less to read
  less : (k : ℕ) (p : Play) → will_go_on p ≡ true → length s - p.at ≤ suc k → will_go_on (block s p) ≡ true → length s - (block s p).at ≤ k
  less k p e h g =
      let on : Inside s (p.at + 16) (block s p).at =
      block_onward s p (and_left (block s p).going (ltb (block s p).at (length s)) g) in
      let l : p.at < length s = has_more p e in
      omega arith

  -- THE LAWS of the fuel: as many blocks as there are bytes to read end the replay or its text, so that more of them make no difference
  pub all_read : (k : ℕ) (p : Play) → length s - p.at ≤ k → will_go_on (blocks k s p) ≡ false
  unfolding blocks
  all_read zero p h = by_test (will_go_on p) (λ e. absurd (omega (arith, has_more p e))) (λ e. e)
  all_read (suc k) p h =
      by_test (will_go_on p)
      (λ e. ap will_go_on (blocks_go k p e) ∙ by_test (will_go_on (block s p))
      (λ g. all_read k (block s p) (less k p e h g))
      (λ g. ap will_go_on (blocks_stop k (block s p) g) ∙ g))
      (λ e. ap will_go_on (blocks_stop (suc k) p e) ∙ e)

  pub enough : (j k : ℕ) (p : Play) → length s - p.at ≤ j → length s - p.at ≤ k → blocks j s p ≡ blocks k s p
  enough zero k p h i =
      by_test (will_go_on p)
      (λ e. absurd (omega (arith, has_more p e)))
      (λ e. blocks_stop zero p e ∙ sym (blocks_stop k p e))
  enough (suc j) zero p h i =
      by_test (will_go_on p)
      (λ e. absurd (omega (arith, has_more p e)))
      (λ e. blocks_stop (suc j) p e ∙ sym (blocks_stop zero p e))
  enough (suc j) (suc k) p h i =
      by_test (will_go_on p)
      (λ e. blocks_go j p e
      ∙ by_test (will_go_on (block s p))
      (λ g. enough j k (block s p) (less j p e h g) (less k p e i g))
      (λ g. blocks_stop j (block s p) g ∙ sym (blocks_stop k (block s p) g))
      ∙ sym (blocks_go k p e))
      (λ e. blocks_stop (suc j) p e ∙ sym (blocks_stop (suc k) p e))

  pub any_count : (k : ℕ) (p : Play) → length s ≤ k → blocks k s p ≡ blocks (length s) s p
  any_count k p h = enough k (length s) p (omega arith) (omega arith)

  -- and so it is read to its end, unless a line of it is wrong
  pub read_to_the_end : (p : Play) → (blocks (length s) s p).going ≡ true → length s ≤ (blocks (length s) s p).at
  read_to_the_end p e =
      let q : Play = blocks (length s) s p in
      let over : will_go_on q ≡ false = all_read (length s) p (omega arith) in
      by_test (ltb q.at (length s))
      (λ l. absurd (false≢true (sym over ∙ and_both q.going (ltb q.at (length s)) e l)))
      (λ l. ltb-false q.at (length s) l)
