-- How large the numbers of an access are, in a record that has passed the check.
use Rattle.std.specs.Prelude.{◌≡◌, Bool, List, ℕ, suc, ◌+◌, ◌*◌, ◌%◌, ◌≤◌, ◌<◌}
use Rattle.std.proofs.Common.{mod-lt, mul-le-mul, mul-le-mul_left, mul-suc, arith}
use Rattle.lists.specs.Walk.{hop}
use Rattle.rules.specs.Record.{Queue, next_of, size_of}
use Rattle.rules.specs.Meaning.{Out}
use Rattle.laws.specs.FreeLaws.{size_most, hop_low}
use Rattle.views.specs.declared.Core.{Core}
use Rattle.views.specs.Tables.{tables_of, queue_of}
use Rattle.tables.specs.Ready.{Ready, small, square}

-- slot h of n slots of n entries ends among their n * n
slot_within : (n h i : ℕ) → h < n → i < n → n * h + i < n * n
slot_within n h i l u =
    let b : n * suc h ≤ n * n = mul-le-mul_left n l in
    let e : n * suc h ≡ n * h + n = mul-suc n h in
    omega arith

module _ {c : Core} {r : ℕ} {words lens halves : List ℕ} {sides : List Bool} (s : Ready c r words lens halves sides) where
  abbrev pub queue : Queue
  queue = queue_of c (tables_of r words lens halves sides)

  -- an index is at a ring's slot below n
  pub slot_below : (x : ℕ) → x % c.n < c.n
  slot_below x = mod-lt x (small c r words lens halves sides s).0

  -- links lead to descriptors
  pub landed : (at k i : ℕ) → at ≡ hop (next_of queue) k i → i < c.n → (at < c.n) × (at < r)
  landed at k i e l =
      let b : hop (next_of queue) k i < c.n = hop_low queue s.good.well i k l in
      let w : c.n ≤ r = s.within in
      (omega arith, omega arith)

  -- buffer i of an outstanding head: its number, and that of its list entry
  pub buffer_within : (h i : ℕ) → Out queue h → i < size_of queue h → (i < 64) × (c.n * h + i < c.n * c.n) × (c.n * h + i < r * r) × (c.n * h + i < 4096)
  buffer_within h i o l =
      let m : size_of queue h ≤ c.n = size_most queue s.good.well h o in
      let b : c.n * h + i < c.n * c.n = slot_within c.n h i o.below (omega arith) in
      let n : (0 < c.n) × (c.n ≤ 64) = small c r words lens halves sides s in
      let f : c.n * c.n ≤ 64 * 64 = mul-le-mul n.1 n.1 in
      let g : c.n * c.n ≤ r * r = square c r words lens halves sides s in
      (omega arith, b, omega arith, omega arith)
