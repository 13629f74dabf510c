-- The numbers of an opening; and the record that its parts make, direct and indirect.
use Rattle.std.specs.Prelude.{◌≡◌, Bool, true, false, cond, ◌&&◌, List, ℕ, suc, ◌+◌, ◌*◌, ◌^◌, ◌≤◌, ◌<◌, length}
use Rattle.std.proofs.Common.{sym, ap, ap₂, ◌∙◌, arith, mul-suc, mul-le-mul, mul-le-mul_left, lt-ltb, le-ltb}
use Rattle.std.proofs.Math.Bool.{and-false}
use Rattle.lists.specs.Walk.{hop}
use Rattle.virtio.specs.declared.Buffer.{Buffer}
use Rattle.virtio.specs.Layout.{need_pool}
use Rattle.rules.specs.Record.{Tables, Queue}
use Rattle.rules.specs.Meaning.{WellFormed}
use Rattle.rules.specs.Calls.{add_direct, add_indirect, add_opened}
use Rattle.laws.specs.AddKeeps.{Addable}
use Rattle.views.specs.declared.Core.{Core}
use Rattle.views.specs.Tables.{tables_of, queue_of}
use Rattle.tables.specs.Stores.{with_desc, with_noted}
use Rattle.tables.specs.Ready.{Ready, small}
use Rattle.opens.specs.Given.{next_in, with_filled, with_copied, added_core}

-- m entries of slot h lie in the room for lists
pub slot_in : (n h m r : ℕ) → h < n → m ≤ n → n ≤ r → n * h + m ≤ r * r
slot_in n h m r l u w =
    let a : n * suc h ≤ n * n = mul-le-mul_left n l in
    let b : n * suc h ≡ n * h + n = mul-suc n h in
    let s : n * n ≤ r * r = mul-le-mul w w in
    omega arith

-- what the code of an opening with k buffers asks of numbers
pub record Opening (c : Core) (r k : ℕ) : Type 0 where
  pub head : c.free_head < c.n
  pub small : c.n ≤ 64
  pub used : c.num_used < c.n
  pub most : k ≤ c.n
  pub slot : c.n * c.free_head + k ≤ r * r
  pub low : c.n * c.free_head ≤ 4096
  pub pool : c.modes.indirect ≡ true → c.base + 16 * (c.n * c.free_head) < 2 ^ 64

pub opening : (c : Core) (r : ℕ) (words lens halves : List ℕ) (sides : List Bool) (bs : List Buffer) → Ready c r words lens halves sides
    → Addable (queue_of c (tables_of r words lens halves sides)) bs → Opening c r (length bs)
opening c r words lens halves sides bs s a =
    let w : WellFormed (queue_of c (tables_of r words lens halves sides)) = s.good.well in
    let n : (0 < c.n) × (c.n ≤ 64) = small c r words lens halves sides s in
    let m : length bs ≤ c.n = a.most in
    let h : c.free_head < c.n = w.free in
    let i : c.n * c.free_head + c.n ≤ c.n * c.n = slot_in c.n c.free_head c.n c.n h (omega arith) (omega arith) in
    let low : c.n * c.free_head + 0 ≤ 64 * 64 = slot_in c.n c.free_head 0 64 h (omega arith) n.1 in
    record {
      head = h;
      small = n.1;
      used = a.room;
      most = omega arith;
      slot = slot_in c.n c.free_head (length bs) r h (omega arith) s.within;
      low = omega arith;
      pool = λ t. (let b : c.base + need_pool c.n ≤ 2 ^ 64 = (w.pool t).within in omega arith);
    }

-- THE OPENINGS: descriptors filled, and their number noted; or one descriptor that refers to a list, 1 noted, and the list copied
module _ (c r : Core) (t u v : Tables) (k free : ℕ) (bs : List Buffer) (n : length bs ≡ k) where
  pub direct_opens : free ≡ hop (next_in t) k c.free_head → u ≡ with_filled t c.free_head bs → v ≡ with_noted u c.free_head k → r ≡ added_core c k free
      → queue_of r v ≡ add_direct (queue_of c t) bs
  direct_opens e f g h =
      ap₂ queue_of (h ∙ ap (added_core c k) e) (g ∙ ap (λ (x : Tables). with_noted x c.free_head k) f)
      ∙ ap (λ j. queue_of (added_core c j (hop (next_in t) j c.free_head)) (with_noted (with_filled t c.free_head bs) c.free_head j)) (sym n)

  pub list_opens : (w : Tables) → free ≡ next_in t c.free_head
      → u ≡ with_desc t c.free_head (record { addr = c.base + 16 * (c.n * c.free_head); len = 16 * k; flags = 4; next = free })
      → v ≡ with_noted u c.free_head 1 → w ≡ with_copied v (c.n * c.free_head) bs → r ≡ added_core c 1 free
      → queue_of r w ≡ add_indirect (queue_of c t) bs
  list_opens w e f g i h =
      ap₂ queue_of h (i ∙ ap (λ (x : Tables). with_copied x (c.n * c.free_head) bs) (g ∙ ap (λ (x : Tables). with_noted x c.free_head 1) f))
      ∙ ap₂ (λ j x. queue_of (added_core c 1 x) (with_copied (with_noted (with_desc t c.free_head (record { addr = c.base + 16 * (c.n * c.free_head); len = 16 * j; flags = 4; next = x })) c.free_head 1) (c.n * c.free_head) bs)) (sym n) e

-- which of the two: a list, where the mode has lists and it has two buffers or more
module _ (q : Queue) (bs : List Buffer) (k : ℕ) (n : length bs ≡ k) where
  pub opened_list : q.modes.indirect ≡ true → 1 < k → add_indirect q bs ≡ add_opened q bs
  opened_list e l = rw (e, lt-ltb 1 (length bs) (omega arith))

  pub opened_one : k ≤ 1 → add_direct q bs ≡ add_opened q bs
  opened_one l =
      sym (ap (λ t. cond (q.modes.indirect && t) (add_indirect q bs) (add_direct q bs)) (le-ltb 1 (length bs) (omega arith))
      ∙ ap (λ t. cond t (add_indirect q bs) (add_direct q bs)) (and-false q.modes.indirect))

  pub opened_direct : q.modes.indirect ≡ false → add_direct q bs ≡ add_opened q bs
  opened_direct e = rw e
