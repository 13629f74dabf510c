-- How a device reads filled descriptors by VIRTIO's rules: a table that holds a list's buffers along links, or one descriptor that refers to such a table, means
-- the list.
use Rattle.std.specs.Prelude.{◌≡◌, cond, ◌&&◌, leb, length, get_or, drop}
use Rattle.std.proofs.Math.Path.{refl, ap, ap₂}
use Rattle.std.proofs.Common.{sym, ◌∙◌, arith, lt-ltb, le-leb, eq-eqb}
use Rattle.std.proofs.Math.Bool.{true, false, not}
use mathlib.Core.List.{List, [], ◌∷◌, map, map-map}
use Prim.Native.Nat.{ℕ, zero, suc, ◌+◌, ◌-◌, ◌*◌, ◌/◌, ◌%◌, ◌≤◌, ◌<◌}
use Rattle.std.proofs.lemmas.Bool.{not-true}
use Rattle.std.proofs.lemmas.List.{length-map}
use Rattle.lists.specs.Tests.{and_left, and_right, and_both}
use Rattle.lists.specs.Walk.{hop, walk, map_walk}
use Rattle.virtio.specs.declared.Desc.{Desc}
use Rattle.virtio.specs.declared.Buffer.{Buffer}
use Rattle.virtio.specs.Desc.{no_buffer, has_next, has_indirect, buffer_of}
use Rattle.virtio.specs.Memory.{Memory}
use Rattle.virtio.specs.Chain.{in_order, lost, found, before, follow, no_indirect, as_list, table_desc, list_desc, list_ok, list_of, expand, expanded, faulty, buffers, meant, chain_at}
use Rattle.rules.specs.Calls.{filled, more?}
use Rattle.laws.specs.FillLaws.{filled_buffer, filled_next, filled_direct}

-- a chain of one descriptor
follow_one : (table : ℕ → Desc) (n fuel i : ℕ) → i < n → 0 < fuel → has_next (table i) ≡ false → follow table n fuel i ≡ found (table i ∷ [])
unfolding follow
follow_one table n zero i u l e = absurd (omega arith)
follow_one table n (suc fuel) i u l e = rw (lt-ltb i n u, e)

-- ---- a table that holds a list along links

module _ (table : ℕ → Desc) (next : ℕ → ℕ) where
  -- the entries from i on hold the buffers of bs
  abbrev pub Holds : ℕ → List Buffer → Type 0
  Holds i bs =
      (j : ℕ) → j < length bs → table (hop next j i) ≡ filled (get_or bs j no_buffer) (more? (drop (suc j) bs)) (next (hop next j i))

  holds_first : (i : ℕ) (b : Buffer) (bs : List Buffer) → Holds i (b ∷ bs) → table i ≡ filled b (more? bs) (next i)
  unfolding hop
  holds_first i b bs h = h 0 (omega arith)

  holds_rest : (i : ℕ) (b : Buffer) (bs : List Buffer) → Holds i (b ∷ bs) → Holds (next i) bs
  unfolding hop
  holds_rest i b bs h j l = h (suc j) (omega arith)

  -- those entries; they are found, and no others
  abbrev entries : ℕ → List Buffer → List Desc
  entries i bs = map table (walk next (length bs) i)

  followed : (n fuel i : ℕ) (bs : List Buffer) → ((j : ℕ) → j < length bs → hop next j i < n) → 0 < length bs → length bs ≤ fuel → Holds i bs
      → follow table n fuel i ≡ found (entries i bs)
  unfolding follow walk hop
  followed n fuel i [] u s l h = absurd (omega arith)
  followed n zero i (b ∷ bs) u s l h = absurd (omega arith)
  followed n (suc fuel) i (b ∷ []) u s l h =
      follow_one table n (suc fuel) i (u 0 (omega arith)) (omega arith) (ap has_next (holds_first i b [] h) ∙ filled_next b false (next i))
  followed n (suc fuel) i (b ∷ c ∷ bs) u s l h =
      let d : table i ≡ filled b true (next i) = holds_first i b (c ∷ bs) h in
      let e : has_next (table i) ≡ true = ap has_next d ∙ filled_next b true (next i) in
      let r : follow table n fuel (next i) ≡ found (entries (next i) (c ∷ bs)) = followed n fuel (next i) (c ∷ bs) (λ j v. u (suc j) (omega arith)) (omega arith) (omega arith) (holds_rest i b (c ∷ bs) h) in
      rw (lt-ltb i n (u 0 (omega arith)), e) (ap (λ x. before (table i) (follow table n fuel x.next)) d ∙ ap (before (table i)) r)

  -- none of them refers to a table, and their buffers are the list
  holds_direct : (i : ℕ) (bs : List Buffer) → Holds i bs → no_indirect (entries i bs) ≡ true
  unfolding no_indirect walk
  holds_direct i [] h = refl
  holds_direct i (b ∷ bs) h =
      let d : has_indirect (table i) ≡ false = ap has_indirect (holds_first i b bs h) ∙ filled_direct b (more? bs) (next i) in
      ap₂ (λ x y. not x && y) d (holds_direct (next i) bs (holds_rest i b bs h))

  holds_buffers : (i : ℕ) (bs : List Buffer) → Holds i bs → map buffer_of (entries i bs) ≡ bs
  holds_buffers i bs h =
      map-map buffer_of table (walk next (length bs) i)
      ∙ map_walk next (λ x. buffer_of (table x)) no_buffer bs i
      (λ j l. ap buffer_of (h j l) ∙ filled_buffer (get_or bs j no_buffer) (more? (drop (suc j) bs)) (next (hop next j i)))

-- ---- what is found, and what it means

-- descriptors that refer to no table stand for themselves; where they hold a list's buffers, they mean it
expand_direct : (base : ℕ) (m : Memory) (ds : List Desc) → no_indirect ds ≡ true → expand base m ds ≡ found ds
unfolding no_indirect expand
expand_direct base m [] e = refl
expand_direct base m (d ∷ ds) e =
    let f : has_indirect d ≡ false = not-true (has_indirect d) (and_left (not (has_indirect d)) (no_indirect ds) e) in
    rw f (ap (before d) (expand_direct base m ds (and_right (not (has_indirect d)) (no_indirect ds) e)))

meant_list : (n : ℕ) (ds : List Desc) (bs : List Buffer) → map buffer_of ds ≡ bs → length bs ≤ n → in_order bs ≡ true → meant n (found ds) ≡ buffers bs
meant_list n ds bs e l o =
    let k : length ds ≡ length bs = sym (length-map ds buffer_of) ∙ ap length e in
    ap₂ (λ t xs. cond t (buffers xs) faulty) (and_both (leb (length ds) n) (in_order (map buffer_of ds)) (le-leb (length ds) n (omega arith)) (ap in_order e ∙ o)) e

-- the descriptor that refers to a table of k entries, from entry slot of the pool on
abbrev pub list_at : ℕ → ℕ → ℕ → ℕ → Desc
list_at base slot k x = record { addr = base + 16 * slot; len = 16 * k; flags = 4; next = x }

-- a chain whose descriptors refer to no table; a head that alone refers to a table, which starts at an entry of the pool
abbrev pub Plain : ℕ → Memory → ℕ → Type 0
Plain n m h = (ds : List Desc) × (follow (table_desc m) n n h ≡ found ds) × (no_indirect ds ≡ true)

abbrev pub Listed : ℕ → ℕ → Memory → ℕ → Type 0
Listed n base m h = (slot : ℕ) × (k : ℕ) × (x : ℕ) × (follow (table_desc m) n n h ≡ found (list_at base slot k x ∷ []))

-- in such a table each entry leads to the one after it
pub hop_up : (j i : ℕ) → hop (λ x. x + 1) j i ≡ i + j
unfolding hop
hop_up zero i = omega arith
hop_up (suc j) i = hop_up j (i + 1) ∙ (omega arith)

-- so a table in the pool that holds a list is found
list_ok_lem : (base : ℕ) (m : Memory) (slot x k : ℕ) → 0 < k → 16 * slot + 16 * k ≤ length m.pool → list_ok base m (list_at base slot k x) ≡ true
list_ok_lem base m slot x k some r =
    rw (eq-eqb (16 * k % 16) 0 (omega arith), lt-ltb 0 (16 * k) (omega arith), le-leb base (base + 16 * slot) (omega arith), le-leb (base + 16 * slot - base + 16 * k) (length m.pool) (omega arith))

list_found : (base : ℕ) (m : Memory) (slot x : ℕ) (bs : List Buffer) → 0 < length bs → 16 * slot + 16 * length bs ≤ length m.pool
    → Holds (list_desc base m (base + 16 * slot)) (λ i. i + 1) 0 bs
    → list_of base m (list_at base slot (length bs) x) ≡ found (entries (list_desc base m (base + 16 * slot)) (λ i. i + 1) 0 bs)
unfolding list_of
list_found base m slot x bs some r t =
    let k : ℕ = length bs in
    let table : ℕ → Desc = list_desc base m (base + 16 * slot) in
    let e : 16 * k / 16 ≡ k = omega arith in
    let ok : list_ok base m (list_at base slot k x) ≡ true = list_ok_lem base m slot x k some r in
    ap (λ b. cond b (as_list (follow table (16 * k / 16) (16 * k / 16) 0)) lost) ok
    ∙ ap (λ j. as_list (follow table j j 0)) e
    ∙ ap as_list (followed table (λ i. i + 1) k k 0 bs (λ j l. let u : hop (λ i. i + 1) j 0 ≡ 0 + j = hop_up j 0 in omega arith) some (omega arith) t)
    ∙ ap (λ b. cond b (found (entries table (λ i. i + 1) 0 bs)) lost) (holds_direct table (λ i. i + 1) 0 bs t)

module _ (n base : ℕ) (m : Memory) (h : ℕ) (bs : List Buffer) (some : 0 < length bs) (most : length bs ≤ n) (order : in_order bs ≡ true) where
  -- THE LAW: a table that holds the list from the head on means it
  pub table_reads : (next : ℕ → ℕ) → ((j : ℕ) → j < length bs → hop next j h < n) → Holds (table_desc m) next h bs → chain_at n base m h ≡ buffers bs
  unfolding chain_at
  table_reads next u t =
      let ds : List Desc = entries (table_desc m) next h bs in
      ap (λ x. meant n (expanded base m x)) (followed (table_desc m) next n n h bs u some most t)
      ∙ ap (meant n) (expand_direct base m ds (holds_direct (table_desc m) next h bs t))
      ∙ meant_list n ds bs (holds_buffers (table_desc m) next h bs t) most order

  -- THE LAW: a head that refers to a table of the list's length in the pool, which holds the list, means it
  pub list_reads_lem : (slot x : ℕ) → h < n → table_desc m h ≡ list_at base slot (length bs) x → 16 * slot + 16 * length bs ≤ length m.pool
      → Holds (list_desc base m (base + 16 * slot)) (λ i. i + 1) 0 bs → chain_at n base m h ≡ buffers bs
  unfolding chain_at expand
  list_reads_lem slot x u e r t =
      let table : ℕ → Desc = list_desc base m (base + 16 * slot) in
      ap (λ y. meant n (expanded base m y)) (follow_one (table_desc m) n n h u (omega arith) (ap has_next e))
      ∙ ap (λ d. meant n (expand base m (d ∷ []))) e
      ∙ ap (meant n) (list_found base m slot x bs some r t)
      ∙ meant_list n (entries table (λ i. i + 1) 0 bs) bs (holds_buffers table (λ i. i + 1) 0 bs t) most order

  -- ---- how the descriptors stand in the table

  -- such a table's refer to no other table, and such a head stands alone
  pub table_plain : (next : ℕ → ℕ) → ((j : ℕ) → j < length bs → hop next j h < n) → Holds (table_desc m) next h bs → Plain n m h
  table_plain next u t =
      (entries (table_desc m) next h bs, followed (table_desc m) next n n h bs u some most t, holds_direct (table_desc m) next h bs t)

  pub list_listed : (slot x : ℕ) → h < n → table_desc m h ≡ list_at base slot (length bs) x → Listed n base m h
  list_listed slot x u e =
      (slot, length bs, x, follow_one (table_desc m) n n h u (omega arith) (ap has_next e) ∙ ap (λ d. found (d ∷ [])) e)

-- THE LAW: where they refer to no table, what the chain means does not depend on where the pool lies
pub plain_anywhere : (n base other : ℕ) (m : Memory) (h : ℕ) → Plain n m h → chain_at n base m h ≡ chain_at n other m h
unfolding chain_at
plain_anywhere n base other m h p =
    ap (λ f. meant n (expanded base m f)) p.1
    ∙ ap (meant n) (expand_direct base m p.0 p.2 ∙ sym (expand_direct other m p.0 p.2))
    ∙ ap (λ f. meant n (expanded other m f)) (sym p.1)
