-- The clauses of a well-formed record that read the private tables, over the views of those tables: so the code that proves one of them over its lent
-- slices has proved the rule's.
use Rattle.std.specs.Prelude.{◌≡◌, Bool, true, false, ◌&&◌, ◌||◌, ltb, leb, eqb, get_or}
use Rattle.std.proofs.Math.Path.{refl, ap, ap₂, fun_ext}
use Rattle.std.proofs.Common.{◌∙◌, arith, ltb-true, leb-true}
use Rattle.std.proofs.Math.Bool.{not, cond}
use mathlib.Core.List.{List, [], ◌∷◌, ◌++◌, map}
use Prim.Native.Nat.{ℕ, ◌+◌, ◌-◌, ◌*◌, ◌/◌, ◌%◌, ◌^◌, ◌≤◌, ◌<◌}
use Rattle.std.proofs.lemmas.Bool.{not-false}
use Rattle.lists.specs.Index.{ahead}
use Rattle.lists.specs.PickLaws.{NoneOf, first_none, mem_all, every_true}
use Rattle.lists.specs.Tests.{and_left, and_right, and_six, implied}
use Rattle.lists.specs.Pick.{Test, ◌when◌, first, every, tally, one_if, rising}
use Rattle.lists.specs.Walk.{walk, walks, ending}
use Rattle.lists.specs.Once.{mem, once_each}
use Rattle.virtio.specs.declared.Desc.{Desc}
use Rattle.virtio.specs.declared.Buffer.{Buffer}
use Rattle.virtio.specs.Desc.{no_buffer, has_next, has_write, has_indirect, buffer_of}
use Rattle.virtio.specs.Chain.{all_outputs, in_order}
use Rattle.virtio.specs.Layout.{need_pool}
use Rattle.rules.specs.Record.{Queue, desc_of, next_of, buffers_of, slot_address, is_add}
use Rattle.rules.specs.WellFormed.{size_ok, base_ok, broken, no_empty, sound_list, listed, call_fits, every_head, named, call_ok, end_clause, indirect_clause, buffer_clause}
use Rattle.views.specs.declared.Core.{Core}
use Rattle.views.specs.Views.{at, goes, heads, refers, flagged, described, piece, buffers_at, size_at, Short}
use Rattle.views.specs.Tables.{of_table, of_lists, nexts_in, flags_in, noted_in, sides_in, desc_in, entry_in, tables_of, desc_is, entry_is, queue_of}

-- whether a list is sound depends on its buffers' lengths and sides alone
module _ (f g : ℕ → Buffer) (l : (i : ℕ) → (f i).len ≡ (g i).len) (o : (i : ℕ) → (f i).output ≡ (g i).output) where
  empty_alike : (xs : List ℕ) → no_empty (map f xs) ≡ no_empty (map g xs)
  unfolding no_empty
  empty_alike [] = refl
  empty_alike (x ∷ xs) = rw (l x, empty_alike xs)

  outputs_alike : (xs : List ℕ) → all_outputs (map f xs) ≡ all_outputs (map g xs)
  unfolding all_outputs
  outputs_alike [] = refl
  outputs_alike (x ∷ xs) = rw (o x, outputs_alike xs)

  order_alike : (xs : List ℕ) → in_order (map f xs) ≡ in_order (map g xs)
  unfolding in_order
  order_alike [] = refl
  order_alike (x ∷ xs) = rw (o x, outputs_alike xs, order_alike xs)

  sound_alike : (xs : List ℕ) → sound_list (map f xs) ≡ sound_list (map g xs)
  sound_alike xs = rw (empty_alike xs, order_alike xs)

either : (b : Bool) (x y x' y' : List Buffer) → sound_list x ≡ sound_list x' → sound_list y ≡ sound_list y' → sound_list (cond b x y) ≡ sound_list (cond b x' y')
either true x y x' y' e f = e
either false x y x' y' e f = f

module _ (c : Core) (r : ℕ) (words lens halves : List ℕ) (sides : List Bool) where
  abbrev q : Queue
  q = queue_of c (tables_of r words lens halves sides)

  abbrev next : List ℕ
  next = nexts_in r halves

  abbrev flags : List ℕ
  flags = flags_in r halves

  abbrev len : List ℕ
  len = of_table r lens

  abbrev noted : List ℕ
  noted = noted_in r halves

  -- the tables, as functions of the index
  descs : desc_of q ≡ desc_in r words lens halves sides
  descs = fun_ext (desc_is r words lens halves sides)

  kept : (λ j. get_or (tables_of r words lens halves sides).kept j no_buffer) ≡ entry_in r words lens halves sides
  kept = fun_ext (entry_is r words lens halves sides)

  pub nexts_view : every (λ i. ltb (next_of q i) c.n) c.n 0 ≡ every (λ i. ltb (at next i) c.n) c.n 0
  nexts_view = ap (λ (f : ℕ → Desc). every (λ i. ltb (f i).next c.n) c.n 0) descs

  pub next_at : (i : ℕ) → next_of q i ≡ at next i
  next_at i = ap (λ (d : Desc). d.next) (desc_is r words lens halves sides i)

  pub once_view : once_each c.n (named q) ≡ once_each c.n (walk (at next) (c.n - c.num_used) c.free_head ++ walks (at next) (at noted) c.n 0)
  unfolding tables_of
  once_view =
      ap (λ (f : ℕ → Desc). once_each c.n (walk (λ i. (f i).next) (c.n - c.num_used) c.free_head ++ walks (λ i. (f i).next) (at noted) c.n 0)) descs

  pub end_view : end_clause q ≡ every (λ h. not (heads c.n noted h) || ending (goes flags) (at next) (at noted h) h) c.n 0
  unfolding every_head tables_of
  end_view =
      ap (λ (f : ℕ → Desc). every (λ h. not (heads c.n noted h) || ending (λ i. has_next (f i)) (λ i. (f i).next) (at noted h) h) c.n 0) descs

  pub indirect_view : indirect_clause q
      ≡ every (λ h. not (heads c.n noted h) || (not (refers flags h) || listed c.modes.indirect c.n (slot_address q h) (described (at (of_table r words) h) (at len h) (at flags h)))) c.n 0
  unfolding every_head tables_of
  indirect_view =
      ap (λ (f : ℕ → Desc). every (λ h. not (heads c.n noted h) || (not (has_indirect (f h)) || listed c.modes.indirect c.n (slot_address q h) (f h))) c.n 0) descs

  -- the buffers at head h, by the tables and by the views, are sound or not alike
  sound_at_lem : (h : ℕ) → sound_list (buffers_of q h) ≡ sound_list (buffers_at c.n next flags len noted (of_lists r lens) (sides_in r sides) h)
  unfolding tables_of
  sound_at_lem h =
      ap₂ (λ (f : ℕ → Desc) (g : ℕ → Buffer). sound_list (cond (has_indirect (f h)) (map g (rising ((f h).len / 16) (c.n * h))) (map (λ i. buffer_of (f i)) (walk (λ i. (f i).next) (at noted h) h)))) descs kept
      ∙ either (refers flags h) _ _ _ _
      (sound_alike (entry_in r words lens halves sides) (λ j. piece (at (of_lists r lens) j) (get_or (sides_in r sides) j false)) (λ j. refl) (λ j. refl) (rising (at len h / 16) (c.n * h)))
      (sound_alike (λ i. buffer_of (desc_in r words lens halves sides i)) (λ i. piece (at len i) (has_write (flagged (at flags i)))) (λ i. refl) (λ i. refl) (walk (at next) (at noted h) h))

  pub buffer_view : buffer_clause q ≡ every (λ h. not (heads c.n noted h) || sound_list (buffers_at c.n next flags len noted (of_lists r lens) (sides_in r sides) h)) c.n 0
  unfolding every_head tables_of
  buffer_view = ap (λ (f : ℕ → Bool). every (λ h. not (heads c.n noted h) || f h) c.n 0) (fun_ext sound_at_lem)

  pub call_view : call_ok q c.call ≡ call_fits (heads c.n noted) (size_at flags len noted) (c.n - c.num_used) c.modes.event_idx c.call
  unfolding tables_of
  call_view =
      ap (λ (f : ℕ → Desc). call_fits (heads c.n noted) (λ h. cond (has_indirect (f h)) ((f h).len / 16) (at noted h)) (c.n - c.num_used) c.modes.event_idx c.call) descs

-- ---- the clauses in order, over the views

-- the ones that read no table
abbrev pub plain_tests : Core → List Test
plain_tests c =
    (1 when not (size_ok c.n))
    ∷ (2 when not (cond c.modes.indirect (base_ok c.base (need_pool c.n)) (eqb c.base 0)))
    ∷ (3 when not (leb c.num_used c.n))
    ∷ []

-- how the tables link: nexts, each descriptor named once, ends of chains
abbrev pub link_tests : Core → List ℕ → List ℕ → List ℕ → List Test
link_tests c next flags noted =
    (4 when not (ltb c.free_head c.n && every (λ i. ltb (at next i) c.n) c.n 0))
    ∷ (5 when not (once_each c.n (walk (at next) (c.n - c.num_used) c.free_head ++ walks (at next) (at noted) c.n 0)))
    ∷ (6 when not (every (λ h. not (heads c.n noted h) || ending (goes flags) (at next) (at noted h) h) c.n 0))
    ∷ []

-- what the heads say: indirect lists, buffers
abbrev pub head_tests : Core → List ℕ → List ℕ → List ℕ → List ℕ → List ℕ → List ℕ → List Bool → List Test
head_tests c next flags noted addr len lens sides =
    (7 when not (every (λ h. not (heads c.n noted h) || (not (refers flags h) || listed c.modes.indirect c.n (c.base + 16 * (c.n * h)) (described (at addr h) (at len h) (at flags h)))) c.n 0))
    ∷ (8 when not (every (λ h. not (heads c.n noted h) || sound_list (buffers_at c.n next flags len noted lens sides h)) c.n 0))
    ∷ []

-- the count of chains, and the open call
abbrev pub call_tests : Core → List ℕ → List ℕ → List ℕ → List Test
call_tests c flags len noted =
    (9 when not (eqb (ahead c.avail_idx c.last_used_idx + one_if (is_add c.call)) (tally (heads c.n noted) c.n 0)))
    ∷ (10 when not (call_fits (heads c.n noted) (size_at flags len noted) (c.n - c.num_used) c.modes.event_idx c.call))
    ∷ []

module _ (c : Core) (r : ℕ) (words lens halves : List ℕ) (sides : List Bool) where
  abbrev pub link_tests_in : List Test
  link_tests_in = link_tests c (nexts_in r halves) (flags_in r halves) (noted_in r halves)

  abbrev pub head_tests_in : List Test
  head_tests_in =
      head_tests c (nexts_in r halves) (flags_in r halves) (noted_in r halves) (of_table r words) (of_table r lens) (of_lists r lens) (sides_in r sides)

  abbrev pub call_tests_in : List Test
  call_tests_in = call_tests c (flags_in r halves) (of_table r lens) (noted_in r halves)

  -- THE LAW: the first broken clause of the record is the first broken one over the views
  pub broken_view : broken (queue_of c (tables_of r words lens halves sides)) ≡ first (plain_tests c ++ (link_tests_in ++ (head_tests_in ++ call_tests_in)))
  unfolding broken tables_of
  broken_view =
      rw (nexts_view c r words lens halves sides, once_view c r words lens halves sides, end_view c r words lens halves sides, indirect_view c r words lens halves sides, buffer_view c r words lens halves sides, call_view c r words lens halves sides)

-- ---- what a group of clauses shows where none of it is broken

pub record Plain (c : Core) : Type 0 where
  pub small : c.n ≤ 64
  pub pool : c.modes.indirect ≡ true → c.base + 16 * (c.n * c.n) ≤ 2 ^ 64
  pub used : c.num_used ≤ c.n

pub plain_shows : (c : Core) → first (plain_tests c) ≡ 0 → Plain c
unfolding size_ok
plain_shows c e =
    let t : NoneOf (plain_tests c) = first_none (plain_tests c) (omega arith) e in
    let s : mem c.n (1 ∷ 2 ∷ 4 ∷ 8 ∷ 16 ∷ 32 ∷ 64 ∷ []) ≡ true = not-false _ t.0 in
    let b : cond c.modes.indirect (base_ok c.base (need_pool c.n)) (eqb c.base 0) ≡ true = not-false _ t.1.0 in
    record {
      small = mem_all (λ n. n ≤ 64) c.n (1 ∷ 2 ∷ 4 ∷ 8 ∷ 16 ∷ 32 ∷ 64 ∷ []) (omega arith) s;
      pool = λ i. leb-true (c.base + need_pool c.n) (2 ^ 64) (and_right (eqb (c.base % 4096) 0) (leb (c.base + need_pool c.n) (2 ^ 64)) (rw i at b));
      used = leb-true c.num_used c.n (not-false _ t.1.1.0);
    }

pub record Linked (c : Core) (next : List ℕ) : Type 0 where
  pub free : c.free_head < c.n
  pub nexts : (i : ℕ) → i < c.n → at next i < c.n

pub links_show : (c : Core) (next : List ℕ) → (ltb c.free_head c.n && every (λ i. ltb (at next i) c.n) c.n 0) ≡ true → Linked c next
links_show c next e = record {
  free = ltb-true c.free_head c.n (and_left (ltb c.free_head c.n) (every (λ i. ltb (at next i) c.n) c.n 0) e);
  nexts = λ i l. ltb-true (at next i) c.n (every_true (λ j. ltb (at next j) c.n) c.n 0 (and_right (ltb c.free_head c.n) (every (λ j. ltb (at next j) c.n) c.n 0) e) i (omega arith) (omega arith));
}

pub heads_show : (c : Core) (addr len flags noted : List ℕ)
    → every (λ h. not (heads c.n noted h) || (not (refers flags h) || listed c.modes.indirect c.n (c.base + 16 * (c.n * h)) (described (at addr h) (at len h) (at flags h)))) c.n 0 ≡ true
    → Short c.n flags len noted
heads_show c addr len flags noted e = record { most = each }
  where
    head : ℕ → Bool
    head h = listed c.modes.indirect c.n (c.base + 16 * (c.n * h)) (described (at addr h) (at len h) (at flags h))

    each : (h : ℕ) → heads c.n noted h ≡ true → refers flags h ≡ true → at len h / 16 ≤ c.n
    each h o f =
        let l : h < c.n = ltb-true h c.n (and_left (ltb h c.n) (not (eqb (at noted h) 0)) o) in
        let a : (not (refers flags h) || head h) ≡ true =
        implied (heads c.n noted h) (not (refers flags h) || head h) (every_true (λ i. not (heads c.n noted i) || (not (refers flags i) || head i)) c.n 0 e h (omega arith) (omega arith)) o in
        let b = and_six c.modes.indirect (eqb (at flags h) 4) (eqb (at addr h) (c.base + 16 * (c.n * h))) (leb 2 (at len h / 16)) (leb (at len h / 16) c.n) (eqb (at len h) (16 * (at len h / 16))) (implied (refers flags h) (head h) a f) in
        leb-true (at len h / 16) c.n b.4
