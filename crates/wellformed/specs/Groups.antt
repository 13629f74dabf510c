-- The groups of clauses in order, over the sections of the lent words: which sections the parts from one bound to another are, how long they are once the plain
-- clauses hold, what the links show of the nexts, what the tables by field say of a group, and which group tells the first broken clause.
use Rattle.std.specs.Prelude.{◌≡◌, refl, Bool, true, false, not, cond, ◌&&◌, List, [], ◌∷◌, ◌++◌, ℕ, ◌+◌, ◌-◌, ◌*◌, ◌≤◌, length, take, drop}
use Rattle.std.proofs.Common.{sym, ◌∙◌, true≢false, mul-le-mul, arith, length-take, length-drop}
use Rattle.std.proofs.lemmas.Bool.{false≢true, not-false}
use Rattle.lists.specs.Pick.{Test, ◌when◌, first}
use Rattle.lists.specs.PickLaws.{Numbered, first_none, first_then, first_stops}
use Rattle.rules.specs.WellFormed.{broken}
use Rattle.views.specs.declared.Core.{Core}
use Rattle.views.specs.Views.{Closed}
use Rattle.views.specs.declared.by_field.Fields.{Fields}
use Rattle.tables.specs.declared.TablesRef.{TablesRef}
use Rattle.wellformed.specs.declared.clause.Clause.{Clause}
use Rattle.wellformed.specs.declared.clause.Clause.TheVariants.{Size, Base, Used, Next, Once, End, Indirect, Buffer, Count, Call}
use Rattle.wellformed.specs.Numbers.{number_of}
use Rattle.wellformed.specs.Parts.{IsBy}
use Rattle.wellformed.specs.Room.{Room}
use Rattle.views.specs.Tables.{of_table, of_lists, nexts_in, flags_in, noted_in, sides_in, tables_of, queue_of}
use Rattle.views.specs.Clauses.{plain_tests, link_tests, head_tests, call_tests, link_tests_in, head_tests_in, call_tests_in, broken_view, links_show}

-- the parts from one bound to another are sections
pub flags_part : (r : ℕ) (halves : List ℕ) → take (2 * r - r) (drop r halves) ≡ flags_in r halves
flags_part r halves = let e : 2 * r - r ≡ r = omega arith in rw e

pub noted_part : (r : ℕ) (halves : List ℕ) → take (3 * r - 2 * r) (drop (2 * r) halves) ≡ noted_in r halves
noted_part r halves = let e : 3 * r - 2 * r ≡ r = omega arith in rw e

pub lists_part : (r : ℕ) (lens : List ℕ) → take (r + r * r - r) (drop r lens) ≡ of_lists r lens
lists_part r lens = let e : r + r * r - r ≡ r * r = omega arith in rw e

-- the links hold, so the nexts lead below n
pub links_close : (c : Core) (next flags noted : List ℕ) → c.n ≤ length next → first (link_tests c next flags noted) ≡ 0 → Closed c.n next
links_close c next flags noted l e = record {
  room = l;
  nexts = (links_show c next (not-false _ (first_none (link_tests c next flags noted) (omega arith) e).0)).nexts;
}

-- the first of the link tests, by what the walk found: one of the first two is broken; or neither is
abbrev pub linked : Bool → Bool → Bool → List Test
linked nexts once ends = (4 when not nexts) ∷ (5 when not once) ∷ (6 when not ends) ∷ []

pub by_unnamed : (nexts once ends : Bool) → (nexts && once) ≡ false → cond nexts 5 4 ≡ first (linked nexts once ends)
by_unnamed false once ends e = refl
by_unnamed true false ends e = refl
by_unnamed true true ends e = absurd (true≢false e)

pub by_named : (nexts once ends : Bool) → (nexts && once) ≡ true → first (linked nexts once ends) ≡ cond ends 0 6
by_named false once ends e = absurd (false≢true e)
by_named true false ends e = absurd (false≢true e)
by_named true true true e = refl
by_named true true false e = refl

-- the first of two groups that is broken, where the first is not
passes : (ts us : List Test) → Numbered ts → first ts ≡ 0 → first (ts ++ us) ≡ first us
passes ts us h e = first_then ts us (first_none ts h e)

module _ (c : Core) (r : ℕ) (words lens halves : List ℕ) (sides : List Bool) where
  -- each section has room for the record's n
  pub record Sections : Type 0 where
    pub nexts : c.n ≤ length (nexts_in r halves)
    pub flags : c.n ≤ length (flags_in r halves)
    pub noted : c.n ≤ length (noted_in r halves)
    pub addrs : c.n ≤ length (of_table r words)
    pub lengths : c.n ≤ length (of_table r lens)
    pub lists : c.n * c.n ≤ length (of_lists r lens)
    pub kept : c.n * c.n ≤ length (sides_in r sides)

  pub sections : Room c r words lens halves sides → first (plain_tests c) ≡ 0 → Sections
  sections room e =
      let fits : c.n ≤ r = room.enough (not-false _ (first_none (plain_tests c) (omega arith) e).0) in
      let square : c.n * c.n ≤ r * r = mul-le-mul fits fits in
      record {
        nexts = simp (length-take, length-drop) (omega arith);
        flags = simp (length-take, length-drop) (omega arith);
        noted = simp (length-take, length-drop) (omega arith);
        addrs = simp (length-take, length-drop) (omega arith);
        lengths = simp (length-take, length-drop) (omega arith);
        lists = simp (length-take, length-drop) (omega arith);
        kept = simp (length-take, length-drop) (omega arith);
      }

  abbrev plain : List Test
  plain = plain_tests c

  abbrev links : List Test
  links = link_tests_in c r words lens halves sides

  abbrev heads : List Test
  heads = head_tests_in c r words lens halves sides

  abbrev call : List Test
  call = call_tests_in c r words lens halves sides

  abbrev is : ℕ
  is = broken (queue_of c (tables_of r words lens halves sides))

  view : is ≡ first (plain ++ (links ++ (heads ++ call)))
  view = broken_view c r words lens halves sides

  -- the first broken clause is that of the first group that has one: k is what a group told
  pub by_plain : {k : ℕ} → k ≡ first plain → (k ≡ 0 → ⊥) → k ≡ is
  by_plain e z = e ∙ sym (view ∙ first_stops plain (links ++ (heads ++ call)) (λ n. z (e ∙ n)))

  module _ (p : first plain ≡ 0) where
    past_plain : is ≡ first (links ++ (heads ++ call))
    past_plain = view ∙ passes plain (links ++ (heads ++ call)) (omega arith) p

    pub by_links : {k : ℕ} → k ≡ first links → (k ≡ 0 → ⊥) → k ≡ is
    by_links e z = e ∙ sym (past_plain ∙ first_stops links (heads ++ call) (λ n. z (e ∙ n)))

    module _ (l : first links ≡ 0) where
      past_links : is ≡ first (heads ++ call)
      past_links = past_plain ∙ passes links (heads ++ call) (omega arith) l

      pub by_heads : {k : ℕ} → k ≡ first heads → (k ≡ 0 → ⊥) → k ≡ is
      by_heads e z = e ∙ sym (past_links ∙ first_stops heads call (λ n. z (e ∙ n)))

      pub by_call : {k : ℕ} → first heads ≡ 0 → k ≡ first call → k ≡ is
      by_call h e = e ∙ sym (past_links ∙ passes heads call (omega arith) h)

-- the last test of a group, as the code asks it
pub last_asked : (k : ℕ) (b : Bool) → cond b 0 k ≡ first ((k when not b) ∷ [])
last_asked k true = refl
last_asked k false = refl

-- a clause has a number that is not 0
pub numbered : (k : Clause) → number_of k ≡ 0 → ⊥
numbered Size = λ e. omega arith
numbered Base = λ e. omega arith
numbered Used = λ e. omega arith
numbered Next = λ e. omega arith
numbered Once = λ e. omega arith
numbered End = λ e. omega arith
numbered Indirect = λ e. omega arith
numbered Buffer = λ e. omega arith
numbered Count = λ e. omega arith
numbered Call = λ e. omega arith

-- ---- the groups over the tables by field are the groups over the sections
module _ (c : Core) (t : TablesRef) (f : Fields) (h : IsBy c.n t f) where
  pub links_by : first (link_tests c f.next.now f.flags.now f.noted.now) ≡ first (link_tests_in c t.room t.words.now t.lens.now t.halves.now t.sides.now)
  links_by = rw (h.nexts, h.flags, h.noted)

  pub heads_by : first (head_tests c f.next.now f.flags.now f.noted.now f.addr.now f.len.now f.lens.now f.sides.now) ≡ first (head_tests_in c t.room t.words.now t.lens.now t.halves.now t.sides.now)
  heads_by = rw (h.nexts, h.flags, h.noted, h.addrs, h.lengths, h.lists, h.kept)

  pub call_by : first (call_tests c f.flags.now f.len.now f.noted.now) ≡ first (call_tests_in c t.room t.words.now t.lens.now t.halves.now t.sides.now)
  call_by = rw (h.flags, h.noted, h.lengths)
