-- What the code asks of a checked record's chains, and its freed record put together from the parts that were stored.
use Rattle.std.specs.Prelude.{◌≡◌, refl, Bool, true, false, cond, List, ℕ, suc, ◌+◌, ◌-◌, ◌*◌, ◌/◌, ◌≤◌, ◌<◌, replicate}
use Rattle.std.proofs.Common.{ap, ap₂, ◌∙◌, subst, mul-le-mul, mul-le-mul_left, mul-suc, arith}
use Rattle.std.proofs.lemmas.List.Edits.{sets}
use Rattle.lists.specs.Tests.{by_test}
use Rattle.lists.specs.Pick.{one_if}
use Rattle.virtio.specs.declared.Desc.{Desc}
use Rattle.virtio.specs.declared.Buffer.{Buffer}
use Rattle.virtio.specs.Desc.{no_buffer, has_indirect}
use Rattle.rules.specs.declared.Open.TheVariants.{Add, PopStore}
use Rattle.rules.specs.Record.{Queue, Tables, desc_of, noted_of, is_indirect, entries_of, size_of}
use Rattle.rules.specs.Meaning.{Out, Adding, Storing, Named}
use Rattle.rules.specs.Step.{freed, stored_count}
use Rattle.laws.specs.FreeLaws.{noted_used, size_most}
use Rattle.views.specs.declared.Core.{Core}
use Rattle.views.specs.Tables.{tables_of, queue_of}
use Rattle.tables.specs.Stores.{with_noted}
use Rattle.tables.specs.Ready.{Ready, small, square}
use Rattle.react.specs.Reactions.{freed_core, unchained, cleared}

module _ (c : Core) (r : ℕ) (words lens halves : List ℕ) (sides : List Bool) (s : Ready c r words lens halves sides) where
  abbrev q : Queue
  q = queue_of c (tables_of r words lens halves sides)

  -- ---- a chain

  module _ (h : ℕ) (o : Out q h) where
    pub noted_most : (0 < noted_of q h) × (noted_of q h ≤ c.num_used) × (noted_of q h ≤ 64)
    noted_most =
        let m : noted_of q h ≤ c.num_used = noted_used q s.good.well h o.below in
        let u : c.num_used ≤ c.n = s.good.well.used in
        let n : c.n ≤ 64 = (small c r words lens halves sides s).1 in
        let z : (noted_of q h ≡ 0 → ⊥) = o.noted in
        (omega arith, m, omega arith)

    -- the list of an indirect one
    entries_most : is_indirect q h ≡ true → entries_of q h ≤ c.n
    entries_most e = (s.good.well.listed h o e).most

    pub size_below : size_of q h ≤ 64
    size_below =
        let m : size_of q h ≤ c.n = size_most q s.good.well h o in
        let n : c.n ≤ 64 = (small c r words lens halves sides s).1 in
        omega arith

    pub stored_most : (x : ℕ) → x ≡ stored_count q h → x ≤ 64
    stored_most x z =
        by_test (is_indirect q h)
        (λ e. let y : x ≡ 0 = z ∙ ap (λ b. cond b 0 (noted_of q h)) e in omega arith)
        (λ e. let y : x ≡ noted_of q h = z ∙ ap (λ b. cond b 0 (noted_of q h)) e in let m : noted_of q h ≤ 64 = noted_most.2 in omega arith)

    -- its slot lies in the room
    slot_most : c.n * h + c.n ≤ c.n * c.n
    slot_most =
        let m : c.n * suc h ≤ c.n * c.n = mul-le-mul_left c.n o.below in
        let e : c.n * suc h ≡ c.n * h + c.n = mul-suc c.n h in
        omega arith

    pub slot_small : c.n * h ≤ 4096
    slot_small =
        let n : c.n ≤ 64 = (small c r words lens halves sides s).1 in
        let m : c.n * c.n ≤ 64 * 64 = mul-le-mul n n in
        let f : c.n * h + c.n ≤ c.n * c.n = slot_most in
        omega arith

    pub list_fits : (d : Desc) (x : ℕ) → d ≡ desc_of q h → x ≡ cond (has_indirect d) (d.len / 16) 0 → c.n * h + x ≤ r * r
    list_fits d x e z =
        let y : x ≡ cond (is_indirect q h) (entries_of q h) 0 = z ∙ ap (λ (w : Desc). cond (has_indirect w) (w.len / 16) 0) e in
        let m : c.n * c.n ≤ r * r = square c r words lens halves sides s in
        let f : c.n * h + c.n ≤ c.n * c.n = slot_most in
        by_test (is_indirect q h)
        (λ t. let g : x ≡ entries_of q h = y ∙ ap (λ b. cond b (entries_of q h) 0) t in let k : entries_of q h ≤ c.n = entries_most t in omega arith)
        (λ t. let g : x ≡ 0 = y ∙ ap (λ b. cond b (entries_of q h) 0) t in omega arith)

  -- ---- the open call

  pub adding : {h i : ℕ} → c.call ≡ Add h i → Adding q h i
  adding e = subst (λ x. Named q x) e s.good.well.call

  pub storing : {k i l : ℕ} → c.call ≡ PopStore k i l → (k ≤ 64) × (i ≤ 64)
  storing {k} {i} e =
      let a : Storing q k i = subst (λ x. Named q x) e s.good.well.call in
      let n : c.n ≤ 64 = (small c r words lens halves sides s).1 in
      let f : k ≤ c.n - c.num_used = a.free in
      let m : i < k + one_if c.modes.event_idx = a.step in
      let b : one_if c.modes.event_idx ≤ 1 = one_most c.modes.event_idx in
      (omega arith, omega arith)
    where
      one_most : (b : Bool) → one_if b ≤ 1
      one_most true = omega arith
      one_most false = omega arith

-- ---- the freed record

sets_if : (b : Bool) (l : List Buffer) (a k : ℕ) → sets l a (replicate (cond b k 0) no_buffer) ≡ cond b (sets l a (replicate k no_buffer)) l
sets_if true l a k = refl
sets_if false l a k = refl

module _ (c : Core) (t : Tables) (h : ℕ) where
  -- as the code makes it, of a chain of k descriptors with so many list entries
  abbrev parts : ℕ → ℕ → Tables
  parts k x = cleared (with_noted (unchained t h k c.free_head) h 0) (c.n * h) x

  whole : queue_of (freed_core c (noted_of (queue_of c t) h) h) (parts (noted_of (queue_of c t) h) (cond (is_indirect (queue_of c t) h) (entries_of (queue_of c t) h) 0)) ≡ freed (queue_of c t) h
  whole =
      ap (λ l. record {
        n = c.n;
        modes = c.modes;
        base = c.base;
        counts = (freed (queue_of c t) h).counts;
        tables = record { shadow = (freed (queue_of c t) h).tables.shadow; noted = (freed (queue_of c t) h).tables.noted; kept = l };
        call = c.call;
      })
      (sets_if (is_indirect (queue_of c t) h) t.kept (c.n * h) (entries_of (queue_of c t) h))

  pub freed_is
      : (d : Desc) (k x : ℕ) (t₁ t₂ t₃ : Tables) (b : Core)
      → d ≡ desc_of (queue_of c t) h
      → k ≡ noted_of (queue_of c t) h
      → x ≡ cond (has_indirect d) (d.len / 16) 0
      → t₁ ≡ unchained t h k c.free_head
      → t₂ ≡ with_noted t₁ h 0
      → t₃ ≡ cleared t₂ (c.n * h) x
      → b ≡ freed_core c k h
      → queue_of b t₃ ≡ freed (queue_of c t) h
  freed_is d k x t₁ t₂ t₃ b e f g e₁ e₂ e₃ m =
      ap₂ queue_of m (e₃ ∙ ap (λ y. cleared y (c.n * h) x) (e₂ ∙ ap (λ y. with_noted y h 0) e₁))
      ∙ ap₂ (λ i j. queue_of (freed_core c i h) (parts i j)) f (g ∙ ap (λ (w : Desc). cond (has_indirect w) (w.len / 16) 0) e)
      ∙ whole
