-- The private tables as lists of words, one list for each width, and the rules' tables that they say. With room for r descriptors: 64-bit words hold
-- r addresses and then r * r of list entries; 32-bit words the lengths in the same order; 16-bit words r nexts, r flags, r noted lengths; and the
-- sides of list entries are bools. A later storage changes this file and the code that lends the lists, and no rule.
use Rattle.std.specs.Prelude.{◌≡◌, Bool, List, map, ℕ, ◌*◌, ◌≤◌, ltb, get_or, take, drop}
use Rattle.std.proofs.Math.Path.{sym, ap}
use Rattle.std.proofs.Common.{◌∙◌, length-take, arith}
use Rattle.std.proofs.Math.Bool.{false}
use borrow.Author.Tests.{ltb-true, ltb-false}
use Rattle.std.proofs.Math.ListN.{get_or-eq_default}
use Rattle.lists.specs.Pick.{rising}
use Rattle.lists.specs.PickLaws.{get_d_rising_lem, past_rising}
use Rattle.lists.specs.Tests.{by_test}
use Rattle.virtio.specs.declared.Desc.{Desc}
use Rattle.virtio.specs.declared.Buffer.{Buffer}
use Rattle.virtio.specs.Desc.{no_desc, no_buffer}
use Rattle.rules.specs.Record.{Tables, Queue}
use Rattle.views.specs.declared.Core.{Core}
use Rattle.views.specs.Views.{at}

-- count entries from an offset on
abbrev pub cut : {A : Type 0} → ℕ → ℕ → List A → List A
cut from count xs = take count (drop from xs)

-- past its end it has nothing
past_cut : {A : Type 0} (from count : ℕ) (xs : List A) (d : A) (i : ℕ) → count ≤ i → get_or (cut from count xs) i d ≡ d
past_cut from count xs d i h = get_or-eq_default (cut from count xs) d (omega (arith, length-take count (drop from xs)))

module _ (r : ℕ) where
  -- the sections of the 64-bit and 32-bit words: of descriptors, of list entries
  abbrev pub of_table : List ℕ → List ℕ
  of_table xs = cut 0 r xs

  abbrev pub of_lists : List ℕ → List ℕ
  of_lists xs = cut r (r * r) xs

  -- and of the 16-bit words
  abbrev pub nexts_in : List ℕ → List ℕ
  nexts_in halves = cut 0 r halves

  abbrev pub flags_in : List ℕ → List ℕ
  flags_in halves = cut r r halves

  abbrev pub noted_in : List ℕ → List ℕ
  noted_in halves = cut (2 * r) r halves

  abbrev pub sides_in : List Bool → List Bool
  sides_in sides = cut 0 (r * r) sides

module _ (r : ℕ) (words lens halves : List ℕ) (sides : List Bool) where
  -- descriptor i, and list entry j
  abbrev pub desc_in : ℕ → Desc
  desc_in i =
      record { addr = at (of_table r words) i; len = at (of_table r lens) i; flags = at (flags_in r halves) i; next = at (nexts_in r halves) i }

  abbrev pub entry_in : ℕ → Buffer
  entry_in j =
      record { addr = at (of_lists r words) j; len = at (of_lists r lens) j; output = get_or (sides_in r sides) j false }

  -- THE TABLES
  unfoldable pub tables_of : Tables
  tables_of = record {
    shadow = map desc_in (rising r 0);
    noted = noted_in r halves;
    kept = map entry_in (rising (r * r) 0);
  }

  -- ---- reading them: entry i of the tables is what the views say at i, wherever i lies

  pub desc_is : (i : ℕ) → get_or tables_of.shadow i no_desc ≡ desc_in i
  unfolding tables_of
  desc_is i =
      by_test (ltb i r)
      (λ e. get_d_rising_lem desc_in no_desc r 0 i (ltb-true i r e) ∙ ap desc_in (omega arith))
      (λ e. let h : r ≤ i = ltb-false i r e in past_rising desc_in no_desc r 0 i h ∙ sym (λ j. record {
        addr = past_cut 0 r words 0 i h j;
        len = past_cut 0 r lens 0 i h j;
        flags = past_cut r r halves 0 i h j;
        next = past_cut 0 r halves 0 i h j;
      }))

  pub entry_is : (j : ℕ) → get_or tables_of.kept j no_buffer ≡ entry_in j
  unfolding tables_of
  entry_is j =
      by_test (ltb j (r * r))
      (λ e. get_d_rising_lem entry_in no_buffer (r * r) 0 j (ltb-true j (r * r) e) ∙ ap entry_in (omega arith))
      (λ e. let h : r * r ≤ j = ltb-false j (r * r) e in past_rising entry_in no_buffer (r * r) 0 j h ∙ sym (λ k. record {
        addr = past_cut r (r * r) words 0 j h k;
        len = past_cut r (r * r) lens 0 j h k;
        output = past_cut 0 (r * r) sides false j h k;
      }))

-- THE RECORD: plain fields, and tables
abbrev pub queue_of : Core → Tables → Queue
queue_of c t = record {
  n = c.n;
  modes = c.modes;
  base = c.base;
  counts = record { used = c.num_used; free = c.free_head; avail = c.avail_idx; last = c.last_used_idx };
  tables = t;
  call = c.call;
}
