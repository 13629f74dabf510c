-- `text::entries` meets its contract: what the line comes to from the start on is what it comes to further on, behind the buffers read so far.
use mathlib.Core.Path.{◌≡◌, refl, sym, ap, ◌∙◌}
use mathlib.Core.Bool.{true, false}
use mathlib.Core.List.{List}
use Prim.Native.Nat.{ℕ, ◌+◌, ◌-◌, ◌≤◌}
use native.Mathlib.Omega.{arith}
use Rattle.std.specs.Prelude.{None}
use lib.ListN.{length, set, take, length-set}
use Rattle.virtio.specs.declared.Buffer.{Buffer}
use Rattle.text.specs.declared.Entry.{Entry}
use Rattle.text.specs.Words.{comma}
use Rattle.text.specs.Text.{FoundEntry, stands, list_end, entry_at, buffer_of, entries}
use Rattle.text.specs.Laws.{stands_fits, found_entry, told_entry_none, told_entry_some}
use Rattle.text.specs.Turns.{held_more, entries_over, entries_bad, entries_last, entries_next, lists_by, lists_wrong, lists_end}
use Rattle.text.proofs.entries.Goals as goal

pub returns-in_err-entry : goal.returns-in_err-entry
returns-in_err-entry c =
    let s : _ = c.args in
    let l : _ = c.loop-count in
    let e : FoundEntry = entry_at s.src.now l.start in
    let bad : e.ok ≡ false = told_entry_none e (sym c.entry_at.ensures ∙ c.in_err-entry.was) in
    λ bs h.
    lists_by c.from_residual.result l.list
    (sym (entries_bad s.output s.src.now l.start (take l.count l.list) e refl (s.from + 65 - l.count) (omega arith) bad)
    ∙ l.invariant.rest
    ∙ ap (entries 65 s.output s.src.now s.at) h)
    (lists_wrong c.from_residual.result l.list c.from_residual.ensures)

pub returns-then-not-stands : goal.returns-then-not-stands
returns-then-not-stands c =
    let s : _ = c.args in
    let l : _ = c.loop-count in
    let e : Entry = c.in_ok-entry.entry in
    let is : found_entry e ≡ entry_at s.src.now l.start = sym (told_entry_some _ e (sym c.entry_at.ensures ∙ c.in_ok-entry.was)) in
    let b : Buffer = buffer_of s.output (found_entry e) in
    let more : List Buffer = set l.list l.count b in
    let k : stands comma s.src.now e.at ≡ false = sym c.stands.ensures ∙ c.if-not-stands.true in
    λ bs h.
    lists_by c.list_end.result more
    (ap (list_end s.src.now e.at) (held_more l.count l.list b (omega arith))
    ∙ sym (entries_last s.output s.src.now l.start (take l.count l.list) (found_entry e) is (s.from + 65 - l.count) (omega arith) refl k)
    ∙ l.invariant.rest
    ∙ ap (entries 65 s.output s.src.now s.at) h)
    (lists_end c.list_end.result more s.src.now e.at (l.count + 1) (omega arith) c.list_end.ensures)

pub overflow_add-start : goal.overflow_add-start
overflow_add-start c =
    let s : _ = c.args in
    let p : ℕ = c.in_ok-entry.entry.at in
    let k : stands comma s.src.now p ≡ true = sym c.stands.ensures ∙ c.if-not-stands.false in
    let f : p + 1 ≤ length s.src.now = stands_fits comma s.src.now p k (omega arith) in
    omega arith

pub loop-count-preserved : goal.loop-count-preserved
loop-count-preserved c =
    let s : _ = c.args in
    let l : _ = c.loop-count in
    let e : Entry = c.in_ok-entry.entry in
    let is : found_entry e ≡ entry_at s.src.now l.start = sym (told_entry_some _ e (sym c.entry_at.ensures ∙ c.in_ok-entry.was)) in
    let b : Buffer = buffer_of s.output (found_entry e) in
    let k : stands comma s.src.now e.at ≡ true = sym c.stands.ensures ∙ c.if-not-stands.false in
    let one : s.from + 65 - (l.count + 1) ≡ s.from + 65 - l.count - 1 = omega arith in record {
      long = length-set l.list l.count b ∙ l.invariant.long;
      rest =
          ap (λ j. entries j s.output s.src.now (e.at + 1) (take (l.count + 1) (set l.list l.count b))) one
          ∙ ap (entries (s.from + 65 - l.count - 1) s.output s.src.now (e.at + 1)) (held_more l.count l.list b (omega arith))
          ∙ sym (entries_next s.output s.src.now l.start (take l.count l.list) (found_entry e) is (s.from + 65 - l.count) (omega arith) refl k)
          ∙ l.invariant.rest;
    }

pub returns : goal.returns
returns c =
    let s : _ = c.args in
    let l : _ = c.loop-count in
    λ bs h.
    lists_by None l.list
    (sym (entries_over s.output s.src.now l.start (take l.count l.list) (s.from + 65 - l.count) (omega arith))
    ∙ l.invariant.rest
    ∙ ap (entries 65 s.output s.src.now s.at) h)
    (lists_wrong None l.list refl)
