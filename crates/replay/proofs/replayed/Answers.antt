-- `replay::replayed` meets its contract: each line of the header that is good is printed, and the first that is not ends it.
use mathlib.Core.Path.{refl, sym, ◌∙◌}
use mathlib.Core.List.{List, [], ◌++◌}
use Prim.Native.Nat.{ℕ}
use native.Mathlib.Omega.{arith}
use Rattle.text.specs.declared.Number.{Number}
use Rattle.text.specs.Text.{read, field}
use Rattle.text.specs.Laws.{told_none, told_some}
use Rattle.print.specs.Print.{field_line}
use Rattle.replay.specs.Words.{word_size, word_indirect, word_event}
use Rattle.replay.specs.Laws.{value_within}
use Rattle.replay.specs.Header.{is_had, sized_none, sized_some, no_size, no_indirect_lem, no_event, reads_all}
use Rattle.replay.proofs.replayed.Goals as goal

pub returns-in_default-clause-wrote : goal.returns-in_default-clause-wrote
returns-in_default-clause-wrote c before blank =
    let s : List ℕ = c.args.src.now in
    is_had c.field.new.self
    (no_size s (field word_size 65535 s 0) refl (sized_none _ (sym c.size_at.ensures ∙ c.in_default.is)))
    (c.field.ensures.wrote before [] blank)

pub returns-in_default-field-clause-wrote : goal.returns-in_default-field-clause-wrote
returns-in_default-field-clause-wrote c before blank =
    let s : List ℕ = c.args.src.now in
    let n : Number = c.in-Some.n in
    let size : _ = sized_some (field word_size 65535 s 0) n (sym c.size_at.ensures ∙ c.in-Some.is) in
    is_had c.field-in_default-field.new.self
    (no_indirect_lem
    s
    (read n.value n.at)
    size.0
    size.1
    (field word_indirect 1 s n.at)
    refl
    (told_none _ (sym c.field-3.ensures ∙ c.in_default-field.is)))
    (c.field-in_default-field.ensures.wrote before (field_line word_size n.value) (c.field-2.ensures.wrote before [] blank))

pub returns-in_default-field-2-clause-wrote : goal.returns-in_default-field-2-clause-wrote
returns-in_default-field-2-clause-wrote c before blank =
    let s : List ℕ = c.args.src.now in
    let n : Number = c.in-Some.n in
    let i : Number = c.in-Some-field.i in
    let size : _ = sized_some (field word_size 65535 s 0) n (sym c.size_at.ensures ∙ c.in-Some.is) in
    let mode : _ = told_some (field word_indirect 1 s n.at) i (sym c.field-3.ensures ∙ c.in-Some-field.is) in
    let one : List ℕ = field_line word_size n.value in
    is_had c.field-in_default-field-2.new.self
    (no_event
    s
    (read n.value n.at)
    size.0
    size.1
    (read i.value i.at)
    (sym mode)
    refl
    (field word_event 1 s i.at)
    refl
    (told_none _ (sym c.field-5.ensures ∙ c.in_default-field-2.is)))
    (c.field-in_default-field-2.ensures.wrote
    before
    (one ++ field_line word_indirect i.value)
    (c.field-4.ensures.wrote before one (c.field-2.ensures.wrote before [] blank)))

pub overflow_cast-n : goal.overflow_cast-n
overflow_cast-n c =
    let n : Number = c.in-Some.n in
    let size : _ = sized_some (field word_size 65535 c.args.src.now 0) n (sym c.size_at.ensures ∙ c.in-Some.is) in
    let low : _ = value_within word_size 65535 c.args.src.now 0 (read n.value n.at) size.0 in
    omega (arith, low)

pub lent-requires : goal.lent-requires
lent-requires c =
    let size : _ = sized_some (field word_size 65535 c.args.src.now 0) c.in-Some.n (sym c.size_at.ensures ∙ c.in-Some.is) in
    (size.1, refl, c.requires)

pub returns-clause-wrote : goal.returns-clause-wrote
returns-clause-wrote c before blank =
    let s : List ℕ = c.args.src.now in
    let n : Number = c.in-Some.n in
    let i : Number = c.in-Some-field.i in
    let e : Number = c.in-Some-field-2.e in
    let size : _ = sized_some (field word_size 65535 s 0) n (sym c.size_at.ensures ∙ c.in-Some.is) in
    let mode : _ = told_some (field word_indirect 1 s n.at) i (sym c.field-3.ensures ∙ c.in-Some-field.is) in
    let event : _ = told_some (field word_event 1 s i.at) e (sym c.field-5.ensures ∙ c.in-Some-field-2.is) in
    let one : List ℕ = field_line word_size n.value in
    let two : List ℕ = one ++ field_line word_indirect i.value in
    is_had c.lent.new.page
    (reads_all
    s
    (read n.value n.at)
    size.0
    size.1
    (read i.value i.at)
    (sym mode)
    refl
    (read e.value e.at)
    (sym event)
    refl)
    (c.lent.ensures.wrote
    before
    (two ++ field_line word_event e.value)
    (c.field-6.ensures.wrote
    before
    two
    (c.field-4.ensures.wrote before one (c.field-2.ensures.wrote before [] blank))))
