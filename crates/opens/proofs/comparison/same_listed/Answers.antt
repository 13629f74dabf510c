-- `opens::comparison::same_listed` meets its contract: where the lengths are one, whether the lists are is whether what is left of them is.
use Rattle.std.proofs.Common.{◌≡◌, ℕ, ◌+◌, ◌-◌, List, ◌∷◌, refl, sym, ◌∙◌, arith, drop, get_or}
use Rattle.virtio.specs.declared.Buffer.{Buffer}
use Rattle.virtio.specs.Desc.{no_buffer}
use Rattle.lists.specs.Pick.{run_of}
use Rattle.tables.specs.Lent.{tables_read}
use Rattle.opens.specs.Turns.{list_rest, list_over}
use Rattle.opens.specs.Sames.{same_lengths, same_next, same_stop, same_none, ne_stop, ne_next, run_length, run_from, run_none}
use Rattle.opens.proofs.comparison.same_listed.Goals as goal

pub returns-then-list-count : goal.returns-then-list-count
returns-then-list-count c =
    let kept : List Buffer = (tables_read c.args.tables.now).kept in
    sym (same_lengths (run_of no_buffer kept c.args.from c.args.count) c.args.list.now (λ e. c.if-list-count.true (sym e ∙ run_length no_buffer kept c.args.from c.args.count)))

pub returns-then-ne : goal.returns-then-ne
returns-then-ne c =
    let s : _ = c.args in
    let j : ℕ = c.loop-j.j in
    let g : List Buffer = s.list.now in
    let a : Buffer = c.entry_at.result in
    let b : Buffer = get_or g j no_buffer in
    let kept : List Buffer = (tables_read s.tables.now).kept in
    let rest : drop j g ≡ b ∷ drop (j + 1) g = list_rest g j b (omega arith) refl in
    let list : run_of no_buffer kept (s.from + j) (s.count - j) ≡ a ∷ run_of no_buffer kept (s.from + (j + 1)) (s.count - (j + 1)) =
    run_from no_buffer kept (s.from + j) (s.from + (j + 1)) (s.count - j) (s.count - (j + 1)) a (omega arith) (omega arith) c.entry_at.ensures in
    sym (c.loop-j.invariant ∙ same_stop (run_of no_buffer kept (s.from + j) (s.count - j)) (drop j g) (run_of no_buffer kept (s.from + (j + 1)) (s.count - (j + 1))) (drop (j + 1) g) a b list rest (ne_stop a b c.ne.result c.ne.ensures c.if-ne.true))

pub loop-j-preserved : goal.loop-j-preserved
loop-j-preserved c =
    let s : _ = c.args in
    let j : ℕ = c.loop-j.j in
    let g : List Buffer = s.list.now in
    let a : Buffer = c.entry_at.result in
    let b : Buffer = get_or g j no_buffer in
    let kept : List Buffer = (tables_read s.tables.now).kept in
    let rest : drop j g ≡ b ∷ drop (j + 1) g = list_rest g j b (omega arith) refl in
    let list : run_of no_buffer kept (s.from + j) (s.count - j) ≡ a ∷ run_of no_buffer kept (s.from + (j + 1)) (s.count - (j + 1)) =
    run_from no_buffer kept (s.from + j) (s.from + (j + 1)) (s.count - j) (s.count - (j + 1)) a (omega arith) (omega arith) c.entry_at.ensures in
    c.loop-j.invariant ∙ same_next (run_of no_buffer kept (s.from + j) (s.count - j)) (drop j g) (run_of no_buffer kept (s.from + (j + 1)) (s.count - (j + 1))) (drop (j + 1) g) a b list rest (ne_next a b c.ne.result c.ne.ensures c.if-ne.false)

pub returns : goal.returns
returns c =
    let s : _ = c.args in
    let j : ℕ = c.loop-j.j in
    let g : List Buffer = s.list.now in
    let kept : List Buffer = (tables_read s.tables.now).kept in
    sym (c.loop-j.invariant ∙ same_none (run_of no_buffer kept (s.from + j) (s.count - j)) (drop j g) (run_none no_buffer kept (s.from + j) (s.count - j) (omega arith)) (list_over g j (omega arith)))
