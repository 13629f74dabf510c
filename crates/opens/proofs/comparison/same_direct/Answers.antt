-- `opens::comparison::same_direct` meets its contract: where the lengths are one, whether the lists are is whether what is left of them is.
use Rattle.std.proofs.Common.{◌≡◌, ℕ, suc, ◌+◌, ◌-◌, ◌<◌, List, ◌∷◌, refl, sym, ap, ◌∙◌, subst, arith, drop, get_or, true, false}
use Rattle.virtio.specs.declared.Desc.{Desc}
use Rattle.virtio.specs.declared.Buffer.{Buffer}
use Rattle.virtio.specs.Desc.{no_buffer, buffer_of}
use Rattle.rules.specs.Record.{Tables}
use Rattle.tables.specs.Lent.{tables_read}
use Rattle.tables.specs.Stores.{next_below}
use Rattle.opens.specs.Given.{next_in, direct_in, same_buffer}
use Rattle.opens.specs.Turns.{list_rest, list_over}
use Rattle.opens.specs.Sames.{same_lengths, same_next, same_stop, same_none, ne_stop, ne_next, direct_length, direct_from, direct_none}
use Rattle.opens.proofs.comparison.same_direct.Goals as goal

pub returns-then-list-count : goal.returns-then-list-count
returns-then-list-count c =
    let t : Tables = tables_read c.args.tables.now in
    sym (same_lengths (direct_in t c.args.count c.args.head) c.args.list.now (λ e. c.if-list-count.true (sym e ∙ direct_length t c.args.count c.args.head)))

pub returns-then-ne : goal.returns-then-ne
returns-then-ne c =
    let s : _ = c.args in
    let l : _ = c.loop-buffer in
    let j : ℕ = l.buffer-index in
    let g : List Buffer = s.list.now in
    let b : Buffer = get_or g j no_buffer in
    let d : Desc = c.desc_at-d.result in
    let t : Tables = tables_read s.tables.now in
    let rest : drop j g ≡ b ∷ drop (j + 1) g = list_rest g j b (omega arith) refl in
    let left : s.count - j ≡ suc (s.count - (j + 1)) = omega arith in
    let chain : direct_in t (s.count - j) l.i ≡ buffer_of d ∷ direct_in t (s.count - (j + 1)) d.next = direct_from t (s.count - j) (s.count - (j + 1)) l.i d left c.desc_at-d.ensures in
    sym (l.invariant.rest ∙ same_stop (direct_in t (s.count - j) l.i) (drop j g) (direct_in t (s.count - (j + 1)) d.next) (drop (j + 1) g) (buffer_of d) b chain rest (subst (λ (x : Buffer). same_buffer x b ≡ false) c.buffer.ensures (ne_stop c.buffer.result b c.ne.result c.ne.ensures c.if-ne.true)))

pub loop-buffer-preserved : goal.loop-buffer-preserved
loop-buffer-preserved c =
    let s : _ = c.args in
    let l : _ = c.loop-buffer in
    let j : ℕ = l.buffer-index in
    let g : List Buffer = s.list.now in
    let b : Buffer = get_or g j no_buffer in
    let d : Desc = c.desc_at-d.result in
    let t : Tables = tables_read s.tables.now in
    let rest : drop j g ≡ b ∷ drop (j + 1) g = list_rest g j b (omega arith) refl in
    let left : s.count - j ≡ suc (s.count - (j + 1)) = omega arith in
    let chain : direct_in t (s.count - j) l.i ≡ buffer_of d ∷ direct_in t (s.count - (j + 1)) d.next = direct_from t (s.count - j) (s.count - (j + 1)) l.i d left c.desc_at-d.ensures in
    let o : _ = s.tables.now in
    let low : next_in t l.i < s.n = next_below o.room o.words.now o.lens.now o.halves.now o.sides.now s.n c.requires.closed l.i l.invariant.inside in record {
      inside = subst (λ y. y < s.n) (sym (ap (λ (y : Desc). y.next) c.desc_at-d.ensures)) low;
      rest = l.invariant.rest ∙ same_next (direct_in t (s.count - j) l.i) (drop j g) (direct_in t (s.count - (j + 1)) d.next) (drop (j + 1) g) (buffer_of d) b chain rest (subst (λ (x : Buffer). same_buffer x b ≡ true) c.buffer.ensures (ne_next c.buffer.result b c.ne.result c.ne.ensures c.if-ne.false));
    }

pub returns : goal.returns
returns c =
    let s : _ = c.args in
    let l : _ = c.loop-buffer in
    let g : List Buffer = s.list.now in
    let t : Tables = tables_read s.tables.now in
    sym (l.invariant.rest ∙ same_none (direct_in t (s.count - l.buffer-index) l.i) (drop l.buffer-index g) (direct_none t (s.count - l.buffer-index) l.i (omega arith)) (list_over g l.buffer-index (omega arith)))
