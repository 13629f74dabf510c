-- `opens::opening::fill_descs` meets its contract: a turn of the loop fills one descriptor.
use Rattle.std.proofs.Common.{◌≡◌, ℕ, ◌+◌, ◌-◌, ◌<◌, List, ◌∷◌, refl, sym, ap, ◌∙◌, subst, arith, length, drop, get_or, ltb}
use Rattle.virtio.specs.declared.Buffer.{Buffer}
use Rattle.virtio.specs.Desc.{no_buffer}
use Rattle.rules.specs.Record.{Tables}
use Rattle.rules.specs.Calls.{filled}
use Rattle.tables.specs.Lent.{tables_held, reads_tables, same_loan_trans}
use Rattle.tables.specs.Stores.{with_desc, next_below}
use Rattle.opens.specs.Given.{next_in}
use Rattle.opens.specs.Turns.{list_rest, list_over}
use Rattle.opens.specs.Stores.{filling_turn, filling_end, more_is}
use Rattle.opens.proofs.opening.fill_descs.Goals as goal

pub loop-j-preserved : goal.loop-j-preserved
loop-j-preserved c =
    let s : _ = c.args in
    let l : _ = c.loop-j in
    let g : List Buffer = s.list.now in
    let k : ℕ = length g in
    let b : Buffer = get_or g l.j no_buffer in
    let x : ℕ = c.next_at-next.result in
    let t : Tables = tables_held s.tables.now in
    let u : Tables = tables_held l.tables in
    let v : Tables = tables_held c.put_desc.new.self in
    let links : x ≡ next_in u l.i = c.next_at-next.ensures ∙ ap (λ (y : Tables). next_in y l.i) (reads_tables l.tables c.read.result c.read.ensures) in
    let stored : v ≡ with_desc u l.i (filled b (ltb (l.j + 1) k) x) = c.put_desc.ensures.stored ∙ ap (with_desc u l.i) c.filled.ensures in
    let o : _ = s.tables.now in
    let low : next_in t l.i < s.n = next_below o.room o.words.now o.lens.now o.halves.now o.sides.now s.n c.requires.closed l.i l.invariant.inside in
    let e : drop l.j g ≡ b ∷ drop (l.j + 1) g = list_rest g l.j b (omega arith) refl in record {
      inside = subst (λ y. y < s.n) (sym (links ∙ l.invariant.filling.links l.i)) low;
      same_loan = same_loan_trans o l.tables c.put_desc.new.self l.invariant.same_loan c.put_desc.ensures.same_loan;
      filling =
          filling_turn t u v k s.head (k - l.j) (k - (l.j + 1)) l.i x b (ltb (l.j + 1) k) g (drop l.j g) (drop (l.j + 1) g) l.invariant.filling (omega arith) e
          (more_is (l.j + 1) g k refl) links stored;
    }

pub returns-clause-behind : goal.returns-clause-behind
returns-clause-behind c =
    let g : List Buffer = c.args.list.now in
    let l : _ = c.loop-j in
    (filling_end (tables_held c.args.tables.now) (tables_held l.tables) (length g) c.args.head (length g - l.j) l.i g (drop l.j g) l.invariant.filling (omega arith) (list_over g l.j (omega arith))).0

pub returns-clause-filled : goal.returns-clause-filled
returns-clause-filled c =
    let g : List Buffer = c.args.list.now in
    let l : _ = c.loop-j in
    (filling_end (tables_held c.args.tables.now) (tables_held l.tables) (length g) c.args.head (length g - l.j) l.i g (drop l.j g) l.invariant.filling (omega arith) (list_over g l.j (omega arith))).1
