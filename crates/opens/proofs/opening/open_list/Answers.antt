-- `opens::opening::open_list` meets its contract: what its parts make of tables and plain fields is an indirect add's opening.
use Rattle.std.proofs.Common.{◌≡◌, ◌+◌, ◌*◌, ◌≤◌, refl, sym, ap, ◌∙◌, subst, length}
use Rattle.rules.specs.Record.{Tables}
use Rattle.tables.specs.Lent.{tables_held, reads_tables}
use Rattle.opens.specs.Given.{next_in}
use Rattle.opens.specs.Openings.{Opening, opening, list_opens}
use Rattle.opens.proofs.opening.open_list.Goals as goal

pub copy_list-requires : goal.copy_list-requires
copy_list-requires c =
    let t : _ = c.args.tables.now in
    let o : Opening c.args.c t.room (length c.args.list.now) = opening c.args.c t.room t.words.now t.lens.now t.halves.now t.sides.now c.args.list.now c.requires.ready c.requires.addable in
    let e : c.put_noted.new.self.room ≡ t.room = c.put_noted.ensures.same_loan.room ∙ c.put_desc.ensures.same_loan.room in
    subst (λ r. c.args.c.n * c.args.c.free_head + length c.args.list.now ≤ r * r) (sym e) o.slot

pub returns-clause-opened : goal.returns-clause-opened
returns-clause-opened c =
    let t : Tables = tables_held c.args.tables.now in
    let links : c.next_at-next.result ≡ next_in t c.args.c.free_head = c.next_at-next.ensures ∙ ap (λ (y : Tables). next_in y c.args.c.free_head) (reads_tables c.args.tables.now c.read.result c.read.ensures) in
    list_opens c.args.c c.added_core.result t (tables_held c.put_desc.new.self) (tables_held c.put_noted.new.self) (length c.args.list.now) c.next_at-next.result c.args.list.now refl (tables_held c.copy_list.new.tables) links c.put_desc.ensures.stored c.put_noted.ensures.stored c.copy_list.ensures.copied c.added_core.ensures
