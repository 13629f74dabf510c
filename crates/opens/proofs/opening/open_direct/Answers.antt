-- `opens::opening::open_direct` meets its contract: what its parts make of tables and plain fields is a direct add's opening.
use Rattle.std.proofs.Common.{refl, length}
use Rattle.tables.specs.Lent.{tables_held}
use Rattle.tables.specs.Ready.{closed}
use Rattle.opens.specs.Openings.{direct_opens}
use Rattle.opens.proofs.opening.open_direct.Goals as goal

pub fill_descs-free-requires-clause-closed : goal.fill_descs-free-requires-clause-closed
fill_descs-free-requires-clause-closed c =
    let t : _ = c.args.tables.now in
    closed c.args.c t.room t.words.now t.lens.now t.halves.now t.sides.now c.requires.ready

pub returns-clause-opened : goal.returns-clause-opened
returns-clause-opened c =
    let f : _ = c.fill_descs-free in
    direct_opens c.args.c c.added_core.result (tables_held c.args.tables.now) (tables_held f.new.tables) (tables_held c.put_noted.new.self) (length c.args.list.now) f.result c.args.list.now refl f.ensures.behind f.ensures.filled c.put_noted.ensures.stored c.added_core.ensures
