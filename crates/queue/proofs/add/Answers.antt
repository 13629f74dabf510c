-- `queue::add` meets its contract: its opening, finished.
use Rattle.std.proofs.Common.{ap, ◌∙◌, arith}
use Rattle.rules.specs.Calls.{whole}
use Rattle.queue.specs.Going.{add_going}
use Rattle.queue.proofs.add.Goals as goal

pub finish-requires : goal.finish-requires
finish-requires c =
    let s : _ = c.args in
    let o : _ = c.open_add-opened in
    add_going s.c s.t.now s.one.now s.two.now s.pool.now o.result c.requires (record { avail = omega arith; last = omega arith }) o.new.t o.ensures.same_loan.room s.list.now o.ensures.opened

pub returns-clause-done : goal.returns-clause-done
returns-clause-done c = c.finish.ensures.moved ∙ ap (whole c.args.c.n) c.open_add-opened.ensures.opened
