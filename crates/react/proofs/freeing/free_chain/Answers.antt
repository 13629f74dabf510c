-- `react::freeing::free_chain` meets its contract: a checked record's chain and list lie in its tables, and no more are used than were counted.
use Rattle.std.proofs.Common.{◌≡◌, ◌∙◌, ap, ◌≤◌, get_or, arith}
use Rattle.virtio.specs.Desc.{no_desc}
use Rattle.rules.specs.Record.{Tables, desc_of, noted_of}
use Rattle.views.specs.Tables.{queue_of}
use Rattle.tables.specs.Lent.{tables_held, reads_tables}
use Rattle.tables.specs.Ready.{closed}
use Rattle.react.specs.Freed.{noted_most, list_fits}
use Rattle.react.proofs.freeing.free_chain.Goals as goal

pub free_descs-requires-clause-closed : goal.free_descs-requires-clause-closed
free_descs-requires-clause-closed c = closed _ _ _ _ _ _ c.requires.ready

pub clear_entries-requires : goal.clear_entries-requires
clear_entries-requires c =
    let is : c.desc_at-d.result ≡ desc_of (queue_of c.args.c (tables_held c.args.t.now)) c.args.token =
    c.desc_at-d.ensures ∙ ap (λ (x : Tables). get_or x.shadow c.args.token no_desc) (reads_tables _ _ c.read.ensures) in
    rw (c.put_noted.ensures.same_loan.room ∙ c.free_descs.ensures.same_loan.room)
    (list_fits _ _ _ _ _ _ c.requires.ready _ c.requires.out _ _ is c.list_count.ensures)

pub freed_core-requires : goal.freed_core-requires
freed_core-requires c =
    let is : c.noted_at-k.result ≡ noted_of (queue_of c.args.c (tables_held c.args.t.now)) c.args.token =
    c.noted_at-k.ensures ∙ ap (λ (x : Tables). get_or x.noted c.args.token 0) (reads_tables _ _ c.read-2.ensures) in
    let most : noted_of (queue_of c.args.c (tables_held c.args.t.now)) c.args.token ≤ c.args.c.num_used =
    (noted_most _ _ _ _ _ _ c.requires.ready _ c.requires.out).1 in
    omega arith
