-- `opens::comparison::matches` meets its contract: no chain is outstanding under the token, or its list is compared, direct or by the private copy.
use Rattle.std.proofs.Common.{◌+◌, ◌*◌, ◌≤◌, arith}
use Rattle.virtio.proofs.Flags.{indirect_bit, direct_bit}
use Rattle.rules.specs.Record.{Queue}
use Rattle.views.specs.Tables.{queue_of}
use Rattle.tables.specs.Lent.{tables_read}
use Rattle.tables.specs.Ready.{small, closed}
use Rattle.opens.specs.Openings.{slot_in}
use Rattle.opens.specs.Matching.{matches_past, matches_none, matches_listed, matches_direct, listed_in}
use Rattle.opens.proofs.comparison.matches.Goals as goal

pub returns-then-c-token : goal.returns-then-c-token
returns-then-c-token c =
    matches_past (queue_of c.args.c (tables_read c.args.tables.now)) c.args.token c.args.list.now c.if-c-token.true

pub returns-then-count-eq0 : goal.returns-then-count-eq0
returns-then-count-eq0 c =
    matches_none (queue_of c.args.c (tables_read c.args.tables.now)) c.args.token c.args.list.now (omega arith) c.noted_at-count.result c.noted_at-count.ensures c.if-count-eq0.true

pub overflow_mul-c : goal.overflow_mul-c
overflow_mul-c c =
    let t : _ = c.args.tables.now in
    let n : _ = small c.args.c t.room t.words.now t.lens.now t.halves.now t.sides.now c.requires in
    let low : c.args.c.n * c.args.token + 0 ≤ 64 * 64 = slot_in c.args.c.n c.args.token 0 64 (omega arith) (omega arith) n.1 in
    omega arith

pub same_listed-requires : goal.same_listed-requires
same_listed-requires c =
    let q : Queue = queue_of c.args.c (tables_read c.args.tables.now) in
    listed_in q c.args.token c.args.list.now (omega arith) c.noted_at-count.result c.noted_at-count.ensures c.if-count-eq0.false c.desc_at-d.result c.desc_at-d.ensures c.requires.good.well (indirect_bit c.desc_at-d.result c.is_indirect.result c.is_indirect.ensures c.if-is_indirect.true) c.args.tables.now.room c.requires.within

pub same_direct-requires-clause-closed : goal.same_direct-requires-clause-closed
same_direct-requires-clause-closed c =
    let t : _ = c.args.tables.now in
    closed c.args.c t.room t.words.now t.lens.now t.halves.now t.sides.now c.requires

pub returns-then-is_indirect : goal.returns-then-is_indirect
returns-then-is_indirect c =
    let q : Queue = queue_of c.args.c (tables_read c.args.tables.now) in
    matches_listed q c.args.token c.args.list.now (omega arith) c.noted_at-count.result c.noted_at-count.ensures c.if-count-eq0.false c.desc_at-d.result c.desc_at-d.ensures (indirect_bit c.desc_at-d.result c.is_indirect.result c.is_indirect.ensures c.if-is_indirect.true) c.same_listed.result c.same_listed.ensures

pub returns-else-is_indirect : goal.returns-else-is_indirect
returns-else-is_indirect c =
    let q : Queue = queue_of c.args.c (tables_read c.args.tables.now) in
    matches_direct q c.args.token c.args.list.now (omega arith) c.noted_at-count.result c.noted_at-count.ensures c.if-count-eq0.false c.desc_at-d.result c.desc_at-d.ensures (direct_bit c.desc_at-d.result c.is_indirect.result c.is_indirect.ensures c.if-is_indirect.false) c.same_direct.result c.same_direct.ensures
