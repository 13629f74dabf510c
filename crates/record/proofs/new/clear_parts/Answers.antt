-- `record::new::clear_parts` meets its contract: the calls' bytes are `clear_front` and then `clear_used`, the latter in the region that the branch picks, and
-- what the layout needs has room for each.
-- Assumes nothing.
use native.Mathlib.Omega.{arith}
use Rattle.virtio.specs.Sizes.{front_inside, used_in_one, used_in_two}
use Rattle.record.proofs.new.clear_parts.Goals as goal

pub clear-requires : goal.clear-requires
clear-requires c =
    omega (arith, front_inside c.args.legacy c.args.n)

pub link_table-requires : goal.link_table-requires
link_table-requires c =
    omega (arith, front_inside c.args.legacy c.args.n)

pub clear-requires-then-legacy : goal.clear-requires-then-legacy
clear-requires-then-legacy c =
    omega (arith, used_in_one c.args.legacy c.args.n c.if-legacy.true)

pub clear-requires-else-legacy : goal.clear-requires-else-legacy
clear-requires-else-legacy c =
    omega (arith, used_in_two c.args.legacy c.args.n c.if-legacy.false)

pub returns-then-legacy : goal.returns-then-legacy
returns-then-legacy c =
    rw (c.clear-then-legacy.ensures, c.link_table.ensures, c.clear.ensures, c.used_at.ensures, c.used_size.ensures, c.table_size.ensures, c.avail_size.ensures, c.if-legacy.true)

pub returns-else-legacy : goal.returns-else-legacy
returns-else-legacy c =
    rw (c.clear-else-legacy.ensures, c.link_table.ensures, c.clear.ensures, c.used_at-else-legacy.ensures, c.used_size-else-legacy.ensures, c.table_size.ensures, c.avail_size.ensures, c.if-legacy.false)
