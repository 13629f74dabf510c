-- `access::buffer_access` meets its contract: an outstanding head's list lies in its slot, and what was loaded is what the rules' store for the buffer holds.
use Rattle.std.proofs.Common.{arith}
use Rattle.virtio.proofs.Flags.{indirect_bit}
use Rattle.access.specs.Bounds.{queue, buffer_within}
use Rattle.access.specs.Cases.{listed_head, entry_case}
use Rattle.access.proofs.buffer_access.Goals as goal

pub entry_at-b-requires : goal.entry_at-b-requires
entry_at-b-requires c =
    omega (arith, buffer_within c.requires.ready c.args.head c.args.i c.requires.adding.head c.requires.i_bound)

pub returns-then-is_indirect : goal.returns-then-is_indirect
returns-then-is_indirect c =
    let q = queue c.requires.ready in
    let bit = indirect_bit c.desc_at-h.result c.is_indirect.result c.is_indirect.ensures c.if-is_indirect.true in
    let listed = listed_head q c.args.head c.desc_at-h.result c.desc_at-h.ensures bit in (
      entry_case q c.args.head c.desc_at-h.result c.desc_at-h.ensures c.args.i c.entry_at-b.result c.flags_of.result bit c.entry_at-b.ensures c.flags_of.ensures,
      ((buffer_within c.requires.ready c.args.head c.args.i c.requires.adding.head c.requires.i_bound).1, (c.requires.ready.good.well.listed c.args.head c.requires.adding.head listed).mode),
    )
