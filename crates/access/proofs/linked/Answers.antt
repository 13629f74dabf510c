-- `access::linked` meets its contract: links lead to descriptors.
use Rattle.tables.specs.Ready.{closed}
use Rattle.access.specs.Bounds.{landed}
use Rattle.access.proofs.linked.Goals as goal

pub hop-at-requires-clause-closed : goal.hop-at-requires-clause-closed
hop-at-requires-clause-closed c = closed _ _ _ _ _ _ c.requires.ready

pub desc_at-requires : goal.desc_at-requires
desc_at-requires c =
    (landed c.requires.ready c.hop-at.result c.args.k c.args.i c.hop-at.ensures c.requires.i_bound).1

pub returns-clause-number : goal.returns-clause-number
returns-clause-number c =
    (c.hop-at.ensures, (landed c.requires.ready c.hop-at.result c.args.k c.args.i c.hop-at.ensures c.requires.i_bound).0)
