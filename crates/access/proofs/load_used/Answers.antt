-- `access::load_used` meets its contract: the used ring is a part of its region, and the field lies in it.
use Rattle.std.proofs.Common.{◌∙◌, arith}
use Rattle.access.specs.Ring.{ring_length, used_load}
use Rattle.access.proofs.load_used.Goals as goal

pub load-requires : goal.load-requires
load-requires g c =
    let s : _ = c.args in
    omega (arith, ring_length s.c.modes.legacy s.c.n s.one.now s.two.now c.used_ring.result.now c.used_ring.ensures c.requires.n_in_bounds.0 c.requires.n_in_bounds.1)

pub returns : goal.returns
returns g c =
    let s : _ = c.args in
    λ pool.
    c.load.ensures
    ∙ used_load s.c.modes.legacy s.c.n s.one.now s.two.now c.used_ring.result.now pool g.T.Field.WIDTH s.at c.used_ring.ensures c.requires.at_bound
