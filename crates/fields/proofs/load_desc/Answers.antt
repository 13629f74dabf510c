-- `fields::load_desc` meets its contract: each field of the descriptor is what its load ensures, at the place that `desc_at` reads.
use Rattle.virtio.specs.Desc.{desc_at}
use Rattle.fields.proofs.load_desc.Goals as goal

pub returns : goal.returns
unfolding desc_at
returns c = rw (c.load.ensures, c.load-2.ensures, c.load-3.ensures, c.load-4.ensures)
