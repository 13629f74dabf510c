-- `fields::store_desc` meets its contract: the four stores ensure the four nested stores of `put_desc`.
use Rattle.virtio.specs.Desc.{put_desc}
use Rattle.fields.proofs.store_desc.Goals as goal

pub returns : goal.returns
unfolding put_desc
returns c = rw (c.store-4.ensures, c.store-3.ensures, c.store-2.ensures, c.store.ensures)
