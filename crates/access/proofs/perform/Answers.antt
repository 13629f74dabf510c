-- `access::perform` meets its contract: the field that a store changes lies in front of what region one needs.
use Rattle.std.proofs.Common.{arith}
use Rattle.virtio.specs.Sizes.{front_inside}
use Rattle.access.proofs.perform.Goals as goal

pub store_desc-requires : goal.store_desc-requires
store_desc-requires c =
    let w = rw c.in-StoreDesc.is at c.requires.within in
    omega (arith, w, front_inside c.args.c.modes.legacy c.args.c.n)

pub store-requires : goal.store-requires
store-requires c =
    let w = rw c.in-StoreSlot.is at c.requires.within in
    omega (arith, w, front_inside c.args.c.modes.legacy c.args.c.n)

pub store-requires-in-StoreIdx : goal.store-requires-in-StoreIdx
store-requires-in-StoreIdx c =
    omega (arith, front_inside c.args.c.modes.legacy c.args.c.n)

pub store-requires-in-StoreEvent : goal.store-requires-in-StoreEvent
store-requires-in-StoreEvent c =
    omega (arith, front_inside c.args.c.modes.legacy c.args.c.n)
