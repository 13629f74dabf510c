-- VIRTIO 1.1's split virtqueue, section by section, and the two layouts that document 01 takes.
--   Desc     2.6.5: a descriptor, its flags, its 16 bytes; the buffer it speaks of
--   Layout   2.6, 2.6.2: sizes of the parts for any queue size; 01 part 1: where the parts lie, flexible and legacy
--   Sizes    facts of these sizes, proved once for any queue size
--   Memory   2.6.5, 2.6.6, 2.6.8: each field of the parts as a place in the lent memory; a load, a store
--   Chain    2.6.4, 2.6.5, 2.6.5.3: how a device reads the chain at a head, plain or by an indirect table
--   ChainCases  chains that a device can read, and one that breaks each rule
--   Device   2.6.6, 2.6.8: what each side may write
--   Notify   2.6.7, 2.6.10: when the other side asks to be notified, by flags and by event index
pub mod Desc
pub mod Layout
pub mod Sizes
pub mod Memory
pub mod Chain
pub mod ChainCases
pub mod Device
pub mod Notify
