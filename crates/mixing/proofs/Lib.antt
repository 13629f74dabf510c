-- Demand 3, proved, and what follows.
--   Proved    DEMAND 3, PROVED
-- How:
--   Whole     a turn is one whole call or one whole act, so THE ORDER is that of last events; what is left to show is `Swaps`
--   DeviceKeeps   the device's openings and steps keep the invariant
--   Kept      every event keeps it
--   SwapLoads   an event of the device that stores nothing, beside one of the driver
--   DeviceDoes   what the driver can see of an event of the device
--   Swap      events change places
--   Start     a fresh queue meets the invariant
-- What follows:
--   WholeCalls  a whole call of the statement is the rules' whole call
--   Ends      every mixing can be brought to its end, so that the statement leaves none out
--   Orders    in what explains a mixing each operation is whole, and each side's are in its own order
--   Takes     what the device takes is the chain by VIRTIO's own rule
--   TakesAdded  a take that follows a whole add takes that add's list
-- Computed:
--   Mixings   the mixings of specs/Mixings, with the order that explains each
--   MoreMixings  mixings of a queue of size 4, with event indices, and across the indices' wrap: the proof's own order of each, computed
pub mod Whole
pub mod DeviceKeeps
pub mod Kept
pub mod SwapLoads
pub mod DeviceDoes
pub mod Swap
pub mod Start
pub mod Proved
pub mod WholeCalls
pub mod Ends
pub mod Orders
pub mod Takes
pub mod TakesAdded
pub mod Mixings
pub mod MoreMixings
