-- The calls over a lent list of buffers.
--   Long     a list that no queue takes: what its answer depends on
--   Gather   the copy of a list, and what stands for it in the calls
pub mod Long
pub mod Gather
