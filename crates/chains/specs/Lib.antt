-- The walk of free list and chains.
--   Links   what it answers, and what its loops know of the ends of chains
pub mod Links
