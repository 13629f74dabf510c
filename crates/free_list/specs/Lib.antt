-- The walk of the free list.
--   Linked   numbers that a function counts, each of which links to the next
pub mod Linked
