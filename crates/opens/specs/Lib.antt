-- The caller's list, and the record part by part after an opening.
--   Given     the list, and what the parts of an opening do
--   Turns     the list and its tests, one buffer at a time
--   Stores    filling and copying, one buffer at a time
--   Openings  the numbers of an opening, and the record that its parts make
--   Sames     comparison of lists, one buffer at a time
--   Matching  whether a list is the one that was added under a token
pub mod Given
pub mod Turns
pub mod Stores
pub mod Openings
pub mod Sames
pub mod Matching
