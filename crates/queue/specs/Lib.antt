-- The calls of several steps over lent words and bytes, as the rules have them.
--   Outcomes  the rules' outcome of a step; what a call that was opened has
--   Steps     a step, a run's turn and its ends; what a step keeps
--   Opened    openings by their refusals; whole calls
--   Going     a call that was opened can go on
pub mod Outcomes
pub mod Steps
pub mod Opened
pub mod Going
