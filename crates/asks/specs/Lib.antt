-- The calls of a single step over lent words and bytes, as the rules have them.
--   Outcomes  the rules' outcome of what the code answers
--   Refused   what is answered where a refusal applies, and where none does
--   Singles   calls of a single step
pub mod Outcomes
pub mod Refused
pub mod Singles
