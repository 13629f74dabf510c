-- The owning queue's struct and answers as the rules' records, and what the proofs of its calls cite.
--   Owned   struct and answers, and that an equation of answers is one of structs
--   Sound   what a well-formed owning record has
--   Cases   the rules' calls case by case, by what the code's parts answer
--   Making  new, and its adds one after the other
--   Kept    what the laws say of the struct
pub mod Owned
pub mod Sound
pub mod Cases
pub mod Making
pub mod Kept
