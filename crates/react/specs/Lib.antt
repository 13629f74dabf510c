-- The plain fields after a reaction and the tables after a chain was freed; the reactions case by case; the freeing's loops; what a checked record's
-- chains ask.
pub mod Reactions
pub mod Cases
pub mod Freeing
pub mod Freed
