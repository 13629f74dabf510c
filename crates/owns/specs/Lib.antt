-- The owning queue's clauses and refusals.
--   Numbers   the clauses by number, and what a check's result tells
--   Owns      the owning record as the code's parts say it
--   Turns     the loops over heads and over the free list, turn by turn
--   Clauses   the clauses in order, case by case
--   Refused   the refusals in order, case by case
pub mod Numbers
pub mod Owns
pub mod Turns
pub mod Clauses
pub mod Refused
