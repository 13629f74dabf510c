-- The check of a record over lent words.
--   Groups  the groups of clauses in order, and which tells the first broken clause
--   Room    what the check asks of the words
--   Parts   the sections of lent tables, by field
--   Numbers the numbers of the clauses
pub mod Groups
pub mod Room
pub mod Parts
pub mod Numbers
