-- The record as a struct, and what its calls answer, as the rules' records.
--   Abs     the rules' record of the struct; it fixes the struct
--   Asked   new's question, and what the calls answer
--   Fine    new by its refusal, and what is so where it refuses nothing
--   Lent    the arrays have room for what is lent
--   Counted the outcomes of available_desc
--   Kept    a struct that passes the check passes it after every call
--   Said    what an add publishes and a pop frees, of the methods' answers
pub mod Abs
pub mod Asked
pub mod Fine
pub mod Lent
pub mod Counted
pub mod Kept
pub mod Said
