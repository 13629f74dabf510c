-- The private tables in lent words.
--   Stores  the tables with one entry changed; loads of words and stores to them, as the tables have them
--   Lent    the rules' tables that the code's structs say
--   Ready   what the code of the calls asks of words and bytes
pub mod Stores
pub mod Lent
pub mod Ready
