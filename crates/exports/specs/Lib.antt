-- The records that C keeps as the record's struct, and why no open call is lost.
--   Flat     C's structs as the record's
--   Closed   whole calls leave none open
--   One      two outcomes are one
pub mod Flat
pub mod Closed
pub mod One
