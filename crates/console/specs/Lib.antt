-- What this crate's contracts cite.
--   Digits  what a number, and a text with a number behind it, adds to what a writer holds
pub mod Digits
