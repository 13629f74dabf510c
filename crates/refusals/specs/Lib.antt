-- Refusals.
--   Told      what the code was told, by numbers
--   Refusals  the calls' refusals as lists of tests
--   Checked   what a call has that nothing refuses
pub mod Told
pub mod Refusals
pub mod Checked
