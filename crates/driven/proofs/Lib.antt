-- Demand 3 of the code, proved.
--   Makes    what answers as the rules do meets the contract of `driven::drive`
--   Driven   a run of the code is a mixing, and DEMAND 3 holds of it
pub mod Makes
pub mod Driven
