-- Demand 3, of the code.
--   Named      the driver's events by name
--   Unaltered  those that a trace does not count alter nothing
--   Driven     a run of the code, what each event makes of it, and the contracts; that it is a mixing, and that DEMAND 3 holds of it: proofs/Driven
pub mod Named
pub mod Unaltered
pub mod Driven
