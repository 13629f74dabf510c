-- The fresh nexts.
pub mod Nexts
