-- The accesses of the code as the rules' accesses, and what its proofs cite:
--   Accesses  the rules' access that each of the code's is
--   Bounds    how large an access's numbers are
--   Cases     which access it is, by the code's tests
--   Ring      loads from the used ring
pub mod Accesses
pub mod Bounds
pub mod Cases
pub mod Ring
