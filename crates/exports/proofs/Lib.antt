-- What the proofs of the exported functions share.
--   Told     what C is answered is what record, or a call over lent tables, answers
pub mod Told
