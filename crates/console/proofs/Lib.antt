-- What the proofs of this crate share.
--   Count  that a number takes one count of digits
mod Count
