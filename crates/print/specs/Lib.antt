-- What a replay prints.
--   Words     its keys
--   Print     numbers, lines, and text written to lent bytes
--   Laws      one more byte of a text, pieces as one text, and io's digits as the decimal
--   Examples  worked examples
pub mod Words
pub mod Print
pub mod Laws
pub mod Examples
pub mod Page
