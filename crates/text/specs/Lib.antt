-- How the text of a replay is read.
--   Words  its marks
--   Text   words, numbers, lines
--   Held   the buffers that were read, in number slices
--   Laws   words and numbers one byte at a time
--   Lines  lines and entries by cases
--   Turns  entries one at a time
pub mod Words
pub mod Text
pub mod Held
pub mod Laws
pub mod Lines
pub mod Turns
