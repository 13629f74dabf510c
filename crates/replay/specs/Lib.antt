-- The replay as a function of its text.
--   Words    the keys of its lines
--   Replay   header, blocks, and all that is printed
--   Plays    how the code's struct says a replay under way
--   Laws     what the code needs of the text that it read
--   Sides    the two lists of an add or a pop
--   Blocks   blocks by what was read of them, and one after another
--   Header   the header by what was read of it, the lent memory, and new
--   Forward  each block moves on, so that a replay ends by its text alone
--   Small    the numbers of a whole call
--   Length   how much a replay prints at most, and that all of it is written where there is room
--   Example  the replay that document 01 gives whole
pub mod Words
pub mod Replay
pub mod Plays
pub mod Laws
pub mod Sides
pub mod Blocks
pub mod Header
pub mod Forward
pub mod Small
pub mod Length
pub mod Example
