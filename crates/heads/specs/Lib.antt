-- Laws of what the clauses over single heads test.
--   Rest   whether the rest of a list of buffers is sound, buffer by buffer
--   Look   buffers one after another, as what is looked at tells them
--   Heads  the numbers of a head's slot, and its tests
pub mod Rest
pub mod Heads
pub mod Look
