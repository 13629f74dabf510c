-- More facts of the sizes, which rest on others of specs/ that an edit in must-fail/ makes wrong; and of flags.
--   Sizes  no byte has two writers
--   Flags  a flag tested by its bit
pub mod Sizes
pub mod Flags
