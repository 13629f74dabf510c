-- Numbers and lists, with nothing of virtio in them.
--   Index     indices that count mod 65,536
--   Bytes     little-endian fields of any width in a list of bytes, and their laws
--   Tests     tests as facts
--   Pick      the first of a list of tests that holds; a test at each of a run of numbers; a run of a list's entries
--   Walk      the numbers along links
--   Once      a list that names each of 0..n-1 once: the computed test, and its plain meaning
--   Visit     the same test, as nested loops make it that mark the names they meet
--   Places    where a number stands that is named once
--   WalkLaws  laws of walks: split, met twice, along links of which some have changed
--   Stores    what stores to a list leave
--   PickLaws  laws of Pick's definitions
--   Digits    the binary digits of a number, and what or, and, shifts and runs of ones make of them
--   Marks     the marks that 64-bit words say, one bit each: a bit set is read back, and the others stay
--   Visited   names visited and marked: what is left, and how visits are joined
--   MarkRuns  a run of marks in one word, marked at once, as a visit
--   Runs      runs of links that rise or fall, as the beginning of a walk
--   Asked     what a check of names knows on its way, where links may lead out
pub mod Index
pub mod Bytes
pub mod Tests
pub mod Pick
pub mod Walk
pub mod Once
pub mod Visit
pub mod Places
pub mod WalkLaws
pub mod Stores
pub mod PickLaws
pub mod Digits
pub mod Marks
pub mod Visited
pub mod MarkRuns
pub mod Runs
pub mod Asked
