-- What follows from the rules alone.
-- What well formed means:
--   WellFormedIs  a record passes the test of ten clauses exactly where it is well formed in plain words
--   Placed        where a descriptor stands: in the free list, or in just one chain
--   Held          a record as private memory can hold it
-- What keeps it so:
--   FreshKeeps, NewKeeps   a fresh record is well formed and held, so what a good new makes
--   FillLaws, AddKeeps   the opening of a direct add; its list is out under its head, every other chain as it was
--   ListKeeps     the opening of an indirect add, likewise
--   FreeLaws, PopKeeps   the freeing of a token's chain: it stands first in the free list, every other chain as it was
--   StepKeeps     a step, whatever number it loads
--   HeldKeeps     steps and openings, as to what memory can hold
--   Allowed       what is so of a call that nothing refuses
--   CallKeeps     runs, pop and peek, opened and whole, over any memory
--   Opening       add, opened and whole
--   EveryKeeps    every call, in one law; and the calls of a single step leave the record as it is
-- What the whole call add does:
--   Added         its closed form: answer, value, steps, record, memory; what it, its opening and each of its steps leave of the record
--   Stored, Followed   descriptors stored apart are read back; a table that holds a list means it to a device
--   Reads, DirectReads, ListReads, Published   what an add publishes is read by VIRTIO's rules as the list given, direct and indirect
-- Runs and whole calls:
--   Runs          how one run follows another, and how many steps they count
--   StepsLeft     how many steps an open call may still take at most, so that n + 4 close it and a run takes the lesser of its budget and of what those take
--   Regions       steps keep the layout and the lengths of the regions
--   Whole         add, pop and peek: closed, and the opening and its steps, however shared out among runs
--   Popped        pop and peek in closed form
--   StepsExact    exactly how many it still takes on the memory that it finds, with nothing in between: the number
--   PopFrees      a pop, and each of its steps, frees its token's chain or nothing
-- Who writes what:
--   Writers       a step makes exactly one access; it stores to the driver's fields and loads the device's, and no others
-- What calls depend on, and what they change:
--   Depends, CallDepends   what answers and records depend on, of shared memory: of a step and a run; of an opening and a whole call
--   StepsAlike    the same of successive public steps, whatever becomes of the memory in between
--   Changes       which bytes an access may change, and the places that an open call may store to
--   CallChanges   which bytes a public step and set_dev_notify may change, and the places of an add
--   Still         what leaves the memory as it is: openings, peek, and every refusal; and all lengths
-- The owning queue:
--   OwnIs         a record passes its test exactly where it is well formed in plain words: each token's buffer is out, alone and whole, or in hand
--   OwnFree       what that says of the descriptors: with nothing held none is free, else just the held token's
--   OwnAdds       one buffer added by itself
--   OwnNew        owning new, refused, and what one that is not makes
--   OwnViews      what the view of a poll is, and only a poll has one
--   OwnPoll       poll and release: refused, nothing ready, number 4, and a buffer shown
--   OwnKeeps      what passes through, and what it is that calls keep
pub mod WellFormedIs
pub mod Placed
pub mod Held
pub mod FreshKeeps
pub mod NewKeeps
pub mod FillLaws
pub mod AddKeeps
pub mod ListKeeps
pub mod FreeLaws
pub mod PopKeeps
pub mod StepKeeps
pub mod HeldKeeps
pub mod Allowed
pub mod CallKeeps
pub mod Opening
pub mod EveryKeeps
pub mod Added
pub mod Stored
pub mod Followed
pub mod Reads
pub mod DirectReads
pub mod ListReads
pub mod Published
pub mod Runs
pub mod StepsLeft
pub mod Regions
pub mod Whole
pub mod Popped
pub mod StepsExact
pub mod PopFrees
pub mod Writers
pub mod Depends
pub mod CallDepends
pub mod StepsAlike
pub mod Changes
pub mod CallChanges
pub mod Still
pub mod OwnIs
pub mod OwnFree
pub mod OwnAdds
pub mod OwnNew
pub mod OwnViews
pub mod OwnPoll
pub mod OwnKeeps
