-- The driver's rules (document 01), as a small machine over numbers and lists. Everything computes.
--   Record      the private record, what it says, stores to it
--   WellFormed  when it is well formed: ten clauses, the first broken one
--   Meaning     the same in plain words
--   Answer      the numbers of "When the queue says no", and what a call answers
--   Refused     the code's type of a refusal, by number
--   Step        one access of the open call, and the record's reaction to it
--   Refused     the refusals of the code as numbers
--   Calls       refusals, openings, runs, whole calls, calls of a single step
--   New         the call new
--   Owning      the owning queue
--   Computing   a name that opens every definition that a worked example runs through
-- Tried, each file one statement over one list:
--   Cases       the cases that document 01 marks P
--   Worked      01's worked replay, and what calls leave in memory
--   Orders      each two refusals that follow one another in 01's orders
--   Clauses     each clause of a well-formed record, broken
--   NewCorners  new over memory that held 9s, flexible and legacy
--   Corners     the queue's calls: each ground of a refusal, links and slots other than the first
--   LegacyCorners  the used ring in region one
--   OwningCorners  each clause of an owning record, broken; what its calls leave
pub mod Record
pub mod WellFormed
pub mod Meaning
pub mod Answer
pub mod Refused
pub mod Step
pub mod Calls
pub mod New
pub mod Owning
pub mod Computing
pub mod Cases
pub mod Worked
pub mod Orders
pub mod Clauses
pub mod NewCorners
pub mod Corners
pub mod LegacyCorners
pub mod OwningCorners
