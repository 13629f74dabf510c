-- More of what follows from the rules alone: laws that rest on others of specs/, which an edit in must-fail/ makes wrong.
--   StepsExact    exactly how many steps an open call still takes on the memory that it finds, so that a run takes the lesser of its budget and of them
--   Changes       which bytes a step may change: those of the places that its call may store to
--   CallChanges   which bytes runs and whole calls may change
--   UsedStays     no call changes region two or the used ring
-- The owning queue:
--   OwnFree       with a token held, its descriptor is the next that an add takes
--   OwnAdds       the held buffer given back under its own token
--   OwnNew        what a new that answers 0 makes, and which one does
--   OwnViews      a view lies inside its own token's buffer
--   OwnPoll       release, number 10, and poll in one equation
--   OwnKeeps      every call leaves a good record good; no buffer is lost or doubled
--   OwnBetween    so does a poll between whose look and pop the device writes
--   OwnShown      what a poll shows is what is viewed afterwards
--   OwnDepends    what owning answers depend on, of memory and store; what becomes of the store
--   OwnChanges    which bytes of memory owning calls may change
pub mod StepsExact
pub mod Changes
pub mod CallChanges
pub mod UsedStays
pub mod OwnFree
pub mod OwnAdds
pub mod OwnNew
pub mod OwnViews
pub mod OwnPoll
pub mod OwnKeeps
pub mod OwnBetween
pub mod OwnShown
pub mod OwnDepends
pub mod OwnChanges
