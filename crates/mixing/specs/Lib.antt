-- Demand 3. What is stated; what depends on it is proved in proofs/.
--   Device    a device that keeps the rules: its record, its acts, one load or store at a time
--   Writers   what it writes
--   Mix       events of the two sides, and the trace that they leave
--   Demand    THE STATEMENT: a mixing with nothing left open leaves what whole operations in some order leave
--   Mixings   mixings of a queue of size 2, with where each ends and the order that explains it
--   Single    one of a queue of size 1, in the legacy layout
--   Tried     five mixings with all their orders tried
--   WrongRules   five wrong rules, each of which leaves one of these five without an order that explains it
--   WholeCalls, Orders   the rules' whole call; the calls and the acts of an order, and that each is whole
-- For its proof:
--   Turns     THE REDUCTION for sides in general, however many: events that leave an operation open change places with those of other sides
--   Fields    fields beside each other: loads after stores, stores that change places
--   Facts     THE INVARIANT, with counters that do not wrap and a stage for each head
--   Stages, Shows   what changes of a stage, and stores to fields of which the invariant does not speak, leave
--   DriverMoves, Adding, AddSteps, Publishes, PopSteps, Opens   the driver's keep it: add's steps and the last of them, pop's and peek's, openings
--   Shaping   calls and steps leave the size and the modes
--   Seen      what the device can see of an event of the driver
--   SwapStores   an event of the device that stores, beside one of the driver
pub mod Device
pub mod Writers
pub mod Mix
pub mod Demand
pub mod Mixings
pub mod Single
pub mod Turns
pub mod Fields
pub mod Facts
pub mod Stages
pub mod Shows
pub mod DriverMoves
pub mod Adding
pub mod AddSteps
pub mod Publishes
pub mod PopSteps
pub mod Opens
pub mod Shaping
pub mod Seen
pub mod SwapStores
pub mod WholeCalls
pub mod Tried
pub mod WrongRules
pub mod Orders
