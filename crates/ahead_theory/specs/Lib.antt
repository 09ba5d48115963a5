-- The buffered engine. Read the definitions first, then the demand: the theorems, in proofs/, say that the definitions keep it.

-- definitions
pub mod States
pub mod Work
pub mod Calls
pub mod Events
pub mod Pickups
-- what is promised of whole runs
pub mod Demand
pub mod GoingOn
-- what theorems are stated with
pub mod Examples
pub mod Kept
-- what they are proved with: the numbers of a run, the states that follow from them, one call
pub mod Positions
pub mod Canonical
pub mod Rounds
-- what laws are stated with
pub mod Counters
pub mod Filling
-- a run of moves on local arrays: its model, and what it leaves undone
pub mod Locals
pub mod Stretches
