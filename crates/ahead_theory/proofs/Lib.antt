-- That the definitions in specs/ keep the demand, from the theorems down to what they are proved with.

-- theorems
pub mod WorkAhead
pub mod PickedUp
pub mod Examples
pub mod Openings
pub mod Kept
pub mod PastTheEnd
-- the run: its numbers and their invariants, the states that follow from them, one call, the events, the phases, the clauses
pub mod Positions
pub mod Canonical
pub mod RunRanges
pub mod Rounds
pub mod Capacity
pub mod Standing
pub mod Tallies
pub mod Phases
pub mod Clauses
-- laws
pub mod Entries
pub mod Counters
pub mod InRange
pub mod Filling
pub mod FillLaws
-- a run of moves on local arrays: what it leaves undone, and that it is the engine's
pub mod Stretches
pub mod LocalWork
pub mod LocalMoves
pub mod LocalCalls
pub mod LocalRuns
