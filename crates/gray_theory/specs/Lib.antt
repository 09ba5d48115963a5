-- The reflected mixed-radix Gray code. Read the definitions first: they transcribe document 01. The theorems and the laws about
-- them are in proofs/.

-- definitions
pub mod Answers
pub mod Radices
pub mod Locks
pub mod Words
pub mod Changes
pub mod Costs
pub mod MoveBytes
pub mod Calls
pub mod Directions
pub mod Arrays
pub mod Capacities
pub mod DirectedWords
pub mod Engines
pub mod RunCalls
-- forms that theorems tie to those
pub mod Indexed
-- what theorems are stated with
pub mod Bounds
pub mod Faults
pub mod Unlocked
pub mod SingleCalls
-- what laws are stated with
pub mod Bools
pub mod Places
pub mod WalkArrays
pub mod WordRanges
pub mod RunLaws
