-- The theorems say what the definitions in specs/ have to do with each other, and the laws are what proofs cite.

-- theorems
pub mod Members
pub mod Ranks
pub mod Rulers
pub mod FirstMoves
pub mod Bounds
pub mod Packing
pub mod RoundTrips
pub mod Faults
pub mod Turns
pub mod Unlocked
pub mod SingleCalls
pub mod Examples
-- laws
pub mod Bools
pub mod Sizes
pub mod Increments
pub mod Digits
pub mod Ranking
pub mod Reversals
pub mod Refusals
pub mod DigitRanges
pub mod Gathers
pub mod Filled
pub mod Places
pub mod WalkArrays
pub mod WordRanges
pub mod Openings
pub mod RunLaws
