-- That the definitions in specs/ play the game along the list, from the theorems down to what they are proved with.

-- theorems
pub mod DisksWalk
pub mod Examples
pub mod Openings
pub mod Kept
-- the run: why smaller disks are aside, for three pegs and for a ring, the states of each rank, the disk chosen, one call
pub mod Stacks
pub mod Pairs
pub mod Rings
pub mod Canonical
pub mod Choosing
pub mod Moving
-- laws
pub mod Smallest
pub mod InRange
