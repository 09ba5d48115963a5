-- The disk engine. Read the definitions first, then the game: the theorem in DisksWalk, in proofs/, says that the definitions
-- play it along the list.

-- definitions
pub mod States
pub mod Choices
pub mod Calls
-- what is promised of whole runs
pub mod Game
-- what theorems are stated with
pub mod Examples
