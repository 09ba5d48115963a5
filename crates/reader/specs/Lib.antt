-- What the program `walk` reads, as a machine over bytes (document 01). Read the definitions first.

-- definitions
pub mod Parsing
pub mod Readers
-- what private functions answer
pub mod Stages
