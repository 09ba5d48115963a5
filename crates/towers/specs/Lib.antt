-- What the code of this crate adds to the definitions and theorems of the crate `towers_theory`: the structs that are declared
-- here in its terms, and what only private functions cite.

-- definitions
pub mod Structs
-- what private functions ask for and answer
pub mod Stages
