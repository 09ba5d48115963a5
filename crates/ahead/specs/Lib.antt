-- What the code of this crate adds to the definitions and theorems of the crate `ahead_theory`: what needs the types that are
-- declared here.

-- definitions
pub mod Structs
-- what private functions ask for and answer
pub mod Stages
pub mod Stretches
pub mod Pickups
