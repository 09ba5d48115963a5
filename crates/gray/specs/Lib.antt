-- What the code of this crate adds to the definitions and theorems of the crate `gray_theory`: what needs the types that are
-- declared here.

-- definitions
pub mod Enums
-- what private functions answer
pub mod Stages
