-- The pages of `walk`: what they hold is in `Pages` of pages_theory.

-- definitions
pub mod Structs
