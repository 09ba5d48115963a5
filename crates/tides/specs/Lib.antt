-- What the private functions on a harbour file answer.

-- definitions
pub mod Stages
