-- How the calls for C and Rust give their answers.

-- definitions
pub mod Encoding
-- what theorems are stated with
pub mod Told
pub mod TellsApart
