-- The moves of a fresh walk as bytes, by either engine, and of one that is picked up. Read the definitions first.

-- definitions
pub mod MoveCalls
-- what theorems are stated with
pub mod Agree
