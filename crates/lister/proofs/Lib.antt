-- Laws that the proofs of several functions cite.
pub mod Windows
pub mod Blocks
pub mod Turns
pub mod Rows
pub mod Tables
pub mod Runs
