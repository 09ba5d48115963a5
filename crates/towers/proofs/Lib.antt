-- Laws that the proofs of several functions cite.
pub mod Games
pub mod Plays
pub mod Ranges
pub mod Runs
pub mod Steps
