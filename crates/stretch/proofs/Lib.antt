-- Laws that the proofs of several functions cite.
pub mod Paths
pub mod Calls
pub mod Running
