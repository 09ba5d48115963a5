-- Laws that the proofs of several functions cite.
pub mod Ranges
pub mod Steps
pub mod Loads
pub mod Calls
pub mod Openings
pub mod Stands
pub mod Fills
pub mod Resumes
