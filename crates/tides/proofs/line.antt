-- Laws that the proofs of several functions cite.
pub mod Answered
pub mod Ranges
pub mod Notices
pub mod Words
pub mod Dates
pub mod Readings
