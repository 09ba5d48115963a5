pub mod Putting
pub mod FirstLines
