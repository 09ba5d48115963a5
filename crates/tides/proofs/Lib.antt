pub mod Cuts
pub mod Courses
pub mod Writing
pub mod Answered
