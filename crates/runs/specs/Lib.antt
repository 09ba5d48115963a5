-- What the calls and private functions answer.
pub mod Enums
pub mod Stages
