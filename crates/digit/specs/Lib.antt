-- What needs this crate's types.
pub mod Advances
pub mod Moving
