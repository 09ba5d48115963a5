-- What a stretch does, in the theory's terms.
pub mod Stages
