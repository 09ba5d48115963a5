-- Laws that the proofs of several functions cite.
pub mod Laws
-- laws of what needs this crate's types
pub mod Advances
pub mod DirectedMoves
