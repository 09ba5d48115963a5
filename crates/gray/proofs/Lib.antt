-- Laws that the proofs of several functions cite.
pub mod Laws
-- laws of calls that pass a refusal on
pub mod Passing
