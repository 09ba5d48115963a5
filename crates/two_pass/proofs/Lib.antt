-- Laws that the proof of `rank` cites.
pub mod Laws
