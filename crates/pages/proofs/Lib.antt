-- What the pages of `walk` hold as a whole, and laws.

-- theorems
pub mod Whole
pub mod Buffer
-- laws that the proofs of several functions cite
pub mod Fillings
