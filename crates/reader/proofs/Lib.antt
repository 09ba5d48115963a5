-- That the reader comes to what document 01 says of the whole input, and laws.

-- theorems
pub mod Reading
pub mod Examples
-- laws that the proofs of several functions cite
pub mod Numbers
pub mod Readings
