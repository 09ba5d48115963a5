-- The log: which bytes are accepted, and that what is written is read back.

-- theorems
pub mod ShapedExactly
pub mod Accepted
pub mod RoundTrips
pub mod Examples
-- laws
pub mod Lengths
pub mod Sames
pub mod Parsing
