-- The log. Read the definitions first; ShapedExactly, Accepted and RoundTrips, in proofs/, have the theorems.

-- definitions
pub mod Logs
pub mod Shapes
pub mod Calls
-- what theorems are stated with
pub mod ShapedExactly
