-- The writer of settings. Read the definitions first; Reflections, in proofs/, has the theorem about the two listers.

-- definitions
pub mod Listers
pub mod Calls
