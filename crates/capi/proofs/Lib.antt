-- That a caller can tell answers apart, and laws.

-- theorems
pub mod Told
pub mod TellsApart
pub mod RunsTellApart
pub mod FreshRuns
-- laws
pub mod Checked
