-- Tide windows from the harbour file (document 02, request 1). Read the definitions first.

-- definitions
pub mod Calendar
pub mod Lines
pub mod Windows
pub mod Fitting
pub mod Calls
-- what theorems are stated with
pub mod Cases
