-- How long a sluice rests between its moves (document 02, request 5). Read the definitions first.

-- definitions
pub mod Rests
