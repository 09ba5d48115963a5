-- The text of the program `walk` (document 01). Read the definitions first.

-- definitions
pub mod Ascii
pub mod Decimals
pub mod Surveys
pub mod Lines
pub mod Output
