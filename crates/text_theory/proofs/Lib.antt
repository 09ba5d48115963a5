-- That numbers are read back as they are written, what a line fits in, and examples.

-- theorems
pub mod Numerals
pub mod Kept
pub mod Examples
pub mod Output
-- laws
pub mod Fits
