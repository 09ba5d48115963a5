-- That the pages hold the output of the program `walk` (document 01).

-- theorems
pub mod Printed
pub mod Examples
-- laws
pub mod Lengths
pub mod WalkLines
pub mod PageLaws
