-- The output of the program `walk` (document 01) as it is made: line after line of a walk, in pages. Read the definitions
-- first.

-- definitions
pub mod Pages
