-- The lines that the program `walk` writes: what they hold is in `Lines` of text_theory.

-- what private functions answer
pub mod Stages
