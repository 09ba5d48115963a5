-- What the writer of settings writes; Reflections has the theorem about the two listers.

-- theorems
pub mod WordsFrom
pub mod Reflections
pub mod Examples
-- the list backward, and with one digit more at its slow end
pub mod Reversing
