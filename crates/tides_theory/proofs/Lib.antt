-- What the definitions of tide windows come to: days, lines, windows, moves, and the two calls.

-- theorems
pub mod Days
pub mod Centuries
pub mod Exact
pub mod NoticeFiles
pub mod Apart
pub mod MostMoves
pub mod Agree
pub mod Cases
-- laws
pub mod FieldDigits
pub mod Chunks
pub mod QuickDays
pub mod Accepting
pub mod Few
