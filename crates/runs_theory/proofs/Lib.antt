-- That both engines write the same moves, and go on from where they were stopped.

-- theorems
pub mod Agree
pub mod EnginesAgree
pub mod Resumed
pub mod StoppedWalks
