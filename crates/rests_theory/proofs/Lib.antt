-- How long a sluice rests, of the list and of the calls of both engines.

-- theorems
pub mod RunRests
pub mod WhenMoves
pub mod ProductBelow
pub mod EngineRests
-- laws
pub mod Along
pub mod Multiples
pub mod Products
