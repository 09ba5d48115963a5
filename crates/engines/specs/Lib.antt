-- The calls of either engine: each is the call of the engine that it is made on.

-- definitions
pub mod Engines
pub mod Structs
