-- Bounds on what a call can answer: the last numbers of refusals, and lengths below 2^63.
use Rattle.std.specs.Prelude.{ℕ, ◌^◌, ◌<◌}

-- the last number of document 01's list of refusals
abbrev pub last : ℕ
last = 11

-- ---- numbers
abbrev pub Short : ℕ → Type 0
Short v = v < 2 ^ 63

-- ---- tides
-- the last number that a harbour file can be refused by (document 02)
abbrev pub last_of_tides : ℕ
last_of_tides = 13
