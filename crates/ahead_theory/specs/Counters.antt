-- The counter of the producer, with the places cleared by carries.
use Rattle.std.specs.Prelude.{ℕ, drop, replicate}
use mathlib.Core.List.{List, ◌++◌}

-- the first p places are 0
abbrev pub cleared : ℕ → List ℕ → List ℕ
cleared p l = replicate p 0 ++ drop p l
