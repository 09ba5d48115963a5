-- Bounds on the cost of entries: each costs what the ruler function says, entry j less than 2 j in all, and a run of d entries at
-- most 2 d + n − 1.
use Rattle.std.specs.Prelude.{ℕ, ◌+◌, ◌/◌, List, [], ◌∷◌}

-- ---- the nested form
-- the cost with one division after another
unfoldable pub nested : List ℕ → ℕ → ℕ
nested [] j = j
nested (m ∷ ms) j = j + nested ms (j / m)
