-- What the entries of the work-ahead queue cost: the step formula of demand 3 (document 004, section 10.3).
use Rattle.std.specs.Prelude.{ℕ, ◌+◌, ◌*◌, ◌/◌, List, [], ◌∷◌}

-- the whole parts of j / (p m_1), j / (p m_1 m_2), .., j / (p m_1 .. m_n), added up
unfoldable pub whole_parts : ℕ → ℕ → List ℕ → ℕ
whole_parts j p [] = 0
whole_parts j p (m ∷ ms) = j / (p * m) + whole_parts j (p * m) ms

-- the useful steps that finish entry j: j and the whole parts of j / m_1, j / (m_1 m_2), .., j / N
abbrev pub cost : List ℕ → ℕ → ℕ
cost ms j = j + whole_parts j 1 ms
