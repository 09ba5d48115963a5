-- Locked digits: those of radix 1, which have one position and never move (document 02, "Sluices locked for the season"). The other
-- digits move, and what works ahead runs over those alone.
use Rattle.std.specs.Prelude.{ℕ, suc, ◌<◌, ◌≡◌, Bool, cond, ◌&&◌, List, [], ◌∷◌, ◌++◌, map, leb, eqb, length, get_or}
use Rattle.gray_theory.specs.Arrays.{filled}
use Rattle.gray_theory.specs.Directions.{all_below}

-- the radices of the digits that move, digit 1 first
unfoldable pub unlocked : List ℕ → List ℕ
unlocked [] = []
unlocked (m ∷ ms) = cond (leb 2 m) (m ∷ unlocked ms) (unlocked ms)

-- the numbers of the digits that move, in rising order: 1 if digit 1 moves, and then those of the slower digits, which are
-- numbered one higher
unfoldable pub moving : List ℕ → List ℕ
moving [] = []
moving (m ∷ ms) = cond (leb 2 m) (1 ∷ map suc (moving ms)) (map suc (moving ms))

-- those numbers, and n + 1 after them: place i of a counter over the digits that move is place `get_or (numbered ms) (i − 1) 0` of one
-- over all digits
abbrev pub numbered : List ℕ → List ℕ
numbered ms = moving ms ++ (suc (length ms) ∷ [])

-- ---- in an engine's state
-- the digits that move, in an array with room for 48, and how many they are
pub record MovingDigits : Type 0 where
  pub digits : List ℕ
  pub count : ℕ

-- those of a survey, with zeros after them
abbrev pub moving_digits : List ℕ → MovingDigits
moving_digits ms = record { digits = filled 48 0 (moving ms); count = length (moving ms) }

-- the range rule: they are the digits of the survey that move, in rising order, and no other
unfoldable pub moving_in_range : List ℕ → MovingDigits → Bool
moving_in_range ms v = eqb v.count (length (moving ms)) && all_below v.count (λ i. eqb (get_or v.digits i 0) (get_or (moving ms) i 0))

-- the same as a statement: as many as move, and each in its place
pub record MovingSays (ms : List ℕ) (v : MovingDigits) : Type 0 where
  pub count : v.count ≡ length (unlocked ms)
  pub digits : (i : ℕ) → i < length (unlocked ms) → get_or v.digits i 0 ≡ get_or (moving ms) i 0
