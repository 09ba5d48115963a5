-- A digit with a direction, as both engines keep it (document 01, "The buffered engine"): it moves one notch in its direction,
-- which turns at either end. A direction says whether the digit goes down.
use Rattle.std.specs.Prelude.{ℕ, zero, suc, ◌+◌, ◌-◌, Bool, true, false, cond, ◌&&◌, ◌||◌, not, List, eqb, ltb, leb, get_or, set}

-- the notch that a digit at notch a moves to
abbrev pub moved_from : ℕ → Bool → ℕ
moved_from a down = cond down (a - 1) (a + 1)

-- its direction then: turned if the notch that it has come to is 0 or m − 1
abbrev pub turned_at : ℕ → ℕ → Bool → Bool
turned_at m a down = cond (eqb a 0 || eqb a (m - 1)) (not down) down

-- the word and the directions of all digits once the digit at index i has moved
abbrev pub word_moved : List ℕ → List Bool → ℕ → List ℕ
word_moved word downs i = set word i (moved_from (get_or word i 0) (get_or downs i false))

abbrev pub downs_moved : List ℕ → List ℕ → List Bool → ℕ → List Bool
downs_moved radices word downs i =
    set downs i (turned_at (get_or radices i 0) (moved_from (get_or word i 0) (get_or downs i false)) (get_or downs i false))

-- the test holds of every number below n
unfoldable pub all_below : ℕ → (ℕ → Bool) → Bool
all_below zero test = true
all_below (suc n) test = all_below n test && test n

-- a notch and a direction in range: a < m; the direction is up at 0 and, unless the digit is locked, down at m − 1
abbrev pub digit_in_range : ℕ → ℕ → Bool → Bool
digit_in_range m a down = ltb a m && not (eqb a 0 && down) && not (leb 2 m && eqb a (m - 1) && not down)

-- the range rule for the setting and the directions of n digits
abbrev pub digits_in_range : ℕ → List ℕ → List ℕ → List Bool → Bool
digits_in_range n radices word downs = all_below n (λ i. digit_in_range (get_or radices i 0) (get_or word i 0) (get_or downs i false))
