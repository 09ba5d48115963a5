-- The state of the disk engine and when it is in range (document 01, "The disk engine").
use Rattle.std.specs.Prelude.{ℕ, ◌≡◌, Bool, true, cond, ◌&&◌, ◌||◌, not, List, eqb, ltb, leb, length, get_or}
use Rattle.gray_theory.specs.Answers.{Answer, given, refusing}
use Rattle.gray_theory.specs.Radices.{of_radices, Limits}
use Rattle.gray_theory.specs.Locks.{unlocked}
use Rattle.gray_theory.specs.Words.{even}
use Rattle.gray_theory.specs.Directions.{all_below}
use Rattle.gray_theory.specs.DirectedWords.{DirectedWord, Rooms, survey_in, setting_in, moving_in, word_in_range}

-- the state as document 01 lists it: what both engines keep (survey, setting, directions), the turn and the pegs. For odd counts the
-- turn says which pair of pegs is next, 0 for the left one; a disk's peg follows from its notch, and the list of pegs plays no part.
-- For even ones the turn counts the moves of disk 1 in its sweep, and each disk's peg is stored.
pub record Towers : Type 0 where
  pub directed : DirectedWord
  pub turn : ℕ
  pub pegs : List ℕ

-- the lengths that the arrays of a state have
pub record Arrays (s : Towers) : Type 0 where
  pub directed : Rooms s.directed
  pub pegs : length s.pegs ≡ 48

-- ---- the survey
unfoldable pub all_odd : List ℕ → Bool
all_odd ms = all_below (length ms) (λ i. not (even (get_or ms i 0)))

-- the radix of disk 1. Where all are equal it is document 01's m, and the ring has m + 1 pegs
abbrev pub common : List ℕ → ℕ
common ms = get_or ms 0 0

-- a radix is even and the same as m
abbrev pub even_and_equal : ℕ → ℕ → Bool
even_and_equal m radix = even radix && eqb radix m

unfoldable pub all_even_and_equal : List ℕ → Bool
all_even_and_equal ms = all_below (length ms) (λ i. even_and_equal (common ms) (get_or ms i 0))

-- refusal 6: the counts of the digits that move are neither all odd nor all even and equal. With none they are all odd
abbrev pub wrong_counts : List ℕ → Bool
wrong_counts ms = not (all_odd (unlocked ms) || all_even_and_equal (unlocked ms))

-- the checks of an opening: refusals 2, 3, 4 of the survey, then 6
abbrev pub open_check : List ℕ → Answer Unit
open_check ms = of_radices ms (refusing 6 (wrong_counts ms) (given tt))

-- document 01, "Limits", and refusal 6: what holds of a survey that passes them
pub record Openable (ms : List ℕ) : Type 0 where
  pub survey : Limits ms
  pub counts : (all_odd (unlocked ms) || all_even_and_equal (unlocked ms)) ≡ true

-- the survey and the setting that a state holds
abbrev pub survey : Towers → List ℕ
survey s = survey_in s.directed

abbrev pub setting : Towers → List ℕ
setting s = setting_in s.directed

-- there is a disk for each digit that moves, numbered among those: their counts
abbrev pub disks : Towers → List ℕ
disks s = moving_in s.directed

-- ---- the range
-- the turn is 0 or 1 for odd counts, 0 to m − 1 for even ones
abbrev pub turn_in_range : List ℕ → ℕ → Bool
turn_in_range ms turn = ltb turn (cond (all_odd ms) 2 (common ms))

-- for even counts each disk's peg lies within 0 to m; for odd ones the pegs of the array play no part
abbrev pub pegs_in_range : List ℕ → List ℕ → Bool
pegs_in_range ms pegs = all_odd ms || all_below (length ms) (λ i. leb (get_or pegs i 0) (common ms))

-- document 01: the disk engine could be opened on the survey, setting and directions are as in the buffered engine, and turn and
-- pegs lie within their bounds; document 02: the digits that move are those of the survey
unfoldable pub in_range : Towers → Bool
in_range s =
    word_in_range open_check s.directed
    && turn_in_range (disks s) s.turn
    && pegs_in_range (disks s) s.pegs
