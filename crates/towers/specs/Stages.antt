-- What private functions of the engine ask for and answer.
use Rattle.std.specs.Prelude.{ℕ, Option, Some, None, ◌+◌, ◌-◌, ◌≤◌, ◌<◌, ◌≡◌, Bool, true, false, ◌&&◌, ◌||◌, not, List, ◌∷◌, eqb, ltb, leb, length, get_or, set}
use Rattle.std.proofs.Math.Option as theory
use Rattle.gray_theory.specs.Answers.{Answer, given, is_given}
use Rattle.gray_theory.specs.Radices.{of_radices}
use Rattle.gray_theory.specs.Locks.{moving_in_range}
use Rattle.gray_theory.specs.Words.{even}
use Rattle.gray_theory.specs.MoveBytes.{move_byte}
use Rattle.gray_theory.specs.Changes.{Change}
use Rattle.gray_theory.specs.Directions.{digit_in_range}
use Rattle.gray_theory.specs.Engines.{Event, moved, ended, Handed}
use Rattle.digit.specs.Advances.{advanced_from}
use Rattle.towers_theory.specs.States.{Towers, survey, disks, in_range, Arrays}

-- a search's answer, as the theory has it
abbrev pub found : Option ℕ → theory.Option ℕ
found None = theory.none
found (Some i) = theory.some i

-- the first part of the range rule: the survey is within its limits, and the digits that move are its own
abbrev pub limits_check : List ℕ → Answer Unit
limits_check ms = of_radices ms (given tt)

unfoldable pub survey_fits : Towers → Bool
survey_fits s = leb s.directed.n 48 && is_given (limits_check (survey s)) && moving_in_range (survey s) s.directed.moving

-- the radix of the last disk; where there is no disk, 1
abbrev pub last_radix : List ℕ → ℕ
last_radix ms = get_or (1 ∷ ms) (length ms) 0

-- a radix goes with that of the last disk, m
abbrev pub plays : ℕ → ℕ → Bool
plays m radix = ltb radix 2 || (eqb radix m || (not (even m) && not (even radix)))

-- what a closure answers, as its bound's `post` has it, is a test of the byte that it is given
abbrev pub TestsBytes : (ℕ → Bool → Type 0) → (ℕ → Bool) → Type 0
TestsBytes post test = (byte : ℕ) (answer : Bool) → byte < 256 → post byte answer → answer ≡ test byte

-- there is a number at an index of the digits that move; where all move (free) it is that of the index
pub record DigitAt (free : Bool) (digits : List ℕ) (i : ℕ) : Type 0 where
  pub within : i < length digits
  pub from_one : 1 ≤ get_or digits i 0
  pub direct : free ≡ true → get_or digits i 0 ≡ i + 1

-- the disks' digits have a notch and a radix, which is at least 2
pub record PairDisks (radices word : List ℕ) (free : Bool) (digits : List ℕ) : Type 0 where
  pub long : length word ≡ length radices
  pub number : (i : ℕ) → i < length digits → DigitAt free digits i
  pub last : (i : ℕ) → i < length digits → get_or digits i 0 ≤ length radices
  pub two : (i : ℕ) → i < length digits → 2 ≤ get_or radices (get_or digits i 0 - 1) 0

-- ---- a call of a run, in lent arrays
-- a digit that moves stands in range
pub record Movable (radices : List ℕ) (at : ℕ) (word : List ℕ) (downs : List Bool) : Type 0 where
  pub few : at < 48
  pub radix : at < length radices
  pub notch : at < length word
  pub direction : at < length downs
  pub stands : leb 2 (get_or radices at 0) && digit_in_range (get_or radices at 0) (get_or word at 0) (get_or downs at false) ≡ true

-- what its move leaves, and the byte
pub record DigitMoved
    (radices : List ℕ) (at : ℕ) (word : List ℕ) (downs : List Bool) (byte : ℕ) (newWord : List ℕ) (newDowns : List Bool)
    : Type 0 where
  pub says : byte ≡ move_byte (at + 1) (get_or downs at false)
  pub words : newWord ≡ set word at (advanced_from (get_or radices at 0) (get_or word at 0) (get_or downs at false)).digit
  pub turns : newDowns ≡ set downs at (advanced_from (get_or radices at 0) (get_or word at 0) (get_or downs at false)).down

-- the state that the arrays and numbers of a run stand for
abbrev pub state_of : List ℕ → ℕ → List ℕ → ℕ → List ℕ → ℕ → List Bool → List ℕ → Towers
state_of radices n digits count word turn downs pegs = record {
  directed =
      record { radices = radices; n = n; moving = record { digits = digits; count = count }; word = word; downs = downs };
  turn = turn;
  pegs = pegs;
}

-- a state in range, whose game m tells
pub record Playing (m : ℕ) (s : Towers) : Type 0 where
  pub ranged : in_range s ≡ true
  pub long : Arrays s
  pub told : m ≡ last_radix (disks s)

-- a move: the state that the engine's call hands back, and the byte of the change that it names
pub record MoveMade (handed : Handed Towers Event) (byte : ℕ) (left : Towers) : Type 0 where
  pub hands : handed.state ≡ left
  pub change : Change
  pub notch : ℕ
  pub answers : handed.answer ≡ given (moved change notch)
  pub says : byte ≡ move_byte change.digit change.down

-- what a call of a run leaves, a state but for its turn: the engine's call says end and leaves the turn, or makes the move whose
-- byte comes with the turn after it
abbrev pub Called : Handed Towers Event → (ℕ → Towers) → ℕ → Option (ℕ × ℕ) → Type 0
Called handed left turn None = handed ≡ record { state = left turn; answer = given ended }
Called handed left turn (Some made) = MoveMade handed made.0 (left made.1)
