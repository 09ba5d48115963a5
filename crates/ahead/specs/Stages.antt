-- What private functions of the engine ask for and answer.
use Rattle.std.specs.Prelude.{ℕ, ◌+◌, ◌^◌, ◌≤◌, ◌<◌, ◌≡◌, true, List, length, take, get_or}
use Rattle.gray_theory.specs.Radices.{all_from}
use Rattle.gray_theory.specs.Locks.{moving_in_range}
use Rattle.gray_theory.specs.Unlocked.{looked_up}
use Rattle.gray_theory.specs.DirectedWords.{DirectedWord, survey_in, Rooms}
use Rattle.gray_theory.specs.WordRanges.{WordRange}
use Rattle.ahead_theory.specs.States.{Walk, open_check, producer_in_range}
use Rattle.ahead_theory.specs.Kept.{EntryDigit}
use Rattle.ahead.specs.declared.Progress.{Progress}
use Rattle.ahead.specs.Structs.{producer_with}

-- numbers of digits that have a radix
pub record DigitNumbers (radices numbers : List ℕ) : Type 0 where
  pub room : length radices ≡ 48
  pub from_one : (i : ℕ) → i < length numbers → 1 ≤ get_or numbers i 0
  pub last : (i : ℕ) → i < length numbers → get_or numbers i 0 ≤ 48

-- the numbers of count digits that move, of n, at the start of an array: where all move, each stands at its own place
pub record MovingNumbers (numbers : List ℕ) (n count : ℕ) : Type 0 where
  pub held : length numbers ≡ 48
  pub most : count ≤ 48
  pub from_one : (i : ℕ) → i < count → 1 ≤ get_or numbers i 0
  pub last : (i : ℕ) → i < count → get_or numbers i 0 ≤ 48
  pub direct : count ≡ n → (i : ℕ) → i < count → get_or numbers i 0 ≡ i + 1

-- their radices
abbrev pub moving_of : List ℕ → List ℕ → ℕ → List ℕ
moving_of radices numbers count = looked_up radices (take count numbers)

-- a survey's radices in an array, and the numbers of its digits that move
pub record Survey (radices numbers : List ℕ) (n count : ℕ) : Type 0 where
  pub room : length radices ≡ 48
  pub moving : MovingNumbers numbers n count
  pub two : all_from 2 (moving_of radices numbers count) ≡ true

-- what is known of a state once its survey and the digits that move are tested
pub record Known (d : DirectedWord) : Type 0 where
  pub most : d.n ≤ 48
  pub one : all_from 1 (survey_in d) ≡ true
  pub moving : moving_in_range (survey_in d) d.moving ≡ true

-- what a work step asks for. That the place lies in 1 to one more than the digits that move follows from the range; it is said
-- again where the proof's search finds it
pub record Workable (radices numbers : List ℕ) (n count c : ℕ) (counter queue : List ℕ) (at : Progress) : Type 0 where
  pub survey : Survey radices numbers n count
  pub most : count ≤ 48
  pub long : length counter ≡ 49
  pub wide : length queue ≡ 32
  pub capacity : c ≤ 32
  pub ranged : producer_in_range (moving_of radices numbers count) c (producer_with counter queue at) ≡ true
  pub from_one : 1 ≤ at.place
  pub last : at.place ≤ count + 1
  pub small : at.steps + 1 < 2 ^ 64

-- what a move of digit k asks for
pub record DigitToMove (w : Walk) (k : ℕ) : Type 0 where
  pub rooms : Rooms w.directed
  pub word : WordRange (open_check w.capacity) w.directed
  pub digit : EntryDigit w k
  pub small : w.moves + 1 < 2 ^ 64
