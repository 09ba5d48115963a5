-- What both engines keep (document 01, "The buffered engine", "The disk engine"): the survey, a word (setting) of it with a direction
-- for each digit, and, as document 02 adds, the digits that move. The arrays have digit 1 first, and room for 48 digits; what they
-- hold past digit n plays no part.
use Rattle.std.specs.Prelude.{ℕ, ◌-◌, ◌≡◌, Bool, false, ◌&&◌, List, leb, length, get_or, take, replicate}
use Rattle.gray_theory.specs.Answers.{Answer, is_given}
use Rattle.gray_theory.specs.Arrays.{filled}
use Rattle.gray_theory.specs.Changes.{Change}
use Rattle.gray_theory.specs.Locks.{MovingDigits, unlocked, moving_digits, moving_in_range}
use Rattle.gray_theory.specs.Directions.{word_moved, downs_moved, digits_in_range}
use Rattle.gray_theory.specs.Engines.{Event, moved_to}

-- the survey (radices and their number n), the digits that move, in rising order, the word, and the directions (down or not)
pub record DirectedWord : Type 0 where
  pub radices : List ℕ
  pub n : ℕ
  pub moving : MovingDigits
  pub word : List ℕ
  pub downs : List Bool

-- the lengths that its arrays have
pub record Rooms (d : DirectedWord) : Type 0 where
  pub radices : length d.radices ≡ 48
  pub moving : length d.moving.digits ≡ 48
  pub word : length d.word ≡ 48
  pub downs : length d.downs ≡ 48

-- the radices of all digits, and of those that move; the word of the digits there are
abbrev pub survey_in : DirectedWord → List ℕ
survey_in d = take d.n d.radices

abbrev pub moving_in : DirectedWord → List ℕ
moving_in d = unlocked (survey_in d)

abbrev pub setting_in : DirectedWord → List ℕ
setting_in d = take d.n d.word

-- of a survey: its radices with zeros after them, the digits that move, and these two arrays
abbrev pub directed_on : List ℕ → List ℕ → List Bool → DirectedWord
directed_on ms word downs = record {
  radices = filled 48 0 ms;
  n = length ms;
  moving = moving_digits ms;
  word = word;
  downs = downs;
}

-- ---- a fresh one: the word all 0, directions all up
abbrev pub fresh_with : List ℕ → ℕ → MovingDigits → DirectedWord
fresh_with radices n moving = record {
  radices = radices;
  n = n;
  moving = moving;
  word = replicate 48 0;
  downs = replicate 48 false;
}

abbrev pub fresh_word : List ℕ → DirectedWord
fresh_word ms = fresh_with (filled 48 0 ms) (length ms) (moving_digits ms)

-- ---- the range: the survey passes the engine's check, each digit stands below its radix, with a direction that is up at 0 and, unless
-- it is locked, down at m − 1, and the digits that move are those of the survey. (There is no room for more than 48, whatever n is.)
unfoldable pub word_in_range : (List ℕ → Answer Unit) → DirectedWord → Bool
word_in_range check d =
    leb d.n 48
    && is_given (check (survey_in d))
    && digits_in_range d.n d.radices d.word d.downs
    && moving_in_range (survey_in d) d.moving

-- ---- a move: digit k, at index k − 1, goes one notch in its direction, which turns if the digit is then at an end
unfoldable pub digit_moved : DirectedWord → ℕ → DirectedWord
digit_moved d k = record {
  radices = d.radices;
  n = d.n;
  moving = d.moving;
  word = word_moved d.word d.downs (k - 1);
  downs = downs_moved d.radices d.word d.downs (k - 1);
}

-- the change that it is
abbrev pub change_by : DirectedWord → ℕ → Change
change_by d k = record { digit = k; down = get_or d.downs (k - 1) false }

-- what the call that makes it says: the change, and the digit's notch in the setting that it leaves (document 02, "A move names the
-- notch it reaches")
abbrev pub event_by : DirectedWord → ℕ → Event
event_by d k = moved_to (change_by d k) (setting_in (digit_moved d k))
