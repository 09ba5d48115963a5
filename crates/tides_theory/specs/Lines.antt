-- The harbour file (document 02, request 1): lines of exactly the form `2031-04-07,05:12,H`, each ended by a newline. A date
-- from 2000 to 2099, the minute of the day in UTC, H or L for high or low water.
use Rattle.std.specs.Prelude.{ℕ, zero, suc, ◌/◌, ◌%◌, ◌^◌, ◌≡◌, Bool, true, false, cond, ◌&&◌, ◌||◌, eqb, leb, get_or, take, drop}
use mathlib.Core.List.{List, [], ◌∷◌, ◌++◌, map, flatten}
use Rattle.text_theory.specs.Ascii.{ascii}
use Rattle.text_theory.specs.Decimals.{glyph, is_digit, value}
use Rattle.text_theory.specs.Surveys.{newline, joined_to}
use Rattle.tides_theory.specs.Calendar.{Date, exists}

-- the letters H and L
abbrev pub high_letter : ℕ
high_letter = 72

abbrev pub low_letter : ℕ
low_letter = 76

-- ---- read
-- the lines of a file, each with its newline; bytes behind the last newline are a line without one
unfoldable pub lines_in : List ℕ → List (List ℕ)
lines_in [] = []
lines_in (b ∷ file) = cond (eqb b newline) ((b ∷ []) ∷ lines_in file) (joined_to b (lines_in file))

-- the form of a line: 0 stands for any digit, H for H or L, and every other byte for itself
abbrev pub form : List ℕ
form = ascii "0000-00-00,00:00,H\n"

abbrev pub fits_place : ℕ → ℕ → Bool
fits_place f b = cond (eqb f 48) (is_digit b) (cond (eqb f high_letter) (eqb b high_letter || eqb b low_letter) (eqb b f))

unfoldable pub has_form : List ℕ → List ℕ → Bool
has_form [] [] = true
has_form [] (b ∷ line) = false
has_form (f ∷ fs) [] = false
has_form (f ∷ fs) (b ∷ line) = fits_place f b && has_form fs line

-- what a line says: a high or low water, and when
pub record Notice : Type 0 where
  pub date : Date
  pub hour : ℕ
  pub minute : ℕ
  pub high : Bool

-- the number that the k digits from place a on say
abbrev pub field : ℕ → ℕ → List ℕ → ℕ
field a k line = value (take k (drop a line))

unfoldable pub notice_in : List ℕ → Notice
notice_in line = record {
  date = record { year = field 0 4 line; month = field 5 2 line; day = field 8 2 line };
  hour = field 11 2 line;
  minute = field 14 2 line;
  high = eqb (get_or line 17 0) high_letter;
}

-- a year from 2000 to 2099, a date that exists, a time from 00:00 to 23:59
unfoldable pub in_range : Notice → Bool
in_range n = leb 2000 n.date.year && leb n.date.year 2099 && exists n.date && leb n.hour 23 && leb n.minute 59

-- a line that is read
unfoldable pub is_line : List ℕ → Bool
is_line line = has_form form line && in_range (notice_in line)

unfoldable pub all_lines : List (List ℕ) → Bool
all_lines [] = true
all_lines (line ∷ others) = is_line line && all_lines others

-- what the lines of a file say, in file order
abbrev pub notices_in : List ℕ → List Notice
notices_in file = map notice_in (lines_in file)

-- ---- written
-- the k low digits of a number, high digit first
unfoldable pub digits_of : ℕ → ℕ → List ℕ
digits_of zero v = []
digits_of (suc k) v = glyph (v / 10 ^ k % 10) ∷ digits_of k v

-- the line of a notice
unfoldable pub line_of : Notice → List ℕ
line_of n =
    digits_of 4 n.date.year ++ ascii "-" ++ digits_of 2 n.date.month ++ ascii "-" ++ digits_of 2 n.date.day
    ++ ascii "," ++ digits_of 2 n.hour ++ ascii ":" ++ digits_of 2 n.minute
    ++ ascii "," ++ cond n.high (ascii "H") (ascii "L") ++ ascii "\n"

-- the file of some notices: their lines, one after another
abbrev pub file_of : List Notice → List ℕ
file_of ns = flatten (map line_of ns)

unfoldable pub all_in_range : List Notice → Bool
all_in_range [] = true
all_in_range (n ∷ ns) = in_range n && all_in_range ns

-- ---- what reading promises
-- a line that is read as a notice
pub record ReadAs (line : List ℕ) (n : Notice) : Type 0 where
  pub read : is_line line ≡ true
  pub says : notice_in line ≡ n

-- a file that is read as notices, and one that is the file of notices, all of which are in range
pub record FileReadAs (file : List ℕ) (ns : List Notice) : Type 0 where
  pub read : all_lines (lines_in file) ≡ true
  pub says : notices_in file ≡ ns

pub record IsFileOf (file : List ℕ) (ns : List Notice) : Type 0 where
  pub ranged : all_in_range ns ≡ true
  pub bytes : file ≡ file_of ns
