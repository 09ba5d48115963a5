-- What the private functions of this crate answer.
use Rattle.std.specs.Prelude.{ℕ, ◌+◌, ◌-◌, ◌*◌, ◌/◌, ◌%◌, ◌^◌, ◌≤◌, ◌<◌, ◌≡◌, Bool, true, false, cond, ◌&&◌, ◌||◌, not, List, [], ◌∷◌, eqb, leb, length, get_or, Option, Some, None, Result, Ok, Err}
use Rattle.text_theory.specs.Ascii.{ascii}
use Rattle.text_theory.specs.Decimals.{is_digit}
use Rattle.tides_theory.specs.Calendar.{Date, day_number}
use Rattle.tides_theory.specs.Lines.{high_letter, low_letter, notice_in, is_line}
use Rattle.tides_theory.specs.Windows.{Tide, tide_of, allows, any_allows}
use Rattle.tides_theory.specs.Calls.{windows_in, unreadable, disordered}
use Rattle.gray.specs.declared.Refusal.{Refusal}
use Rattle.gray.specs.declared.Refusal.TheVariants.{Line, Order}
use Rattle.tides.specs.declared.line.Fields.{Fields}
use Rattle.tides.specs.declared.line.Day.{Day}
use Rattle.tides.specs.declared.line.Water.{Water}
use Rattle.tides.specs.declared.line.Water.TheVariants.{High, Low}
use Rattle.tides.specs.declared.line.Tide.{Tide as LineTide}
use Rattle.tides.specs.declared.course.Course.{Course}
use Rattle.tides.specs.declared.calls.Passed.{Passed}

-- ---- one line
-- the fixed bytes of its date, the year's first two digits among them, and those behind it
abbrev pub date_marks : List ℕ → Bool
date_marks line =
    eqb (get_or line 0 0) 50 && eqb (get_or line 1 0) 48 && eqb (get_or line 4 0) 45 && eqb (get_or line 7 0) 45 && eqb (get_or line 10 0) 44

abbrev pub time_marks : List ℕ → Bool
time_marks line = eqb (get_or line 13 0) 58 && eqb (get_or line 16 0) 44 && eqb (get_or line 18 0) 10

-- the last byte of each number
abbrev pub date_ones : List ℕ → Bool
date_ones line = is_digit (get_or line 3 0) && is_digit (get_or line 6 0) && is_digit (get_or line 9 0)

abbrev pub time_ones : List ℕ → Bool
time_ones line = is_digit (get_or line 12 0) && is_digit (get_or line 15 0)

abbrev pub is_letter : ℕ → Bool
is_letter b = eqb b high_letter || eqb b low_letter

-- what its letter says
abbrev pub water : Bool → Water
water high = cond high High Low

unfoldable pub water_of : ℕ → Option Water
water_of b = cond (is_letter b) (Some (water (eqb b high_letter))) None

-- two digits as a number, with 528 added
abbrev pub pair_of : ℕ → ℕ → ℕ
pair_of a b = a * 10 + b

-- its numbers, so
abbrev pub fields_of : List ℕ → Fields
fields_of line = record {
  years = pair_of (get_or line 2 0) (get_or line 3 0);
  month = pair_of (get_or line 5 0) (get_or line 6 0);
  day = pair_of (get_or line 8 0) (get_or line 9 0);
  hour = pair_of (get_or line 11 0) (get_or line 12 0);
  minute = pair_of (get_or line 14 0) (get_or line 15 0);
}

-- a number between two others
abbrev pub among : ℕ → ℕ → ℕ → Bool
among pair first last = leb (528 + first) pair && leb pair (528 + last)

-- the calendar from 2000 to 2099, quickly
unfoldable pub leap_day : ℕ → ℕ
leap_day k = cond (eqb (k % 4) 0) 1 0

unfoldable pub length_of : ℕ → ℕ → ℕ
length_of k m = cond (eqb m 2) (28 + leap_day k) (30 + (m + m / 8) % 2)

unfoldable pub lacking : ℕ → ℕ → ℕ
lacking k m = cond (leb m 2) 0 (2 - leap_day k)

unfoldable pub date_ranged : Fields → Bool
date_ranged f = among f.years 0 99 && among f.month 1 12 && among f.day 1 (length_of (f.years - 528) (f.month - 528))

unfoldable pub time_ranged : Fields → Bool
time_ranged f = among f.hour 0 23 && among f.minute 0 59

abbrev pub date_in : Fields → Date
date_in f = record { year = 2000 + (f.years - 528); month = f.month - 528; day = f.day - 528 }

-- the minute at which the date begins, that of the day, and both
abbrev pub start_in : Fields → ℕ
start_in f = day_number (date_in f) * 1440

abbrev pub time_in : Fields → ℕ
time_in f = (f.hour - 528) * 60 + (f.minute - 528)

abbrev pub minute_in : Fields → ℕ
minute_in f = start_in f + time_in f

-- ---- its date
-- eight bytes as a number
abbrev pub word_of : List ℕ → ℕ → ℕ
word_of line i =
    get_or line i 0 + get_or line (i + 1) 0 * 256 + get_or line (i + 2) 0 * 65536 + get_or line (i + 3) 0 * 16777216
    + get_or line (i + 4) 0 * 4294967296 + get_or line (i + 5) 0 * 1099511627776 + get_or line (i + 6) 0 * 281474976710656
    + get_or line (i + 7) 0 * 72057594037927936

-- the date of a line is read
abbrev pub dated : List ℕ → Bool
dated line = date_marks line && date_ones line && date_ranged (fields_of line)

abbrev pub day_of : List ℕ → Day
day_of line = record { head = word_of line 0; tail = word_of line 3; start = start_in (fields_of line) }

unfoldable pub day_as : List ℕ → Option Day
day_as line = cond (dated line) (Some (day_of line)) None

-- the day of some line whose date is read
pub record Right (day : Day) : Type 0 where
  pub line : List ℕ
  pub read : dated line ≡ true
  pub is : day ≡ day_of line

-- the numbers of a day
abbrev pub has_numbers : List ℕ → Day → Bool
has_numbers line day = eqb (word_of line 0) day.head && eqb (word_of line 3) day.tail

-- 2000-01-01, which begins at minute 0
abbrev pub first_known : Day
first_known = record { head = word_of (ascii "2000-01-01,") 0; tail = word_of (ascii "2000-01-01,") 3; start = 0 }

-- ---- all that it says
-- the tide of a line, and its letter
abbrev pub tide_in : List ℕ → Tide
tide_in line = tide_of (notice_in line)

abbrev pub letter_of : Bool → ℕ
letter_of high = cond high high_letter low_letter

abbrev pub says : List ℕ → LineTide
says line = record { minute = (tide_in line).at; water = water (tide_in line).high; day = day_of line }

unfoldable pub line_as : List ℕ → Option LineTide
line_as line = cond (is_line line) (Some (says line)) None

-- ---- lines one after another
abbrev pub fresh_course : Course
fresh_course = record { next = 0; last = None; ordered = true; windows = 0; allowed = false }

-- whether the last letter says this
abbrev pub last_is : Option Water → Water → Bool
last_is None w = false
last_is (Some High) High = true
last_is (Some High) Low = false
last_is (Some Low) High = false
last_is (Some Low) Low = true

abbrev pub is_low : Water → Bool
is_low High = false
is_low Low = true

-- a line that closes a window
abbrev pub closes : Course → Water → Bool
closes c w = last_is c.last High && is_low w

unfoldable pub course_then : Course → LineTide → ℕ → Course
course_then c tide minute = record {
  next = tide.minute + 1;
  last = Some tide.water;
  ordered = c.ordered && leb c.next tide.minute && not (last_is c.last tide.water);
  windows = cond (closes c tide.water) (c.windows + 1) c.windows;
  allowed = cond (closes c tide.water) (c.allowed || allows (record { from = c.next + 59; to = tide.minute }) minute) c.allowed;
}

-- no sum wraps
pub record Bounded (c : Course) (tide : LineTide) : Type 0 where
  pub next_bound : c.next ≤ 2 ^ 32
  pub tide_bound : tide.minute < 2 ^ 32
  pub few : c.windows < 2 ^ 64 - 1

-- ---- a whole file
unfoldable pub passing : List ℕ → ℕ → Result Passed Refusal
passing file minute =
    cond (unreadable file) (Err Line)
    (cond (disordered file) (Err Order)
    (Ok (record { windows = length (windows_in file); allowed = any_allows (windows_in file) minute })))

-- which of its lines is the first that can open a window
unfoldable pub first_high : List (List ℕ) → ℕ
first_high [] = 0
first_high (line ∷ lines) = cond (eqb (get_or line 17 0) low_letter) 1 0
