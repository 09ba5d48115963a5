-- Cases of document 02's request 1 as one table.
use Rattle.std.specs.Prelude.{ℕ, ◌≡◌, Bool, true, false, List, [], ◌∷◌, ◌++◌, map}
use Rattle.gray_theory.specs.Answers.{Answer, given, refused}
use Rattle.text_theory.specs.Ascii.{ascii}
use Rattle.tides_theory.specs.Calendar.{days_in_month, Date, exists, day_after}
use Rattle.tides_theory.specs.Lines.{notice_in, is_line}
use Rattle.tides_theory.specs.Windows.{tide_of}
use Rattle.tides_theory.specs.Calls.{counts_call, may_begin_call}

-- what a row is about: numbers, a date, whether something is so, or what one of the calls answers
pub data Case : Type 0 where
  number : ℕ → Case
  numbers : List ℕ → Case
  day : Date → Case
  truth : Bool → Case
  counts : Answer (List ℕ) → Case
  begins : Answer Bool → Case

-- a row: what the definitions give, and what it has to be
pub record Row : Type 0 where
  pub computed : Case
  pub said : Case

abbrev pub Holds : Row → Type 0
Holds r = r.computed ≡ r.said

abbrev pub row : Case → Case → Row
row a b = record { computed = a; said = b }

abbrev date : ℕ → ℕ → ℕ → Date
date y m d = record { year = y; month = m; day = d }

abbrev months : List ℕ
months = 1 ∷ 2 ∷ 3 ∷ 4 ∷ 5 ∷ 6 ∷ 7 ∷ 8 ∷ 9 ∷ 10 ∷ 11 ∷ 12 ∷ []

-- the minute of a line
abbrev minute : List ℕ → ℕ
minute line = (tide_of (notice_in line)).at

-- a high water on 2031-04-07 at 05:12, and a line behind it
abbrev high : List ℕ → List ℕ
high behind = ascii "2031-04-07,05:12,H\n" ++ behind

-- a high water at minute 0 and a low water at minute 120: a window from 60 to 120
abbrev early : List ℕ
early = ascii "2000-01-01,00:00,H\n2000-01-01,02:00,L\n"

unfoldable pub table : List Row
table =
    -- minutes are counted from 2000-01-01 00:00, to the last of 2099
    row (number (minute (ascii "2000-01-01,00:00,H\n"))) (number 0)
    ∷ row (number (minute (ascii "2000-01-01,00:01,L\n"))) (number 1)
    ∷ row (number (minute (ascii "2000-03-01,00:00,L\n"))) (number 86400)
    ∷ row (number (minute (ascii "2031-04-07,05:12,H\n"))) (number 16443672)
    ∷ row (number (minute (ascii "2099-12-31,23:59,L\n"))) (number 52595999)
    -- which dates exist
    ∷ row (truth (exists (date 2000 2 29))) (truth true)
    ∷ row (truth (exists (date 2096 2 29))) (truth true)
    ∷ row (truth (exists (date 2001 2 29))) (truth false)
    ∷ row (truth (exists (date 2100 2 29))) (truth false)
    ∷ row (truth (exists (date 2400 2 29))) (truth true)
    ∷ row (truth (exists (date 2031 4 31))) (truth false)
    ∷ row (truth (exists (date 2031 12 31))) (truth true)
    ∷ row (truth (exists (date 2031 13 1))) (truth false)
    ∷ row (truth (exists (date 2031 0 1))) (truth false)
    ∷ row (truth (exists (date 2031 1 0))) (truth false)
    -- the days of the twelve months
    ∷ row (numbers (map (days_in_month 2031) months)) (numbers (31 ∷ 28 ∷ 31 ∷ 30 ∷ 31 ∷ 30 ∷ 31 ∷ 31 ∷ 30 ∷ 31 ∷ 30 ∷ 31 ∷ []))
    ∷ row (numbers (map (days_in_month 2096) months)) (numbers (31 ∷ 29 ∷ 31 ∷ 30 ∷ 31 ∷ 30 ∷ 31 ∷ 31 ∷ 30 ∷ 31 ∷ 30 ∷ 31 ∷ []))
    -- the day after
    ∷ row (day (day_after (date 2096 2 28))) (day (date 2096 2 29))
    ∷ row (day (day_after (date 2100 2 28))) (day (date 2100 3 1))
    ∷ row (day (day_after (date 2031 12 31))) (day (date 2032 1 1))
    -- which lines are read
    ∷ row (truth (is_line (ascii "2031-04-07,05:12,H\n"))) (truth true)
    ∷ row (truth (is_line (ascii "2099-12-31,23:59,L\n"))) (truth true)
    ∷ row (truth (is_line (ascii "2100-01-01,00:00,H\n"))) (truth false)
    ∷ row (truth (is_line (ascii "1999-12-31,23:59,H\n"))) (truth false)
    ∷ row (truth (is_line (ascii "2001-02-29,05:12,H\n"))) (truth false)
    ∷ row (truth (is_line (ascii "2031-04-07,24:00,H\n"))) (truth false)
    ∷ row (truth (is_line (ascii "2031-04-07,05:60,H\n"))) (truth false)
    ∷ row (truth (is_line (ascii "2031-04-07,05:12,h\n"))) (truth false)
    ∷ row (truth (is_line (ascii "2031-04-07 05:12,H\n"))) (truth false)
    ∷ row (truth (is_line (ascii "2031-4-07,05:12,H\n"))) (truth false)
    -- one window: its low water 64, 63, 60, 59, 67 and 68 minutes after its high water
    ∷ row (counts (counts_call (high (ascii "2031-04-07,06:16,L\n")) 1)) (counts (given (1 ∷ [])))
    ∷ row (counts (counts_call (high (ascii "2031-04-07,06:15,L\n")) 1)) (counts (given (0 ∷ [])))
    ∷ row (counts (counts_call (high (ascii "2031-04-07,06:12,L\n")) 1)) (counts (given (0 ∷ [])))
    ∷ row (counts (counts_call (high (ascii "2031-04-07,06:11,L\n")) 1)) (counts (given (0 ∷ [])))
    ∷ row (counts (counts_call (high (ascii "2031-04-07,06:19,L\n")) 1)) (counts (given (1 ∷ [])))
    ∷ row (counts (counts_call (high (ascii "2031-04-07,06:20,L\n")) 1)) (counts (given (2 ∷ [])))
    -- two windows, in file order, behind a first low water and before a last high water
    ∷ row (counts (counts_call (ascii "2031-04-07,01:00,L\n" ++ high (ascii "2031-04-07,06:16,L\n2031-04-07,07:00,H\n2031-04-07,08:08,L\n2031-04-08,00:00,H\n")) 5))
    (counts (given (1 ∷ 2 ∷ [])))
    -- no window: an empty file, one line, a low water first; then no place is needed
    ∷ row (counts (counts_call [] 0)) (counts (given []))
    ∷ row (counts (counts_call (high []) 0)) (counts (given []))
    ∷ row (counts (counts_call (ascii "2031-04-07,01:00,L\n" ++ high []) 0)) (counts (given []))
    -- too few places
    ∷ row (counts (counts_call (high (ascii "2031-04-07,06:16,L\n")) 0)) (counts (refused 9))
    -- equal and falling times, and the same letter twice
    ∷ row (counts (counts_call (high (ascii "2031-04-07,05:12,L\n")) 0)) (counts (refused 13))
    ∷ row (counts (counts_call (high (ascii "2031-04-07,05:11,L\n")) 0)) (counts (refused 13))
    ∷ row (counts (counts_call (high (ascii "2031-04-07,06:16,H\n")) 0)) (counts (refused 13))
    ∷ row (counts (counts_call (ascii "2031-04-07,05:12,L\n2031-04-07,06:16,L\n") 0)) (counts (refused 13))
    -- a line that is not read, behind lines out of order; no newline at the end; a blank line; a carriage return
    ∷ row (counts (counts_call (high (ascii "2031-04-07,05:12,H\n2031-04-07,05:12\n")) 0)) (counts (refused 12))
    ∷ row (counts (counts_call (high (ascii "2031-04-07,06:16,L")) 0)) (counts (refused 12))
    ∷ row (counts (counts_call (high (ascii "\n2031-04-07,06:16,L\n")) 0)) (counts (refused 12))
    ∷ row (counts (counts_call (ascii "2031-04-07,05:12,H\r\n") 0)) (counts (refused 12))
    -- when a move may begin
    ∷ row (begins (may_begin_call early 59)) (begins (given false))
    ∷ row (begins (may_begin_call early 60)) (begins (given true))
    ∷ row (begins (may_begin_call early 116)) (begins (given true))
    ∷ row (begins (may_begin_call early 117)) (begins (given false))
    ∷ row (begins (may_begin_call early 120)) (begins (given false))
    ∷ row (begins (may_begin_call early 18446744073709551615)) (begins (given false))
    ∷ row (begins (may_begin_call (early ++ ascii "2000-01-01,03:00,H\n2000-01-01,05:00,L\n") 240)) (begins (given true))
    ∷ row (begins (may_begin_call [] 60)) (begins (given false))
    ∷ row (begins (may_begin_call (early ++ ascii "2000-01-01,02:00,H\n") 60)) (begins (refused 13))
    ∷ row (begins (may_begin_call (early ++ ascii "2000-01-01,02:00,H\n2000") 60)) (begins (refused 12))
    ∷ []
