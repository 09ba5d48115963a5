-- The Gregorian calendar, and the minutes counted from 2000-01-01 00:00 (document 02, request 1).
use Rattle.std.specs.Prelude.{ℕ, zero, suc, ◌+◌, ◌-◌, ◌*◌, ◌%◌, Bool, cond, ◌&&◌, ◌||◌, not, eqb, leb, ltb}

-- every fourth year is a leap year, but not every hundredth, and yet every four-hundredth
abbrev pub is_leap : ℕ → Bool
is_leap year = eqb (year % 400) 0 || eqb (year % 4) 0 && not (eqb (year % 100) 0)

unfoldable pub days_in_year : ℕ → ℕ
days_in_year year = cond (is_leap year) 366 365

-- April, June, September and November have 30 days
abbrev pub has_thirty_days : ℕ → Bool
has_thirty_days month = eqb month 4 || eqb month 6 || eqb month 9 || eqb month 11

-- the days of a month of a year
unfoldable pub days_in_month : ℕ → ℕ → ℕ
days_in_month year month = cond (eqb month 2) (cond (is_leap year) 29 28) (cond (has_thirty_days month) 30 31)

pub record Date : Type 0 where
  pub year : ℕ
  pub month : ℕ
  pub day : ℕ

-- which dates exist
abbrev pub exists : Date → Bool
exists d = leb 1 d.month && leb d.month 12 && leb 1 d.day && leb d.day (days_in_month d.year d.month)

-- the day after a date: after the last day of a month comes the first of the next, and after the last month of a year the first
-- of the next
unfoldable pub day_after : Date → Date
day_after d =
    cond (ltb d.day (days_in_month d.year d.month))
    (record { year = d.year; month = d.month; day = d.day + 1 })
    (cond (ltb d.month 12)
    (record { year = d.year; month = d.month + 1; day = 1 })
    (record { year = d.year + 1; month = 1; day = 1 }))

-- ---- counted from 2000-01-01
abbrev pub first_day : Date
first_day = record { year = 2000; month = 1; day = 1 }

-- the day that comes n days after it
unfoldable pub days_later : ℕ → Date
days_later zero = first_day
days_later (suc n) = day_after (days_later n)

-- the days of k years from 2000 on, and of the first k months of a year
unfoldable pub days_of_years : ℕ → ℕ
days_of_years zero = 0
days_of_years (suc k) = days_of_years k + days_in_year (2000 + k)

unfoldable pub days_of_months : ℕ → ℕ → ℕ
days_of_months year zero = 0
days_of_months year (suc k) = days_of_months year k + days_in_month year (suc k)

-- the number of a day, of dates from 2000 on
abbrev pub day_number : Date → ℕ
day_number d = days_of_years (d.year - 2000) + days_of_months d.year (d.month - 1) + (d.day - 1)

-- the minute of a date and a time
abbrev pub minute_of : Date → ℕ → ℕ → ℕ
minute_of d hour minute = day_number d * 1440 + hour * 60 + minute
