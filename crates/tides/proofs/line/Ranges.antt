-- The numbers of a line that are in their ranges: their bounds, and the minute that they say.
use Prim.Native.Nat.{ℕ, ◌+◌, ◌-◌, ◌*◌, ◌/◌, ◌%◌, ◌^◌, ◌≤◌, ◌<◌}
use native.Mathlib.Omega.{arith}
use mathlib.Core.Path.{◌≡◌, refl, ap, ◌∙◌}
use mathlib.Core.Bool.{Bool, true, false, cond, and-eq-true_iff}
use borrow.Author.Tests.{leb-true, le-leb}
use lib.Dec.{eqb, leb}
use Rattle.tides_theory.specs.Calendar.{days_in_month, days_of_years, days_of_months, day_number}
use Rattle.tides_theory.proofs.QuickDays.{quick_years, quick_length, quick_months}
use Rattle.tides.specs.declared.line.Fields.{Fields}
use Rattle.tides.specs.Stages.{among, leap_day, length_of, lacking, date_ranged, time_ranged, start_in, time_in, minute_in}
use Rattle.tides.proofs.line.Answered.{all_three}

-- ---- months
-- a leap year has one day more, and no month more than 31
pub leap_day_bound : (k : ℕ) → leap_day k ≤ 1
unfolding leap_day
leap_day_bound k = go (eqb (k % 4) 0)
  where
    go : (leap : Bool) → cond leap 1 0 ≤ 1
    go true = omega arith
    go false = omega arith

pub length_bound : (k m : ℕ) → length_of k m ≤ 31
unfolding length_of
length_bound k m = go (eqb m 2)
  where
    go : (february : Bool) → cond february (28 + leap_day k) (30 + (m + m / 8) % 2) ≤ 31
    go true = omega (arith, leap_day_bound k)
    go false = omega arith

-- the months are as long as in the calendar
pub length_is : (k m : ℕ) → k < 100 → 1 ≤ m → m ≤ 12 → days_in_month (2000 + k) m ≡ length_of k m
unfolding length_of leap_day
length_is k m h one twelve = quick_length k m h one twelve

-- ---- ranges
-- what a number in its range says
pub record Among (pair first last : ℕ) : Type 0 where
  pub from : 528 + first ≤ pair
  pub to : pair ≤ 528 + last

pub among-says : (pair first last : ℕ) → among pair first last ≡ true → Among pair first last
among-says pair first last e =
    let (a, b) = (and-eq-true_iff (leb (528 + first) pair) (leb pair (528 + last))).0 e in
    record { from = leb-true (528 + first) pair a; to = leb-true pair (528 + last) b }

-- and what the numbers of a date, and of a time, say that are in their ranges
pub record DateRanged (f : Fields) : Type 0 where
  pub years : Among f.years 0 99
  pub month : Among f.month 1 12
  pub day : Among f.day 1 (length_of (f.years - 528) (f.month - 528))
  pub short : length_of (f.years - 528) (f.month - 528) ≤ 31

pub date_ranged_says : (f : Fields) → date_ranged f ≡ true → DateRanged f
unfolding date_ranged
date_ranged_says f e =
    let length = length_of (f.years - 528) (f.month - 528) in
    let (y, m, d) = all_three (among f.years 0 99) (among f.month 1 12) (among f.day 1 length) e in
    record {
      years = among-says f.years 0 99 y;
      month = among-says f.month 1 12 m;
      day = among-says f.day 1 length d;
      short = length_bound (f.years - 528) (f.month - 528);
    }

pub record TimeRanged (f : Fields) : Type 0 where
  pub hour : Among f.hour 0 23
  pub minute : Among f.minute 0 59

pub time_ranged_says : (f : Fields) → time_ranged f ≡ true → TimeRanged f
unfolding time_ranged
time_ranged_says f e =
    let (h, m) = (and-eq-true_iff (among f.hour 0 23) (among f.minute 0 59)).0 e in
    record { hour = among-says f.hour 0 23 h; minute = among-says f.minute 0 59 m }

-- and back
among_shown : (pair first last : ℕ) → Among pair first last → among pair first last ≡ true
among_shown pair first last a = rw (le-leb (528 + first) pair a.from, le-leb pair (528 + last) a.to) refl

pub date_ranged_shown : (f : Fields) → DateRanged f → date_ranged f ≡ true
unfolding date_ranged
date_ranged_shown f r =
    rw (
      among_shown f.years 0 99 r.years,
      among_shown f.month 1 12 r.month,
      among_shown f.day 1 (length_of (f.years - 528) (f.month - 528)) r.day,
    ) refl

pub time_ranged_shown : (f : Fields) → TimeRanged f → time_ranged f ≡ true
unfolding time_ranged
time_ranged_shown f r = rw (among_shown f.hour 0 23 r.hour, among_shown f.minute 0 59 r.minute) refl

-- ---- the minute at which a date begins
-- the days before a month, and what February lacks to 30
pub months-and_lack : (k m : ℕ) → k < 100 → 1 ≤ m → m ≤ 12
    → days_of_months (2000 + k) (m - 1) + lacking k m ≡ (m * 367 - 362) / 12
unfolding lacking leap_day
months-and_lack k m h one twelve =
    let same : 367 * m ≡ m * 367 = omega arith in
    quick_months k m h one twelve ∙ ap (λ n. (n - 362) / 12) same

-- the days before a date, as the code counts them. They are few, and so are their minutes
abbrev pub days_by : Fields → ℕ → ℕ
days_by f lack =
    (f.years - 528) * 365 + (f.years - 528 + 3) / 4 + ((f.month - 528) * 367 - 362) / 12 - lack + (f.day - 528) - 1

few_days : (k m d lack : ℕ) → k < 100 → m ≤ 12 → d ≤ 31
    → k * 365 + (k + 3) / 4 + (m * 367 - 362) / 12 - lack + d - 1 < 2 ^ 16
few_days k m d lack hk hm hd = omega arith

pub days_few : (f : Fields) (lack : ℕ) → DateRanged f → days_by f lack < 2 ^ 16
days_few f lack r =
    few_days (f.years - 528) (f.month - 528) (f.day - 528) lack (omega arith) (omega arith) (omega arith)

-- and their number is that of the day
counted : (k m d : ℕ) → k < 100 → 1 ≤ m → m ≤ 12 → 1 ≤ d
    → k * 365 + (k + 3) / 4 + (m * 367 - 362) / 12 - lacking k m + d - 1
    ≡ day_number (record { year = 2000 + k; month = m; day = d })
counted k m d h one twelve first =
    let same : 2000 + k - 2000 ≡ k = omega arith in
    let years = ap days_of_years same ∙ quick_years k (omega arith) in
    let months = months-and_lack k m h one twelve in
    omega arith

pub start_counted : (f : Fields) → DateRanged f
    → days_by f (lacking (f.years - 528) (f.month - 528)) * 1440 ≡ start_in f
start_counted f r =
    ap (λ n. n * 1440)
    (counted (f.years - 528) (f.month - 528) (f.day - 528) (omega arith) (omega arith) (omega arith) (omega arith))

-- with the minute of the day it fits
few_minutes : (days start time : ℕ) → days < 2 ^ 16 → days * 1440 ≡ start → time < 2 ^ 16 → start + time < 2 ^ 64
few_minutes days start time h e k = omega arith

time_few : (f : Fields) → TimeRanged f → time_in f < 2 ^ 16
time_few f r = omega arith

pub minute_fits : (f : Fields) → DateRanged f → TimeRanged f → minute_in f < 2 ^ 64
minute_fits f d t =
    let lack = lacking (f.years - 528) (f.month - 528) in
    few_minutes (days_by f lack) (start_in f) (time_in f) (days_few f lack d) (start_counted f d) (time_few f t)
