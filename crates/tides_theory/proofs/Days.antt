-- The calendar is right: the number of a date is how many days after 2000-01-01 it comes, whatever the year.
use Rattle.std.specs.Prelude.{ℕ, zero, suc, ◌+◌, ◌-◌, ◌*◌, ◌/◌, ◌%◌, ◌≤◌, ◌<◌, ◌≡◌, refl, Bool, true, false, cond, ◌&&◌, ◌||◌, not, eqb, leb}
use Rattle.std.proofs.Math.Decide.{dec_lt}
use Rattle.std.proofs.Common.{add-zero, add-suc, add_assoc, add-one, arith, sym, ap, ◌∙◌, leb-true, eqb-true, lt-ltb, le-ltb, le-leb}
use Rattle.std.proofs.Math.Bool.{and-eq-true_iff}
use Rattle.std.proofs.lemmas.Bool.{eqb-false}
use Rattle.tides_theory.specs.Calendar.{is_leap, days_in_year, has_thirty_days, days_in_month, Date, exists, day_after, first_day, days_later, days_of_years, days_of_months, day_number}

-- ---- months
-- what they come to, February by the leap year
twelve_lengths : (leap : Bool)
    → 31 + cond leap 29 28 + 31 + 30 + 31 + 30 + 31 + 31 + 30 + 31 + 30 + 31 ≡ cond {A = ℕ} leap 366 365
twelve_lengths true = refl
twelve_lengths false = refl

-- The twelve months of a year make up its days.
pub twelve_months_make_a_year : (year : ℕ) → days_of_months year 12 ≡ days_in_year year
unfolding days_of_months days_in_month days_in_year
twelve_months_make_a_year year = twelve_lengths (is_leap year)

-- every month has a day
length_pos : (second leap thirty : Bool) → 1 ≤ cond second (cond leap 29 28) (cond thirty 30 31)
length_pos true true thirty = omega arith
length_pos true false thirty = omega arith
length_pos false leap true = omega arith
length_pos false leap false = omega arith

month_has_days : (year month : ℕ) → 1 ≤ days_in_month year month
unfolding days_in_month
month_has_days year month = length_pos (eqb month 2) (is_leap year) (has_thirty_days month)

-- ---- the days up to a month's end, and up to a year's
pub month_added : (year month : ℕ) → 1 ≤ month → days_of_months year month ≡ days_of_months year (month - 1) + days_in_month year month
unfolding days_of_months
month_added year zero h = absurd (omega arith)
month_added year (suc m) h =
    let before : suc m - 1 ≡ m = omega arith in
    ap (λ i. days_of_months year i + days_in_month year (suc m)) (sym before)

pub year_added : (year : ℕ) → 2000 ≤ year → days_of_years (year + 1 - 2000) ≡ days_of_years (year - 2000) + days_of_months year 12
unfolding days_of_years
year_added year from =
    let later : year + 1 - 2000 ≡ suc (year - 2000) = omega arith in
    let same : 2000 + (year - 2000) ≡ year = omega arith in
    ap days_of_years later
    ∙ ap (λ y. days_of_years (year - 2000) + days_in_year y) same
    ∙ ap (λ days. days_of_years (year - 2000) + days) (sym (twelve_months_make_a_year year))

-- ---- the day after
abbrev date_of : ℕ → ℕ → ℕ → Date
date_of year month day = record { year = year; month = month; day = day }

-- what holds of the day after in each of its three cases holds of it
by_cases : (P : Date → Type 0) (y m d : ℕ)
    → (d < days_in_month y m → P (date_of y m (d + 1)))
    → (days_in_month y m ≤ d → m < 12 → P (date_of y (m + 1) 1))
    → (days_in_month y m ≤ d → 12 ≤ m → P (date_of (y + 1) 1 1))
    → P (day_after (date_of y m d))
unfolding day_after
by_cases P y m d within next turn =
    elim (dec_lt d (days_in_month y m)) [
      | yes p ↦ rw (lt-ltb d (days_in_month y m) p) (within p)
      | no q ↦
          rw (le-ltb d (days_in_month y m) (omega arith))
          (elim (dec_lt m 12) [
            | yes p ↦ rw (lt-ltb m 12 p) (next (omega arith) p)
            | no r ↦ rw (le-ltb m 12 (omega arith)) (turn (omega arith) (omega arith))
          ])
    ]

-- what a date that exists says
pub record Exists (d : Date) : Type 0 where
  pub from_january : 1 ≤ d.month
  pub to_december : d.month ≤ 12
  pub from_first : 1 ≤ d.day
  pub to_last : d.day ≤ days_in_month d.year d.month

pub exists-says : (d : Date) → exists d ≡ true → Exists d
exists-says d e =
    let last = leb d.day (days_in_month d.year d.month) in
    let (abc, l) = (and-eq-true_iff (leb 1 d.month && leb d.month 12 && leb 1 d.day) last).0 e in
    let (ab, c) = (and-eq-true_iff (leb 1 d.month && leb d.month 12) (leb 1 d.day)).0 abc in
    let (a, b) = (and-eq-true_iff (leb 1 d.month) (leb d.month 12)).0 ab in
    record {
      from_january = leb-true 1 d.month a;
      to_december = leb-true d.month 12 b;
      from_first = leb-true 1 d.day c;
      to_last = leb-true d.day (days_in_month d.year d.month) l;
    }

says-exists : (y m d : ℕ) → 1 ≤ m → m ≤ 12 → 1 ≤ d → d ≤ days_in_month y m → exists (date_of y m d) ≡ true
says-exists y m d a b c l = rw (le-leb 1 m a, le-leb m 12 b, le-leb 1 d c, le-leb d (days_in_month y m) l) refl

-- 2000-01-01 is day 0.
pub first_day_is_day_0 : day_number first_day ≡ 0
unfolding days_of_years days_of_months
first_day_is_day_0 = refl

-- The day after a date that exists is one, and from 2000 on it has the next number.
pub day_after-exists : (d : Date) → exists d ≡ true → exists (day_after d) ≡ true
day_after-exists d e =
    let s = exists-says d e in
    by_cases (λ n. exists n ≡ true) d.year d.month d.day
    (λ h. says-exists d.year d.month (d.day + 1) (omega arith) (omega arith) (omega arith) (omega arith))
    (λ h l.
    says-exists d.year (d.month + 1) 1 (omega arith) (omega arith) (omega arith) (month_has_days d.year (d.month + 1)))
    (λ h l. says-exists (d.year + 1) 1 1 (omega arith) (omega arith) (omega arith) (month_has_days (d.year + 1) 1))

pub day_after_has_the_next_number : (d : Date) → 2000 ≤ d.year → exists d ≡ true → day_number (day_after d) ≡ day_number d + 1
unfolding days_of_months
day_after_has_the_next_number d from e =
    let s = exists-says d e in
    let sum = month_added d.year d.month s.from_january in
    by_cases (λ n. day_number n ≡ day_number d + 1) d.year d.month d.day
    (λ h. omega arith)
    (λ h l. let last : d.month + 1 - 1 ≡ d.month = omega arith in rw last (omega arith))
    (λ h l.
    let december : d.month ≡ 12 = omega arith in
    let year = year_added d.year from in
    let whole = ap (days_of_months d.year) december in
    omega arith)

-- ---- day after day
-- from the first day of a month to any other of its days, and to the next month's first
days_come : (n y m i : ℕ) → days_later n ≡ date_of y m 1 → i < days_in_month y m → days_later (n + i) ≡ date_of y m (suc i)
unfolding days_later
days_come n y m zero e h = ap days_later (add-zero n) ∙ e
days_come n y m (suc i) e h =
    ap days_later (add-suc n i)
    ∙ ap day_after (days_come n y m i e (omega arith))
    ∙ by_cases (λ d. d ≡ date_of y m (suc (suc i))) y m (suc i)
    (λ l. ap (date_of y m) (add-one (suc i)))
    (λ l o. absurd (omega arith))
    (λ l o. absurd (omega arith))

month_ends : (n y m : ℕ) → days_later n ≡ date_of y m 1 → days_later (n + days_in_month y m) ≡ day_after (date_of y m (days_in_month y m))
unfolding days_later
month_ends n y m e =
    let some = month_has_days y m in
    let last : suc (days_in_month y m - 1) ≡ days_in_month y m = omega arith in
    let next : n + days_in_month y m ≡ suc (n + (days_in_month y m - 1)) = omega arith in
    ap days_later next ∙ ap day_after (days_come n y m (days_in_month y m - 1) e (omega arith) ∙ ap (date_of y m) last)

-- from the first day of a year to that of any month
months_come : (n y i : ℕ) → days_later n ≡ date_of y 1 1 → i < 12 → days_later (n + days_of_months y i) ≡ date_of y (suc i) 1
unfolding days_of_months
months_come n y zero e h = ap days_later (add-zero n) ∙ e
months_come n y (suc i) e h =
    ap days_later (sym (add_assoc n (days_of_months y i) (days_in_month y (suc i))))
    ∙ month_ends (n + days_of_months y i) y (suc i) (months_come n y i e (omega arith))
    ∙ by_cases (λ d. d ≡ date_of y (suc (suc i)) 1) y (suc i) (days_in_month y (suc i))
    (λ l. absurd (omega arith))
    (λ l o. ap (λ m. date_of y m 1) (add-one (suc i)))
    (λ l o. absurd (omega arith))

-- from 2000-01-01 to the first day of any year
years_come : (k : ℕ) → days_later (days_of_years k) ≡ date_of (2000 + k) 1 1
unfolding days_later days_of_years days_of_months
years_come zero = refl
years_come (suc k) =
    let y = 2000 + k in
    let n = days_of_years k in
    let next : y + 1 ≡ 2000 + suc k = omega arith in
    ap (λ days. days_later (n + days)) (sym (twelve_months_make_a_year y))
    ∙ ap days_later (sym (add_assoc n (days_of_months y 11) (days_in_month y 12)))
    ∙ month_ends (n + days_of_months y 11) y 12 (months_come n y 11 (years_come k) (omega arith))
    ∙ by_cases (λ d. d ≡ date_of (2000 + suc k) 1 1) y 12 (days_in_month y 12)
    (λ l. absurd (omega arith))
    (λ l o. absurd (omega arith))
    (λ l o. ap (λ y. date_of y 1 1) next)

-- Every date from 2000 on that exists is reached from 2000-01-01, day after day, in as many days as its number.
pub dates_come_by_their_number : (d : Date) → 2000 ≤ d.year → exists d ≡ true → days_later (day_number d) ≡ d
dates_come_by_their_number d from e =
    let s = exists-says d e in
    let year : 2000 + (d.year - 2000) ≡ d.year = omega arith in
    let month : suc (d.month - 1) ≡ d.month = omega arith in
    let day : suc (d.day - 1) ≡ d.day = omega arith in
    let first = rw year at (years_come (d.year - 2000)) in
    let begun = rw month at (months_come (days_of_years (d.year - 2000)) d.year (d.month - 1) first (omega arith)) in
    let n = days_of_years (d.year - 2000) + days_of_months d.year (d.month - 1) in
    rw day at (days_come n d.year d.month (d.day - 1) begun (omega arith))

-- ---- years
-- each quotient grows by 1 at its leap years
fourth : (k : ℕ) (b : Bool) → eqb ((2000 + k) % 4) 0 ≡ b → (suc k + 3) / 4 ≡ (k + 3) / 4 + cond b 1 0
fourth k true e = omega (arith, eqb-true)
fourth k false e = omega (arith, eqb-false)

hundredth : (k : ℕ) (b : Bool) → eqb ((2000 + k) % 100) 0 ≡ b → (suc k + 99) / 100 ≡ (k + 99) / 100 + cond b 1 0
hundredth k true e = omega (arith, eqb-true)
hundredth k false e = omega (arith, eqb-false)

four_hundredth : (k : ℕ) (b : Bool) → eqb ((2000 + k) % 400) 0 ≡ b → (suc k + 399) / 400 ≡ (k + 399) / 400 + cond b 1 0
four_hundredth k true e = omega (arith, eqb-true)
four_hundredth k false e = omega (arith, eqb-false)

-- a year's days by the three tests. A 400th year is a 100th, and that a fourth
year_by_tests : (year : ℕ) (a b c : Bool)
    → eqb (year % 400) 0 ≡ a
    → eqb (year % 4) 0 ≡ b
    → eqb (year % 100) 0 ≡ c
    → cond (a || b && not c) 366 365 + cond c 1 0 ≡ 365 + cond b 1 0 + cond a 1 0
year_by_tests year true true true p q r = refl
year_by_tests year true true false p q r = absurd (omega (arith, eqb-true, eqb-false))
year_by_tests year true false c p q r = absurd (omega (arith, eqb-true, eqb-false))
year_by_tests year false true true p q r = refl
year_by_tests year false true false p q r = refl
year_by_tests year false false true p q r = absurd (omega (arith, eqb-true, eqb-false))
year_by_tests year false false false p q r = refl

-- one more year in the count below
year_more : (k days year f h q a b c : ℕ)
    → days + h ≡ 365 * k + f + q
    → year + c ≡ 365 + b + a
    → days + year + (h + c) ≡ 365 * suc k + (f + b) + (q + a)
year_more k days year f h q a b c past sum = omega arith

-- The days of the first k years: 365 each, and one more for every fourth year, but for every hundredth, and yet for every
-- four-hundredth. 2000 is the first of each of these.
pub leap_years_are_counted : (k : ℕ) → days_of_years k + (k + 99) / 100 ≡ 365 * k + (k + 3) / 4 + (k + 399) / 400
unfolding days_of_years days_in_year
leap_years_are_counted zero = refl
leap_years_are_counted (suc k) =
    rw (hundredth k _ refl, fourth k _ refl, four_hundredth k _ refl)
    (year_more k _ _ _ _ _ _ _ _ (leap_years_are_counted k) (year_by_tests (2000 + k) _ _ _ refl refl refl))

-- ---- four centuries more in this count
pub centuries_more : (k days more f h q : ℕ)
    → days + h ≡ 365 * k + f + q
    → more + (h + 4) ≡ 365 * (k + 400) + (f + 100) + (q + 1)
    → more ≡ days + 146097
centuries_more k days more f h q one other = omega arith
