-- The calendar from 2000 to 2099 in the forms that the code computes with: k years after 2000, and months by a linear formula.
use Rattle.std.specs.Prelude.{ℕ, zero, suc, ◌+◌, ◌-◌, ◌*◌, ◌/◌, ◌%◌, ◌≤◌, ◌<◌, ◌≡◌, refl, Bool, true, false, cond, ◌&&◌, eqb, leb}
use Rattle.std.proofs.Math.Decide.{ℕ_discrete}
use Rattle.std.proofs.Common.{add-zero, add-suc, arith, ap, ap₂, ◌∙◌, leb-true, eqb-true, ne_eqb}
use Rattle.std.proofs.Math.Bool.{and-true, and-eq-true_iff}
use Rattle.gray_theory.specs.Directions.{all_below}
use Rattle.gray_theory.proofs.DigitRanges.{all_below_each}
use Rattle.tides_theory.specs.Calendar.{is_leap, Date, has_thirty_days, days_in_month, exists, days_of_years, days_of_months, day_number, minute_of}
use Rattle.tides_theory.proofs.Days.{month_added, year_added, exists-says, leap_years_are_counted}
use Rattle.tides_theory.specs.Lines.{Notice, in_range}

-- ---- years
pub quick_leap : (k : ℕ) → k < 100 → is_leap (2000 + k) ≡ eqb (k % 4) 0
quick_leap k h =
    elim (ℕ_discrete k 0) [
      | yes z ↦ rw z refl
      | no some ↦
          let same : (2000 + k) % 4 ≡ k % 4 = omega arith in
          rw (ne_eqb ((2000 + k) % 400) 0 (λ z. some (omega arith)), ne_eqb ((2000 + k) % 100) 0 (λ z. some (omega arith)), same)
          (and-true (eqb (k % 4) 0))
    ]

pub quick_years : (k : ℕ) → k ≤ 100 → days_of_years k ≡ 365 * k + (k + 3) / 4
quick_years k h =
    let same : (k + 99) / 100 ≡ (k + 399) / 400 = omega arith in
    let sum = leap_years_are_counted k in
    omega arith

-- ---- months: those of 2000 or of 2001, as the year is a leap year or not. What is said of these is computed
same_lengths : (y z m : ℕ) → is_leap y ≡ is_leap z → days_in_month y m ≡ days_in_month z m
unfolding days_in_month
same_lengths y z m e = ap (λ leap. cond (eqb m 2) (cond leap 29 28) (cond (has_thirty_days m) 30 31)) e

same_months : (y z i : ℕ) → is_leap y ≡ is_leap z → days_of_months y i ≡ days_of_months z i
unfolding days_of_months
same_months y z zero e = refl
same_months y z (suc i) e = ap₂ ◌+◌ (same_months y z i e) (same_lengths y z (suc i) e)

-- a year with such a February
abbrev like : Bool → ℕ
like leap = cond leap 2000 2001

quick_like : (k : ℕ) → k < 100 → is_leap (2000 + k) ≡ is_leap (like (eqb (k % 4) 0))
quick_like k h = quick_leap k h ∙ go (eqb (k % 4) 0)
  where
    go : (leap : Bool) → leap ≡ is_leap (like leap)
    go true = refl
    go false = refl

-- the two laws of months below, tested at the twelve months of these two years
lengths_computed : (leap : Bool)
    → all_below 12 (λ i.
    eqb (days_in_month (like leap) (suc i)) (cond (eqb (suc i) 2) (28 + cond leap 1 0) (30 + (suc i + suc i / 8) % 2)))
    ≡ true
unfolding days_in_month all_below
lengths_computed true = refl
lengths_computed false = refl

months_computed : (leap : Bool)
    → all_below 12 (λ i.
    eqb (days_of_months (like leap) (suc i - 1) + cond (leb (suc i) 2) 0 (2 - cond leap 1 0)) ((367 * suc i - 362) / 12))
    ≡ true
unfolding days_of_months days_in_month all_below
months_computed true = refl
months_computed false = refl

-- odd months up to July and even ones from August on have 31 days
pub quick_length : (k m : ℕ) → k < 100 → 1 ≤ m → m ≤ 12
    → days_in_month (2000 + k) m ≡ cond (eqb m 2) (28 + cond (eqb (k % 4) 0) 1 0) (30 + (m + m / 8) % 2)
quick_length k zero h one twelve = absurd (omega arith)
quick_length k (suc i) h one twelve =
    same_lengths (2000 + k) _ (suc i) (quick_like k h)
    ∙ eqb-true _ _ (all_below_each 12 _ (lengths_computed (eqb (k % 4) 0)) i twelve)

-- the days before a month: (367 m - 362) / 12, as if February had 30 days, less what it lacks
pub quick_months : (k m : ℕ) → k < 100 → 1 ≤ m → m ≤ 12
    → days_of_months (2000 + k) (m - 1) + cond (leb m 2) 0 (2 - cond (eqb (k % 4) 0) 1 0) ≡ (367 * m - 362) / 12
quick_months k zero h one twelve = absurd (omega arith)
quick_months k (suc i) h one twelve =
    rw (same_months (2000 + k) (like (eqb (k % 4) 0)) (suc i - 1) (quick_like k h))
    (eqb-true _ _ (all_below_each 12 _ (months_computed (eqb (k % 4) 0)) i twelve))

-- ---- minutes
-- more months, no fewer days
months_within : (y i j : ℕ) → days_of_months y i ≤ days_of_months y (i + j)
unfolding days_of_months
months_within y i zero = rw (add-zero i) (omega arith)
months_within y i (suc j) = rw (add-suc i j) (omega (arith, months_within y i j))

-- a date comes before the next year
before_next_year : (d : Date) → 2000 ≤ d.year → exists d ≡ true → day_number d < days_of_years (d.year + 1 - 2000)
before_next_year d from e =
    let s = exists-says d e in
    let rest : d.month + (12 - d.month) ≡ 12 = omega arith in
    let within = rw rest at (months_within d.year d.month (12 - d.month)) in
    let month = month_added d.year d.month s.from_january in
    let year = year_added d.year from in
    omega arith

-- a century has 36,525 days of 1,440 minutes
pub minutes_of_a_century : (n : Notice) → in_range n ≡ true → minute_of n.date n.hour n.minute < 52596000
unfolding in_range
minutes_of_a_century n e =
    let y = n.date.year in
    let (abxh, m) = (and-eq-true_iff (leb 2000 y && leb y 2099 && exists n.date && leb n.hour 23) (leb n.minute 59)).0 e in
    let (abx, h) = (and-eq-true_iff (leb 2000 y && leb y 2099 && exists n.date) (leb n.hour 23)).0 abxh in
    let (ab, x) = (and-eq-true_iff (leb 2000 y && leb y 2099) (exists n.date)).0 abx in
    let (a, b) = (and-eq-true_iff (leb 2000 y) (leb y 2099)).0 ab in
    let from = leb-true 2000 y a in
    let to = leb-true y 2099 b in
    let hour = leb-true n.hour 23 h in
    let minute = leb-true n.minute 59 m in
    let below = before_next_year n.date from x in
    let days = quick_years (y + 1 - 2000) (omega arith) in
    omega arith
