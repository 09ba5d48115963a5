-- The days of four centuries, by the count of leap years.
use Rattle.std.specs.Prelude.{ℕ, ◌+◌, ◌/◌, ◌≡◌}
use Rattle.std.proofs.Common.{arith}
use Rattle.tides_theory.specs.Calendar.{days_of_years}
use Rattle.tides_theory.proofs.Days.{leap_years_are_counted, centuries_more}

-- Any four centuries have 146,097 days.
pub four_centuries_have_146097_days : (k : ℕ) → days_of_years (k + 400) ≡ days_of_years k + 146097
four_centuries_have_146097_days k =
    let h : (k + 400 + 99) / 100 ≡ (k + 99) / 100 + 4 = omega arith in
    let f : (k + 400 + 3) / 4 ≡ (k + 3) / 4 + 100 = omega arith in
    let q : (k + 400 + 399) / 400 ≡ (k + 399) / 400 + 1 = omega arith in
    centuries_more k _ _ _ _ _ (leap_years_are_counted k) (rw (h, f, q) at (leap_years_are_counted (k + 400)))
