-- Cases of document 02's request 1: one equation computed over the table of them, and the theorem that carries it to each row.
use Rattle.std.specs.Prelude.{ℕ, zero, suc, ◌<◌, ◌≡◌, refl, List, [], ◌∷◌, map, length, get_or}
use Rattle.std.proofs.Common.{arith}
use Rattle.text_theory.specs.Decimals.{value_from}
use Rattle.tides_theory.specs.Calendar.{days_in_year, days_in_month, day_after, days_of_years, days_of_months}
use Rattle.tides_theory.specs.Lines.{lines_in, has_form, notice_in, in_range, is_line, all_lines}
use Rattle.tides_theory.specs.Windows.{in_order, windows, any_allows}
use Rattle.tides_theory.specs.Calls.{counts_call, may_begin_call}
use Rattle.tides_theory.specs.Cases.{Case.number, Row, Holds, row, table}

each : (rs : List Row) → map (λ r. r.computed) rs ≡ map (λ r. r.said) rs → (i : ℕ) → i < length rs → Holds (get_or rs i (row (number 0) (number 0)))
each [] e i h = absurd (omega arith)
each (r ∷ rs) e zero h = cc
each (r ∷ rs) e (suc i) h =
    let others : map (λ r. r.computed) rs ≡ map (λ r. r.said) rs = cc in
    each rs others i (omega arith)

tested : map (λ r. r.computed) table ≡ map (λ r. r.said) table
unfolding table days_in_year days_in_month day_after days_of_years days_of_months lines_in has_form notice_in in_range is_line all_lines value_from in_order windows any_allows counts_call may_begin_call
tested = refl

-- Every row of the table holds.
pub tide_cases_hold : (i : ℕ) → i < length table → Holds (get_or table i (row (number 0) (number 0)))
tide_cases_hold i h = each table tested i h
