-- `tides::line::read_line` meets its contract: a line passes all the tests, and what passes them is a line. Assumes nothing.
use Rattle.std.specs.Prelude.{Some}
use Prim.Native.Nat.{ℕ, ◌+◌}
use mathlib.Core.Path.{◌≡◌, sym, ap, ap₂, ◌∙◌}
use mathlib.Core.Bool.{true}
use mathlib.Core.List.{List}
use lib.Dec.{eqb}
use lib.ListN.{get_or}
use Rattle.tides_theory.specs.Lines.{high_letter}
use Rattle.tides.specs.declared.line.Day.{Day}
use Rattle.tides.specs.declared.line.Tide.{Tide}
use Rattle.tides.specs.Stages.{is_letter, fields_of, time_ranged, time_in, minute_in, water}
use Rattle.tides.proofs.line.Answered.{failed, passed}
use Rattle.tides.proofs.line.Ranges.{time_ranged_says, minute_fits}
use Rattle.tides.proofs.line.Dates.{date-says, no_day, DayRead, day_read}
use Rattle.tides.proofs.line.Readings.{no_water, water_read, coded, line_read_lem, line_unread}
use Rattle.tides.proofs.line.read_line.Goals as goal
use Rattle.tides.proofs.line.read_line.Goals.{In_ok-day, In_ok-water, Else-not-time_in_range, then-not-time_marked-via-then-not-time_marked, then-not-time_marked-via-else-not-time_marked+then-not-time_digits}

-- the minutes of the date and the time are that of the line
minute : (line : List ℕ) (day : Day) (time : ℕ) → DayRead line day → time ≡ time_in (fields_of line)
    → day.start + time ≡ minute_in (fields_of line)
minute line day time d t = ap₂ ◌+◌ (ap (λ d. d.start) d.is) t

-- the date that was read
date : (c : In_ok-day) → DayRead c.args.line.now c.in_ok-day.day
date c = day_read _ _ (sym c.in_ok-day.ensures)

-- and the letter
letter : (c : In_ok-water) → (is_letter (get_or c.args.line.now 17 0) ≡ true)
    × (c.in_ok-water.water ≡ water (eqb (get_or c.args.line.now 17 0) high_letter))
letter c = water_read _ _ (sym (c.in_ok-water.ensures.value ∙ c.try_from.ensures))

-- the time is in its range,
range : (c : Else-not-time_in_range) → time_ranged (fields_of c.args.line.now) ≡ true
range c = rw (← c.of-fields.ensures) (passed c.time_in_range.ensures c.if-not-time_in_range.false)

pub returns-in_err-day : goal.returns-in_err-day
returns-in_err-day c =
    c.from_residual.ensures ∙ line_unread c.args.line.now _ (λ p. p.date) (no_day _ (sym c.in_err-day.ensures))

pub returns-then-not-time_marked : goal.returns-then-not-time_marked
returns-then-not-time_marked c =
    elim c.then-not-time_marked.branch [
      | then-not-time_marked-via-then-not-time_marked w ↦
          line_unread c.args.line.now _ (λ p. p.marked) (failed c.time_marked.ensures w.if-not-time_marked.true)
      | then-not-time_marked-via-else-not-time_marked+then-not-time_digits w ↦
          line_unread c.args.line.now _ (λ p. p.digits) (failed w.time_digits.ensures w.if-not-time_digits.true)
    ]

pub returns-in_err-water : goal.returns-in_err-water
returns-in_err-water c =
    c.from_residual-in_err-water.ensures ∙ line_unread c.args.line.now _ (λ p. p.letter) (no_water _ (sym (c.in_err-water.ensures.value ∙ c.try_from.ensures)))

pub returns-then-not-time_in_range : goal.returns-then-not-time_in_range
returns-then-not-time_in_range c =
    line_unread c.args.line.now _ (λ p. p.range)
    (rw (← c.of-fields.ensures) (failed c.time_in_range.ensures c.if-not-time_in_range.true))

pub overflow_add-result : goal.overflow_add-result
overflow_add-result c =
    let line = c.args.line.now in
    let dates = (date-says line (date (goal.at.overflow_add-result c).In_ok-day).read).ranged in
    let at = minute _ c.in_ok-day.day c.time.result (date (goal.at.overflow_add-result c).In_ok-day) (c.time.ensures ∙ ap time_in c.of-fields.ensures) in
    let in_range = range (goal.at.overflow_add-result c).Else-not-time_in_range in
    record { fits = rw at (minute_fits (fields_of line) dates (time_ranged_says (fields_of line) in_range)) }

pub returns : goal.returns
returns c =
    let line = c.args.line.now in
    let day = date (goal.at.returns c).In_ok-day in
    let (is, says) = letter (goal.at.returns c).In_ok-water in
    let at = minute _ c.in_ok-day.day c.time.result day (c.time.ensures ∙ ap time_in c.of-fields.ensures) in
    let tide : record { minute = c.in_ok-day.day.start + c.time.result; water = c.in_ok-water.water; day = c.in_ok-day.day } ≡ coded line =
    λ i. record { minute = at i; water = says i; day = day.is i } in
    ap (λ (t : Tide). Some t) tide
    ∙ line_read_lem line c.told-line (record {
      date = day.read;
      marked = passed c.time_marked.ensures c.if-not-time_marked.false;
      digits = passed c.time_digits.ensures c.if-not-time_digits.false;
      letter = is;
      range = range (goal.at.returns c).Else-not-time_in_range;
    })
