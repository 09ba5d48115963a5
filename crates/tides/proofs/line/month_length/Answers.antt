-- `tides::line::month_length` meets its contract: February, and the other months. Assumes nothing.
use native.Mathlib.Omega.{arith}
use borrow.Author.Tests.{eq-eqb, ne_eqb}
use Rattle.tides.specs.Stages.{length_of}
use Rattle.tides.proofs.line.Ranges.{leap_day_bound}
use Rattle.tides.proofs.line.month_length.Goals as goal

pub overflow_add-result : goal.overflow_add-result
overflow_add-result c = omega (arith, leap_day_bound c.args.years)

pub returns-then-month-eq2 : goal.returns-then-month-eq2
unfolding length_of
returns-then-month-eq2 c = rw (eq-eqb _ _ c.if-month-eq2.true, c.leap_day.ensures)

pub returns : goal.returns
unfolding length_of
returns c = rw (ne_eqb _ _ c.if-month-eq2.false)
