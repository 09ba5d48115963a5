-- `tides::line::lacking_before` meets its contract: January and February, and the months after them. Assumes nothing.
use native.Mathlib.Omega.{arith}
use borrow.Author.Tests.{le-leb, lt-leb}
use Rattle.tides.specs.Stages.{lacking}
use Rattle.tides.proofs.line.Ranges.{leap_day_bound}
use Rattle.tides.proofs.line.lacking_before.Goals as goal

pub returns-then-month-le2 : goal.returns-then-month-le2
unfolding lacking
returns-then-month-le2 c = rw (le-leb _ _ c.if-month-le2.true)

pub overflow_sub-result : goal.overflow_sub-result
overflow_sub-result c = omega (arith, leap_day_bound c.args.years)

pub returns : goal.returns
unfolding lacking
returns c = rw (lt-leb _ _ c.if-month-le2.false, c.leap_day.ensures)
