-- `tides::line::Fields::time` meets its contract: by the bounds of the numbers no sum wraps, and no difference goes below 0.
-- Assumes nothing.
use native.Mathlib.Omega.{arith}
use Rattle.tides.proofs.line.Ranges.{TimeRanged, time_ranged_says}
use Rattle.tides.proofs.line.Fields.time.Goals as goal
use Rattle.tides.proofs.line.Fields.time.Goals.{Start}

-- the bounds of the numbers

known : (c : Start) → TimeRanged c.args.self
known c = time_ranged_says c.args.self c.requires

pub overflow_sub-result : goal.overflow_sub-result
overflow_sub-result c = omega (arith, known (goal.at.overflow_sub-result c).Start)

pub overflow_mul-result : goal.overflow_mul-result
overflow_mul-result c = omega (arith, known (goal.at.overflow_mul-result c).Start)

pub overflow_sub-result-2 : goal.overflow_sub-result-2
overflow_sub-result-2 c = omega (arith, known (goal.at.overflow_sub-result-2 c).Start)

pub overflow_add-result : goal.overflow_add-result
overflow_add-result c = omega (arith, known (goal.at.overflow_add-result c).Start)
