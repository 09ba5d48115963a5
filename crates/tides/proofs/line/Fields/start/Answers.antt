-- `tides::line::Fields::start` meets its contract: by the bounds of the numbers no sum wraps, and no difference goes below 0.
-- Assumes nothing.
use Prim.Native.Nat.{◌-◌}
use native.Mathlib.Omega.{arith}
use Rattle.tides.proofs.line.Ranges.{DateRanged, date_ranged_says, months-and_lack, start_counted}
use Rattle.tides.proofs.line.Fields.start.Goals as goal
use Rattle.tides.proofs.line.Fields.start.Goals.{Start}

-- the bounds of the numbers

known : (c : Start) → DateRanged c.args.self
known c = date_ranged_says c.args.self c.requires

pub overflow_sub-years : goal.overflow_sub-years
overflow_sub-years c = omega (arith, known (goal.at.overflow_sub-years c).Start)

pub overflow_sub-month : goal.overflow_sub-month
overflow_sub-month c = omega (arith, known (goal.at.overflow_sub-month c).Start)

pub overflow_mul-before : goal.overflow_mul-before
overflow_mul-before c = omega (arith, known (goal.at.overflow_mul-before c).Start)

pub overflow_add-before-2 : goal.overflow_add-before-2
overflow_add-before-2 c = omega (arith, known (goal.at.overflow_add-before-2 c).Start)

pub overflow_mul-before-2 : goal.overflow_mul-before-2
overflow_mul-before-2 c = omega (arith, known (goal.at.overflow_mul-before-2 c).Start)

pub overflow_sub-before : goal.overflow_sub-before
overflow_sub-before c = omega (arith, known (goal.at.overflow_sub-before c).Start)

pub overflow_add-before-3 : goal.overflow_add-before-3
overflow_add-before-3 c = omega (arith, known (goal.at.overflow_add-before-3 c).Start)

pub overflow_sub-before-2 : goal.overflow_sub-before-2
overflow_sub-before-2 c =
    let r = known (goal.at.overflow_sub-before-2 c).Start in
    let self = c.args.self in
    let parts = months-and_lack (self.years - 528) (self.month - 528) (omega arith) (omega arith) (omega arith) in
    omega arith

pub overflow_sub-result : goal.overflow_sub-result
overflow_sub-result c = omega (arith, known (goal.at.overflow_sub-result c).Start)

pub overflow_add-result : goal.overflow_add-result
overflow_add-result c = omega (arith, known (goal.at.overflow_add-result c).Start)

pub overflow_sub-result-2 : goal.overflow_sub-result-2
overflow_sub-result-2 c = omega (arith, known (goal.at.overflow_sub-result-2 c).Start)

pub overflow_mul-result : goal.overflow_mul-result
overflow_mul-result c = omega (arith, known (goal.at.overflow_mul-result c).Start)

pub returns : goal.returns
returns c =
    rw c.lacking_before.ensures (start_counted c.args.self (known (goal.at.returns c).Start))
