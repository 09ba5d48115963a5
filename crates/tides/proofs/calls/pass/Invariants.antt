-- `tides::calls::pass` meets its contract: the course is that of the lines before `line`, and the day that of the last of them.
-- Assumes nothing.
use Rattle.std.proofs.Common.{◌*◌}
use Rattle.tides.specs.Stages.{Right}
use Rattle.tides.proofs.Courses.{Through}
use Rattle.tides.proofs.calls.pass.Given as goal

abbrev pub invariant-loop-line : goal.invariant-loop-line
invariant-loop-line l = Through l.fn.file l.fn.minute (19 * l.line-index) l.course × Right l.day
