-- `tides::line::Fields::time_in_range` meets its contract: the ranges are tested one by one. Assumes nothing.
use Rattle.tides.specs.Stages.{time_ranged}
use Rattle.tides.proofs.line.Answered.{failed, passed}
use Rattle.tides.proofs.line.Fields.time_in_range.Goals as goal

pub returns-then-among : goal.returns-then-among
unfolding time_ranged
returns-then-among c = rw (passed c.among.ensures c.if-among.true) c.among-then-among.ensures

pub returns-else-among : goal.returns-else-among
unfolding time_ranged
returns-else-among c = rw (failed c.among.ensures c.if-among.false) c.if-among.false
