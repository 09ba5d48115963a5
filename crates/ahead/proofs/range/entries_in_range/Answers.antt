-- `ahead::range::entries_in_range` meets its contract: after i turns the first i entries are tested. Assumes nothing.
use Rattle.gray_theory.proofs.DigitRanges.{tested_none, tested_more}
use Rattle.ahead.proofs.range.entries_in_range.Goals as goal

pub loop-entry-init : goal.loop-entry-init
loop-entry-init c = tested_none _

pub loop-entry-preserved : goal.loop-entry-preserved
loop-entry-preserved c = tested_more _ _ _ _ c.loop-entry.invariant c.is_place-ok.ensures
