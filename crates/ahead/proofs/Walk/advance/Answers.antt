-- `ahead::Walk::advance` meets its contract. Assumes nothing.
use Rattle.ahead.proofs.Steps.{digit_moved_lem}
use Rattle.ahead.proofs.Walk.advance.Goals as goal

pub returns : goal.returns
returns c =
    digit_moved_lem _ _ c.requires _ c.from-i.ensures _ _ c.advanced-to.ensures
