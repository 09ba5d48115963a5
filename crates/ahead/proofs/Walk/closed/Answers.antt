-- `ahead::Walk::closed` meets its contract. Assumes nothing.
use Rattle.ahead_theory.specs.Calls.{fresh}
use Rattle.gray_theory.specs.Locks.{moving}
use Rattle.ahead.proofs.Walk.closed.Goals as goal

pub returns : goal.returns
unfolding fresh moving
returns c = c.fresh.ensures
