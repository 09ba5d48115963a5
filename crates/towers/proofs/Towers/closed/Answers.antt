-- `towers::Towers::closed` meets its contract. Assumes nothing.
use Rattle.gray_theory.specs.Locks.{moving}
use Rattle.towers_theory.specs.Calls.{fresh}
use Rattle.towers.proofs.Towers.closed.Goals as goal

pub returns : goal.returns
unfolding fresh moving
returns c = c.fresh.ensures
