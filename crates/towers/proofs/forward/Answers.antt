-- `towers::forward` meets its contract: a digit in range turns at the one end that it goes to. Assumes nothing.
use Rattle.towers.proofs.Games.{goes_down, goes_up}
use Rattle.towers.proofs.forward.Goals as goal

pub returns-then-down : goal.returns-then-down
returns-then-down c = goes_down _ _ _ c.requires c.if-down.true

pub returns : goal.returns
returns c = goes_up _ _ _ c.requires c.if-down.false
