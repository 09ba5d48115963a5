-- `digit::move_byte` meets its contract. Assumes nothing.
use Rattle.digit.proofs.Laws.{packed}
use Rattle.digit.proofs.move_byte.Goals as goal

pub returns : goal.returns
returns c = rw c.from.ensures (packed c.args.digit c.args.down)
