-- `digit::move_digit` meets its contract. Assumes nothing.
use Rattle.digit.proofs.Laws.{masked}
use Rattle.digit.proofs.move_digit.Goals as goal

pub returns : goal.returns
returns c = masked c.args.byte
