-- `digit::move_down` meets its contract. Assumes nothing.
use Rattle.digit.proofs.Laws.{shifted}
use Rattle.digit.proofs.move_down.Goals as goal

pub returns : goal.returns
returns c = shifted c.args.byte c.ranges.byte.fits
