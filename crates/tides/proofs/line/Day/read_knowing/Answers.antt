-- `tides::line::Day::read_knowing` meets its contract: a date with the two numbers of the known one is that one. Assumes nothing.
use mathlib.Core.Path.{sym}
use Rattle.tides.proofs.line.Dates.{known_day}
use Rattle.tides.proofs.line.Day.read_knowing.Goals as goal

pub returns-then-is_of : goal.returns-then-is_of
returns-then-is_of c = known_day c.args.line.now c.args.known c.fits-line c.requires (sym c.if-is_of.ensures)
