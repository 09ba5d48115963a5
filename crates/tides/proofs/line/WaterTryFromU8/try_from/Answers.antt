-- `tides::line::WaterTryFromU8::try_from` meets its contract. Assumes nothing.
use mathlib.Core.Path.{refl}
use Rattle.std.proofs.Common.{rules}
use borrow.Author.Tests.{ne_eqb}
use Rattle.tides.specs.Stages.{water_of}
use Rattle.tides.proofs.line.WaterTryFromU8.try_from.Goals as goal

pub returns-in-72 : goal.returns-in-72
unfolding water_of
returns-in-72 c = rw c.in-72.is refl

pub returns-in-76 : goal.returns-in-76
unfolding water_of
returns-in-76 c = rw c.in-76.is refl

pub returns-in_default : goal.returns-in_default
unfolding water_of
returns-in_default c = search (rules, ne_eqb)
