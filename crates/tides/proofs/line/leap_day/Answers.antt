-- `tides::line::leap_day` meets its contract. Assumes nothing.
use mathlib.Core.Path.{◌≡◌, refl, ◌∙◌}
use mathlib.Core.Bool.{Bool, true, false, cond}
use mir.Val.{bool_byte}
use Rattle.tides.specs.Stages.{leap_day}
use Rattle.tides.proofs.line.leap_day.Goals as goal

byte_is : (b : Bool) → bool_byte b ≡ cond b 1 0
byte_is true = refl
byte_is false = refl

pub returns : goal.returns
unfolding leap_day
returns c = c.from.ensures ∙ byte_is _
