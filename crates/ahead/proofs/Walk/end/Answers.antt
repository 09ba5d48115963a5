-- `ahead::Walk::end` meets its contract. Assumes nothing.
use mathlib.Core.Path.{refl}
use Rattle.ahead_theory.specs.Calls.{end_of}
use Rattle.ahead.proofs.Walk.end.Goals as goal

pub returns : goal.returns
unfolding end_of
returns c = refl
