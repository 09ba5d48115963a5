-- `digit::moving` meets its contract: after i turns the numbers of those of the first i digits that move stand at the start. Assumes
-- nothing.
use mathlib.Core.Path.{◌≡◌}
use lib.ListN.{length, take}
use Rattle.gray_theory.specs.Arrays.{filled}
use Rattle.gray_theory.specs.Locks.{moving}
use Rattle.digit.proofs.moving.Given as goal

abbrev pub invariant-loop-i : goal.invariant-loop-i
invariant-loop-i l =
    (l.count ≡ length (moving (take l.i l.radices))) × (l.digits ≡ filled 48 0 (moving (take l.i l.radices)))
