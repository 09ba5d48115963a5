-- `digit::are_moving` meets its contract: after i turns those of the first i digits that move have been looked for. Assumes nothing.
use mathlib.Core.Path.{◌≡◌}
use lib.ListN.{length, take}
use Rattle.gray_theory.specs.Locks.{moving}
use Rattle.gray_theory.proofs.Unlocked.{found_at}
use Rattle.digit.proofs.are_moving.Given as goal

abbrev pub invariant-loop-i : goal.invariant-loop-i
invariant-loop-i l =
    (l.met ≡ length (moving (take l.i l.radices))) × (l.ok ≡ found_at (moving (take l.i l.radices)) l.held)
