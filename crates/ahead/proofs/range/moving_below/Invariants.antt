-- `ahead::range::moving_below` meets its contract: after i turns the first i places are tested. Assumes nothing.
use Prim.Native.Nat.{◌≤◌}
use mathlib.Core.Path.{◌≡◌}
use lib.Dec.{ltb}
use lib.ListN.{length, get_or}
use Rattle.gray_theory.specs.Directions.{all_below}
use Rattle.gray_theory.specs.Unlocked.{looked_up}
use Rattle.ahead.proofs.range.moving_below.Given as goal

abbrev pub invariant-loop-i : goal.invariant-loop-i
invariant-loop-i l =
    (l.i ≤ length l.numbers) × (l.ok ≡ all_below l.i (λ j. ltb (get_or l.counter j 0) (get_or (looked_up l.radices l.numbers) j 0)))
