-- `digit::digits_in_range` meets its contract: after i turns the first i places are tested. Assumes nothing.
use Prim.Native.Nat.{◌+◌}
use mathlib.Core.Path.{◌≡◌}
use mathlib.Core.Bool.{false, ◌||◌}
use lib.Dec.{ltb}
use lib.ListN.{get_or}
use Rattle.gray_theory.specs.Directions.{all_below, digit_in_range}
use Rattle.digit.proofs.digits_in_range.Given as goal

abbrev pub invariant-loop-i : goal.invariant-loop-i
invariant-loop-i l =
    (l.number ≡ l.i) × (l.ok ≡ all_below l.i (λ j. ltb l.n (j + 1) || digit_in_range (get_or l.radices j 0) (get_or l.word j 0) (get_or l.downs j false)))
