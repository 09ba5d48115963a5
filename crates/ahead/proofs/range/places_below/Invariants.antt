-- `ahead::range::places_below` meets its contract: after i turns the first i places are tested. Assumes nothing.
use Prim.Native.Nat.{◌+◌, ◌≤◌}
use mathlib.Core.Path.{◌≡◌}
use mathlib.Core.Bool.{◌||◌}
use lib.Dec.{ltb}
use lib.ListN.{get_or}
use Rattle.gray_theory.specs.Directions.{all_below}
use Rattle.ahead.proofs.range.places_below.Given as goal

abbrev pub invariant-loop-i : goal.invariant-loop-i
invariant-loop-i l =
    (l.i ≤ 48) × (l.number ≡ l.i) × (l.ok ≡ all_below l.i (λ j. ltb l.n (j + 1) || ltb (get_or l.counter j 0) (get_or l.radices j 0)))
