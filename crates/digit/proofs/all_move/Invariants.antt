-- `digit::all_move` meets its contract: after i turns the first i places are tested. Assumes nothing.
use Prim.Native.Nat.{◌+◌}
use mathlib.Core.Path.{◌≡◌}
use mathlib.Core.Bool.{◌&&◌, ◌||◌}
use lib.Dec.{eqb, ltb, leb}
use lib.ListN.{get_or}
use Rattle.gray_theory.specs.Directions.{all_below}
use Rattle.digit.proofs.all_move.Given as goal

abbrev pub invariant-loop-i : goal.invariant-loop-i
invariant-loop-i l =
    (l.number ≡ l.i) × (l.ok ≡ all_below l.i (λ j. ltb l.n (j + 1) || (leb 2 (get_or l.radices j 0) && eqb (get_or l.held j 0) (j + 1))))
