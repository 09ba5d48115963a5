-- `towers::all_pass` meets its contract: after i turns the first i places are tested. Assumes nothing.
use Prim.Native.Nat.{ℕ, ◌+◌}
use mathlib.Core.Path.{◌≡◌}
use mathlib.Core.Bool.{Bool, ◌||◌}
use lib.Dec.{ltb}
use lib.ListN.{get_or}
use Rattle.gray_theory.specs.Directions.{all_below}
use Rattle.towers.specs.Stages.{TestsBytes}
use Rattle.towers.proofs.all_pass.Given as goal

abbrev pub invariant-loop-byte : goal.invariant-loop-byte
invariant-loop-byte g l =
    (l.number ≡ l.byte-index)
    × ((test : ℕ → Bool)
    → TestsBytes (goal.F-post g l.passes) test
    → l.ok ≡ all_below l.byte-index (λ j. ltb l.n (j + 1) || test (get_or l.byte-items j 0)))
