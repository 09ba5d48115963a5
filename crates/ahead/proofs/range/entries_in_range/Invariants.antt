-- `ahead::range::entries_in_range` meets its contract: after i turns the first i entries are tested. Assumes nothing.
use Prim.Native.Nat.{◌+◌}
use mathlib.Core.Path.{◌≡◌}
use mathlib.Core.Bool.{◌&&◌}
use lib.Dec.{leb}
use lib.ListN.{get_or}
use Rattle.gray_theory.specs.Directions.{all_below}
use Rattle.ahead.proofs.range.entries_in_range.Given as goal

abbrev pub invariant-loop-entry : goal.invariant-loop-entry
invariant-loop-entry l =
    l.ok ≡ all_below l.entry-index (λ j. leb 1 (get_or l.entries j 0) && leb (get_or l.entries j 0) (l.n + 1))
