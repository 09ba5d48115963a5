-- `gray::place_of` meets its contract: p is the rank of the slowest i digits, at first and after each turn. Assumes nothing.
use Prim.Native.Nat.{◌-◌}
use Rattle.gray.proofs.Laws.{RankedTo}
use Rattle.gray.proofs.place_of.Given as goal

abbrev pub invariant-loop-i : goal.invariant-loop-i
invariant-loop-i l = RankedTo l.radices l.word l.i l.p

abbrev pub decreases-loop-i : goal.decreases-loop-i
decreases-loop-i l = l.n - l.i
