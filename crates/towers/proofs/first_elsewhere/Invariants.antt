-- `towers::first_elsewhere` meets its contract: before index i all disks are on disk 1's peg. Assumes nothing.
use mathlib.Core.Bool.{not}
use lib.Dec.{eqb}
use lib.ListN.{get_or}
use Rattle.towers.proofs.Games.{NoneBelow}
use Rattle.towers.proofs.first_elsewhere.Given as goal

abbrev pub invariant-loop-i : goal.invariant-loop-i
invariant-loop-i l = NoneBelow l.i (λ k. not (eqb (get_or l.pegs k 0) (get_or l.pegs 0 0)))
