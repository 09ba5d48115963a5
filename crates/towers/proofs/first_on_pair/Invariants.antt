-- `towers::first_on_pair` meets its contract: before index i no disk is on the pair. Assumes nothing.
use Prim.Native.Nat.{◌-◌}
use lib.ListN.{get_or}
use Rattle.towers_theory.specs.Choices.{side_peg, on_pair}
use Rattle.towers.proofs.Games.{NoneBelow}
use Rattle.towers.proofs.first_on_pair.Given as goal

abbrev pub invariant-loop-i : goal.invariant-loop-i
invariant-loop-i l =
    NoneBelow l.i
    (λ k. on_pair l.turn (side_peg (get_or l.radices (get_or l.digits k 0 - 1) 0) (get_or l.word (get_or l.digits k 0 - 1) 0)))
