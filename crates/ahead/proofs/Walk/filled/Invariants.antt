-- `ahead::Walk::filled` meets its contract: each turn makes a useful work step, until the buffer is full. Assumes nothing.
use Rattle.ahead.specs.Structs.{producer_with, walk_as}
use Rattle.ahead.proofs.Fills.{Filling, fills_left}
use Rattle.ahead.proofs.Walk.filled.Given as goal

abbrev pub invariant-loop-at : goal.invariant-loop-at
invariant-loop-at l =
    Filling (walk_as l.self) (producer_with l.counter l.queue l.at)

abbrev pub decreases-loop-at : goal.decreases-loop-at
decreases-loop-at l =
    fills_left (walk_as l.self) l.at.steps
