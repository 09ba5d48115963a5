-- `ahead::Walk::load` meets its contract: after i turns the first i of the digits that move are loaded. Assumes nothing.
use Prim.Native.Nat.{◌≤◌}
use Rattle.ahead.proofs.Loads.{LoadedTo}
use Rattle.ahead.proofs.Walk.load.Given as goal

abbrev pub invariant-loop-i : goal.invariant-loop-i
invariant-loop-i l =
    (l.i ≤ l.count) × LoadedTo l.radices l.numbers l.word l.downs l.counter l.i l.lanes.tops l.lanes.rest l.lanes.left l.lanes.bytes
