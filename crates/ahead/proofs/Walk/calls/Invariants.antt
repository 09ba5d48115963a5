-- `ahead::Walk::calls` meets its contract: after each stretch the arrays stand for the state after the calls so far. Assumes
-- nothing.
use Rattle.stretch.specs.Stages.{stop_number}
use Rattle.ahead.specs.Structs.{walk_as}
use Rattle.ahead.proofs.Calls.{Calling, calls_left}
use Rattle.ahead.proofs.Walk.calls.Given as goal

abbrev pub invariant-loop-done : goal.invariant-loop-done
invariant-loop-done l =
    Calling (walk_as l.self) l.limit l.initial.out l.out l.lanes.tops l.lanes.rest l.lanes.left l.lanes.bytes l.entries l.at l.done (stop_number l.stop)

abbrev pub decreases-loop-done : goal.decreases-loop-done
decreases-loop-done l =
    calls_left l.limit l.done (stop_number l.stop)
