-- `stretch::run_calls` meets its contract: the loop goes on as the model does, call by call. Assumes nothing.
use Rattle.stretch.proofs.Running.{Going}
use Rattle.stretch.proofs.run_calls.Given as goal

abbrev pub invariant-loop-k : goal.invariant-loop-k
invariant-loop-k l =
    Going l.last l.c l.limit l.tops l.initial.rest l.initial.queue l.initial.left l.initial.bytes l.initial.at l.done l.initial.out l.rest l.queue l.left l.bytes l.out l.at l.k
