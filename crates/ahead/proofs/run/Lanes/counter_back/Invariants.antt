-- `ahead::run::Lanes::counter_back` meets its contract: after i turns the first i places are given back. Assumes nothing.
use Rattle.ahead.proofs.Loads.{CounterTo}
use Rattle.ahead.proofs.run.Lanes.counter_back.Given as goal

abbrev pub invariant-loop-i : goal.invariant-loop-i
invariant-loop-i l = CounterTo l.last l.self.tops l.self.rest l.initial.counter l.i l.counter
