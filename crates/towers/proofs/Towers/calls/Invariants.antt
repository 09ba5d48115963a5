-- `towers::Towers::calls` meets its contract: after k turns the local arrays are those of the state after k calls. Assumes
-- nothing.
use Rattle.towers.specs.Structs.{towers_as}
use Rattle.towers.specs.Stages.{state_of}
use Rattle.towers.proofs.Runs.{RunSoFar}
use Rattle.towers.proofs.Towers.calls.Given as goal

abbrev pub invariant-loop-k : goal.invariant-loop-k
invariant-loop-k l =
    RunSoFar l.m (towers_as l.self) l.t l.initial.out
    (state_of l.self.radices l.self.n l.self.moving.digits l.self.moving.count l.word l.turn l.downs l.pegs)
    l.k
    l.out
