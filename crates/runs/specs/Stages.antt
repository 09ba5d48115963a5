-- What private functions answer.
use Rattle.gray_theory.specs.RunCalls.{Running}
use Rattle.runs_theory.specs.MoveCalls.{Moves}

-- a run whose state is not handed on
abbrev pub moves_of : {S : Type 0} → Running S → Moves
moves_of r = record { answer = r.answer; out = r.out }
