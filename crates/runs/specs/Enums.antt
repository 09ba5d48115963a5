-- What a run of a fresh walk answers, with the lent memory as it leaves it.
use Rattle.std.specs.Prelude.{ℕ, List, Result}
use Rattle.gray.specs.declared.Refusal.{Refusal}
use Rattle.gray.specs.declared.Running.{Running}
use Rattle.gray.specs.Enums.{running_as}
use Rattle.runs_theory.specs.MoveCalls.{Moves}

abbrev pub moves_as : Result Running Refusal → List ℕ → Moves
moves_as r out = record { answer = running_as r; out = out }
