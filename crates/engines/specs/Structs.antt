-- The engine in the terms of the calls of either.
use Rattle.std.specs.Prelude.{ℕ, List, Result}
use Rattle.gray_theory.specs.Engines.{Event, Handed}
use Rattle.gray_theory.specs.RunCalls as calls
use Rattle.gray.specs.Enums.{stepping_as, running_as}
use Rattle.gray.specs.declared.Refusal.{Refusal}
use Rattle.gray.specs.declared.Running.{Running}
use Rattle.gray.specs.declared.Stepping.{Stepping}
use Rattle.ahead.specs.Structs.{walk_as}
use Rattle.towers.specs.Structs.{towers_as}
use Rattle.engines.specs.Engines as either
use Rattle.engines.specs.declared.Engine.{Engine}
use Rattle.engines.specs.declared.Engine.TheVariants.{Buffered, Disks}

abbrev pub engine_as : Engine → either.Engine
engine_as (Buffered walk) = either.buffered (walk_as walk)
engine_as (Disks towers) = either.disks (towers_as towers)

-- what the calls return
abbrev pub stepped_as : Engine × Result Stepping Refusal → Handed either.Engine Event
stepped_as r = record { state = engine_as r.0; answer = stepping_as r.1 }

abbrev pub ran_as : Engine × Result Running Refusal → List ℕ → calls.Running either.Engine
ran_as r out = record { state = engine_as r.0; answer = running_as r.1; out = out }
