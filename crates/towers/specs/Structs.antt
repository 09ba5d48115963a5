-- The structs in document 01's terms.
use Rattle.std.specs.Prelude.{ℕ, List, Result}
use Rattle.gray_theory.specs.Engines.{Event, Handed}
use Rattle.gray_theory.specs.RunCalls as theory
use Rattle.digit.specs.Moving.{moving_as}
use Rattle.gray.specs.Enums.{answer_as, stepping_as, running_as}
use Rattle.towers_theory.specs.States.{Towers}
use Rattle.towers.specs.declared.Towers.{Towers as TowersStruct}
use Rattle.gray.specs.declared.Refusal.{Refusal}
use Rattle.gray.specs.declared.Stepping.{Stepping}
use Rattle.gray.specs.declared.Running.{Running}

-- the state that a struct holds: its fields, each as it is, and no other
abbrev pub towers_as : TowersStruct → Towers
towers_as s = record {
  directed =
      record { radices = s.radices; n = s.n; moving = moving_as s.moving; word = s.word; downs = s.downs };
  turn = s.turn;
  pegs = s.pegs;
}

-- what the calls return: a state and an answer
abbrev pub opened_as : TowersStruct × Result Unit Refusal → Handed Towers Unit
opened_as r = record { state = towers_as r.0; answer = answer_as r.1 }

abbrev pub stepped_as : TowersStruct × Result Stepping Refusal → Handed Towers Event
stepped_as r = record { state = towers_as r.0; answer = stepping_as r.1 }

abbrev pub ran_as : TowersStruct × Result Running Refusal → List ℕ → theory.Running Towers
ran_as r out = record { state = towers_as r.0; answer = running_as r.1; out = out }
