-- The structs as the theory's records, field by field: a state, and what the calls return, in document 01's terms.
use Rattle.std.specs.Prelude.{ℕ, List, replicate, Result}
use Rattle.gray_theory.specs.Engines.{Event, Handed}
use Rattle.gray_theory.specs.RunCalls as runs
use Rattle.digit.specs.Moving.{moving_as}
use Rattle.gray.specs.declared.Refusal.{Refusal}
use Rattle.gray.specs.declared.Stepping.{Stepping}
use Rattle.gray.specs.declared.Running.{Running}
use Rattle.gray.specs.Enums.{answer_as, stepping_as, running_as}
use Rattle.ahead_theory.specs.States as theory
use Rattle.ahead.specs.declared.Progress.{Progress}
use Rattle.ahead.specs.declared.Producer.{Producer}
use Rattle.ahead.specs.declared.Walk.{Walk}

-- a producer made of its arrays and its numbers
abbrev pub producer_with : List ℕ → List ℕ → Progress → theory.Producer
producer_with counter queue at = record {
  counter = counter;
  place = at.place;
  queue = queue;
  queued = at.queued;
  steps = at.steps;
}

abbrev pub producer_as : Producer → theory.Producer
producer_as p = producer_with p.counter p.queue p.at

-- one that has made no work step
abbrev pub starting_with : List ℕ → theory.Producer
starting_with counter = record {
  counter = counter;
  place = 1;
  queue = replicate 32 0;
  queued = 0;
  steps = 0;
}

abbrev pub walk_as : Walk → theory.Walk
walk_as w = record {
  directed = record { radices = w.radices; n = w.n; moving = moving_as w.moving; word = w.word; downs = w.downs };
  producer = producer_as w.producer;
  capacity = w.capacity;
  moves = w.moves;
  ended = w.ended;
}

abbrev pub opened_as : Walk × Result Unit Refusal → Handed theory.Walk Unit
opened_as r = record { state = walk_as r.0; answer = answer_as r.1 }

abbrev pub stepped_as : Walk × Result Stepping Refusal → Handed theory.Walk Event
stepped_as r = record { state = walk_as r.0; answer = stepping_as r.1 }

-- what a run hands back and answers, with the lent memory as it leaves it
abbrev pub ran_as : Walk × Result Running Refusal → List ℕ → runs.Running theory.Walk
ran_as r out = record { state = walk_as r.0; answer = running_as r.1; out = out }
