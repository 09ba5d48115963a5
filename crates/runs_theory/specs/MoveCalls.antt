-- The move bytes of a fresh walk, by either engine, or of one that is picked up: an opening and one run of moves (document 02, "A run
-- of moves in one call").
use Rattle.std.specs.Prelude.{ℕ, zero, suc, List, [], ◌∷◌}
use Rattle.gray_theory.specs.Answers.{Answer, given, refused}
use Rattle.gray_theory.specs.MoveBytes.{move_byte}
use Rattle.gray_theory.specs.Changes.{change}
use Rattle.gray_theory.specs.RunCalls.{Outcome, Running}
use Rattle.ahead_theory.specs.Calls as ahead
use Rattle.ahead_theory.specs.Pickups as pickups
use Rattle.towers_theory.specs.Calls as towers

-- what such a call says, and leaves in the lent memory
pub record Moves : Type 0 where
  pub answer : Answer Outcome
  pub out : List ℕ

-- an opening that is refused gives its number and writes nothing; after one that is accepted comes the run, with its own refusals
abbrev pub opened_run : {S : Type 0} → Answer Unit → Running S → List ℕ → Moves
opened_run (given u) run out = record { answer = run.answer; out = run.out }
opened_run (refused k) run out = record { answer = refused k; out = out }

-- ---- the calls
-- a fresh walk by the buffered engine
unfoldable pub walk_moves_call : List ℕ → ℕ → ℕ → List ℕ → Moves
walk_moves_call radices c t out =
    let opened = ahead.open_of ahead.closed_walk radices c in
    opened_run opened.answer (ahead.run_of opened.state t out) out

-- a walk that is picked up at a word (a setting)
unfoldable pub resumed_moves_call : List ℕ → ℕ → List ℕ → ℕ → List ℕ → Moves
resumed_moves_call radices c word t out =
    let opened = pickups.resume_of ahead.closed_walk radices c word in
    opened_run opened.answer (ahead.run_of opened.state t out) out

-- a fresh game by the disk engine
unfoldable pub disk_moves_call : List ℕ → ℕ → List ℕ → Moves
disk_moves_call radices t out =
    let opened = towers.open_of towers.closed_towers radices in
    opened_run opened.answer (towers.run_of opened.state t out) out

-- ---- the list's moves
-- the bytes of the t changes of the list after the first j
unfoldable pub list_moves : List ℕ → ℕ → ℕ → List ℕ
list_moves ms j zero = []
list_moves ms j (suc t) = move_byte (change ms (suc j)).digit (change ms (suc j)).down ∷ list_moves ms (suc j) t
