-- A run of moves in one call (document 02, "A run of moves in one call"), by either engine: at most t calls, up to the first that does
-- not move. It speaks of the engine's single call alone.
use Rattle.std.specs.Prelude.{ℕ, zero, suc, Bool, cond, not, List, [], ◌∷◌, ◌++◌, ltb, length, drop}
use Rattle.gray_theory.specs.Answers.{Answer, given, refused}
use Rattle.gray_theory.specs.MoveBytes.{move_byte}
use Rattle.gray_theory.specs.Engines.{Event, moved, ended, Handed}

-- what stopped a run: nothing, all its calls moved; a call that said end; or one that was refused, with its number
pub data Stop : Type 0 where
  nothing : Stop
  end : Stop
  refusal : ℕ → Stop

-- what calls leave: the state that the last of them handed back, the bytes of their moves, and what stopped them
pub record Ran (S : Type 0) : Type 0 where
  pub state : S
  pub bytes : List ℕ
  pub stop : Stop

-- a call that moves, and the calls after it; one that does not move is the last
abbrev pub run_then : {S : Type 0} → Answer Event → S → Ran S → Ran S
run_then (given (moved c notch)) s rest = record {
  state = rest.state;
  bytes = move_byte c.digit c.down ∷ rest.bytes;
  stop = rest.stop;
}
run_then (given ended) s rest = record { state = s; bytes = []; stop = end }
run_then (refused k) s rest = record { state = s; bytes = []; stop = refusal k }

-- at most t calls from a state
unfoldable pub run_from : {S : Type 0} → (S → Handed S Event) → S → ℕ → Ran S
run_from call s zero = record { state = s; bytes = []; stop = nothing }
run_from call s (suc t) = run_then (call s).answer (call s).state (run_from call (call s).state t)

-- the same after moves that were made before, with their bytes
abbrev pub onto : {S : Type 0} → List ℕ → Ran S → Ran S
onto done r = record { state = r.state; bytes = done ++ r.bytes; stop = r.stop }

-- ---- the call
-- what it says where it is accepted: how many moves it made, and what stopped them
pub record Outcome : Type 0 where
  pub made : ℕ
  pub stop : Stop

-- what it hands back, says, and leaves in the lent memory
pub record Running (S : Type 0) : Type 0 where
  pub state : S
  pub answer : Answer Outcome
  pub out : List ℕ

-- refused: no move, and nothing is written
abbrev pub run_refused : {S : Type 0} → ℕ → S → List ℕ → Running S
run_refused k s out = record { state = s; answer = refused k; out = out }

-- accepted: the moves' bytes at the start of the lent memory, and every byte past them as it came
abbrev pub run_makes : {S : Type 0} → Ran S → List ℕ → Running S
run_makes r out = record {
  state = r.state;
  answer = given (record { made = length r.bytes; stop = r.stop });
  out = r.bytes ++ drop (length r.bytes) out;
}

-- first 7, of no moves too; then 9, where the lent memory does not hold t bytes, even if the walk would end sooner
unfoldable pub run_with : {S : Type 0} → (S → Bool) → (S → Handed S Event) → S → ℕ → List ℕ → Running S
run_with in_range call s t out =
    cond (not (in_range s)) (run_refused 7 s out)
    (cond (ltb (length out) t) (run_refused 9 s out)
    (run_makes (run_from call s t) out))
