-- The list's moves that both engines write, and what stops them.
use Prim.Native.Nat.{ℕ, ◌+◌, ◌-◌, ◌≤◌, ◌<◌}
use Rattle.std.specs.Prelude.{◌≡◌, cond, ltb, length, drop}
use mathlib.Core.List.{List, ◌++◌}
use Rattle.gray_theory.specs.Answers.{Answer, given, refused}
use Rattle.gray_theory.specs.Engines.{Event, move_at, ended, Handed, answer_of}
use Rattle.gray_theory.specs.RunCalls.{Stop, nothing, end, refusal}
use Rattle.runs_theory.specs.MoveCalls.{Moves, list_moves}

-- ---- what is written
-- the moves of the list after the first r: all that are asked for, where call d, which does not move, comes after them; else
-- the d − 1 before it, and what stopped them
abbrev pub first_moves : List ℕ → ℕ → ℕ → ℕ → List ℕ
first_moves ms r d t = cond (ltb t d) (list_moves ms r t) (list_moves ms r (d - 1))

abbrev pub first_stop : ℕ → Stop → ℕ → Stop
first_stop d stop t = cond (ltb t d) nothing stop

-- the call that writes them: 9 where the lent memory does not hold t bytes
abbrev pub writes_first : List ℕ → ℕ → ℕ → Stop → ℕ → List ℕ → Moves
writes_first ms r d stop t out =
    let moves = first_moves ms r d t in
    cond (ltb (length out) t) (record { answer = refused 9; out = out })
    (record { answer = given (record { made = length moves; stop = first_stop d stop t }); out = moves ++ drop (length moves) out })

-- ---- a run that stops at call d
-- what a call that does not move stops a run with
pub data Halts (a : Answer Event) (stop : Stop) : Type 0 where
  ends : a ≡ given ended → stop ≡ end → Halts a stop
  refuses : (k : ℕ) → a ≡ refused k → stop ≡ refusal k → Halts a stop

-- from rank r, calls 1 to d − 1 name their changes, and call d does not move
pub record StopsAt {S : Type 0} (call : S → Handed S Event) (ms : List ℕ) (r : ℕ) (s : S) (d : ℕ) (stop : Stop) : Type 0 where
  pub from_one : 1 ≤ d
  pub moves : (j : ℕ) → 1 ≤ j → j < d → answer_of call s j ≡ given (move_at ms (r + j))
  pub halts : Halts (answer_of call s d) stop
