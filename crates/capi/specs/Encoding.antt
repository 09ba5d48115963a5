-- One encoding of answers, as numbers of 64 bits: the value, or minus the number of a refusal, which C reads as a negative
-- int64_t.
use Rattle.std.specs.Prelude.{ℕ, ◌-◌, ◌^◌, ◌%◌, ◌≡◌, Bool, true, false, List, length}
use Rattle.gray_theory.specs.Answers.{Answer, given, refused, byte_count, output_after}
use Rattle.gray_theory.specs.RunCalls.{Stop, nothing, end, refusal, Outcome}
use Rattle.runs_theory.specs.MoveCalls.{Moves}

abbrev pub encoded : Answer ℕ → ℕ
encoded (given value) = value
encoded (refused k) = (2 ^ 64 - k) % 2 ^ 64

-- yes or no, as 1 or 0
abbrev pub as_number : Answer Bool → Answer ℕ
as_number (given true) = given 1
as_number (given false) = given 0
as_number (refused k) = refused k

-- what a writer owes its caller: the number of its bytes or the refusal, encoded; its bytes, and nothing else, in the output
pub record Sent (call : ℕ → Answer (List ℕ)) (result : ℕ) (before after : List ℕ) : Type 0 where
  pub answers : result ≡ encoded (byte_count (call (length before)))
  pub leaves : after ≡ output_after (call (length before)) before

-- ---- runs of moves
-- 0 where all moves were made, 1 at the end of the walk, and minus the number of a call that was refused
abbrev stop_code : Stop → ℕ
stop_code nothing = 0
stop_code end = 1
stop_code (refusal k) = encoded (refused k)

-- the same, and minus the number of a refusal of the whole run
abbrev pub run_code : Answer Outcome → ℕ
run_code (given o) = stop_code o.stop
run_code (refused k) = encoded (refused k)

-- the moves whose bytes stand: none where the run is refused
abbrev pub moves_made : Answer Outcome → ℕ
moves_made (given o) = o.made
moves_made (refused k) = 0

-- what a run owes its caller: how it went, encoded; the moves made; and their bytes, and nothing else, in the output
pub record Ran (call : Moves) (result : ℕ) (out : List ℕ) (made : ℕ) : Type 0 where
  pub answers : result ≡ run_code call.answer
  pub counts : made ≡ moves_made call.answer
  pub leaves : out ≡ call.out
