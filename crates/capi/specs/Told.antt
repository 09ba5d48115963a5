-- What a call can answer, and what a run of moves can say.
use Rattle.std.specs.Prelude.{ℕ, ◌^◌, ◌≤◌, ◌<◌}
use Rattle.gray_theory.specs.Answers.{Answer, given, refused}
use Rattle.gray_theory.specs.RunCalls.{nothing, end, refusal, Outcome}

-- the answers there are: values below 2^63, which an int64_t holds, and refusals by a number from 1 on
pub data Fits : Answer ℕ → Type 0 where
  value : {v : ℕ} → v < 2 ^ 63 → Fits (given v)
  number : {k : ℕ} → 1 ≤ k → k < 256 → Fits (refused k)

-- ---- runs of moves
-- what a run of a walk from the start or from a setting can say: all moves made, the end after so many, dry after so many, or
-- refused by a number below 10
pub data Tells : Answer Outcome → Type 0 where
  all : {k : ℕ} → Tells (given (record { made = k; stop = nothing }))
  over : {k : ℕ} → Tells (given (record { made = k; stop = end }))
  dry : {k : ℕ} → Tells (given (record { made = k; stop = refusal 10 }))
  number : {k : ℕ} → 1 ≤ k → k < 10 → Tells (refused k)
