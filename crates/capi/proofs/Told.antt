-- A caller can tell a value from a refusal, and one answer from another.
use Rattle.std.specs.Prelude.{ℕ, ◌-◌, ◌^◌, ◌≤◌, ◌<◌, ◌≡◌}
use Rattle.std.proofs.Common.{arith, ap}
use Rattle.gray_theory.specs.Answers.{Answer, given, refused}
use Rattle.gray_theory.specs.RunCalls.{nothing, end, refusal, Outcome}
use Rattle.capi.specs.Encoding.{encoded, run_code, moves_made}
use Rattle.capi.specs.Told.{Fits, Fits.value, Fits.number, Tells, Tells.all, Tells.over, Tells.dry, Tells.number}

-- A refusal is 2^64 − k, which as an int64_t is − k.
pub refusal_is_minus_its_number : (k : ℕ) → 1 ≤ k → k < 256 → encoded (refused k) ≡ 2 ^ 64 - k
refusal_is_minus_its_number k one short = omega arith

-- Two answers with the same code are the same answer.
pub codes_tell_answers_apart : (a b : Answer ℕ) → Fits a → Fits b → encoded a ≡ encoded b → a ≡ b
codes_tell_answers_apart (given v) (given w) (value x) (value y) e = ap given e
codes_tell_answers_apart (given v) (refused k) (value x) (number one short) e = absurd (omega arith)
codes_tell_answers_apart (refused k) (given w) (number one short) (value y) e = absurd (omega arith)
codes_tell_answers_apart (refused k) (refused l) (number o s) (number o' s') e =
    let same : k ≡ l = omega arith in ap (λ i. refused i) same

-- Two runs with the same code and as many moves said the same.
pub codes_tell_runs_apart : (a b : Answer Outcome) → Tells a → Tells b → run_code a ≡ run_code b → moves_made a ≡ moves_made b → a ≡ b
codes_tell_runs_apart a b all all e m = ap (λ k. given (record { made = k; stop = nothing })) m
codes_tell_runs_apart a b all over e m = absurd (omega arith)
codes_tell_runs_apart a b all dry e m = absurd (omega arith)
codes_tell_runs_apart a b all (number one short) e m = absurd (omega arith)
codes_tell_runs_apart a b over all e m = absurd (omega arith)
codes_tell_runs_apart a b over over e m = ap (λ k. given (record { made = k; stop = end })) m
codes_tell_runs_apart a b over dry e m = absurd (omega arith)
codes_tell_runs_apart a b over (number one short) e m = absurd (omega arith)
codes_tell_runs_apart a b dry all e m = absurd (omega arith)
codes_tell_runs_apart a b dry over e m = absurd (omega arith)
codes_tell_runs_apart a b dry dry e m = ap (λ k. given (record { made = k; stop = refusal 10 })) m
codes_tell_runs_apart a b dry (number one short) e m = absurd (omega arith)
codes_tell_runs_apart a b (number one short) all e m = absurd (omega arith)
codes_tell_runs_apart a b (number one short) over e m = absurd (omega arith)
codes_tell_runs_apart a b (number one short) dry e m = absurd (omega arith)
codes_tell_runs_apart (refused k) (refused l) (number one short) (number one' short') e m =
    let same : k ≡ l = omega arith in ap (λ i. refused i) same
