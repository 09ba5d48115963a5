-- The producer and the consumer in numbers: t entries removed, k queued, p carries made towards the next.
use Rattle.std.specs.Prelude.{ℕ, suc, ◌+◌, ◌*◌, ◌<◌, ◌≡◌, List}
use Rattle.gray_theory.specs.Radices.{size}
use Rattle.gray_theory.specs.Changes.{ruler}
use Rattle.ahead_theory.specs.Work.{Work, carry, append, idle}

-- what a work step does with the numbers, and when. After entry 2 N − 1 the counter has run out: all places but the last carry,
-- and there the step is idle
pub data Worked (ms : List ℕ) (c t k p : ℕ) : Work → ℕ → ℕ → Type 0 where
  carried : suc p < ruler ms (suc (t + k)) → Worked ms c t k p carry k (suc p)
  appended : suc p ≡ ruler ms (suc (t + k)) → k < c → suc (t + k) < 2 * size ms → Worked ms c t k p append (suc k) 0
  idled : suc p ≡ ruler ms (suc (t + k)) → k ≡ c → Worked ms c t k p idle k p
  spent : suc (t + k) ≡ 2 * size ms → Worked ms c t k p idle k p

-- a useful step adds one to the steps, an idle one nothing
unfoldable pub gained : Work → ℕ
gained carry = 1
gained append = 1
gained idle = 0
