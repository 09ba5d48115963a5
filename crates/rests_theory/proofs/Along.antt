-- Laws of runs along the list: what it has up to call N − 1, and from call N on.
use Rattle.std.specs.Prelude.{ℕ, ◌≤◌, ◌<◌, ◌≡◌, cond, List}
use Rattle.std.proofs.Math.Decide.{dec_lt}
use Rattle.std.proofs.Common.{arith, sym, ap, ◌∙◌, lt-ltb, le-ltb}
use Rattle.gray_theory.specs.Answers.{given}
use Rattle.gray_theory.specs.Radices.{size}
use Rattle.gray_theory.specs.Engines.{ended, move_at}
use Rattle.rests_theory.specs.Rests.{Run, listed, NamesTheList}

pub listed-moves : (ms : List ℕ) (j : ℕ) → j < size ms → listed ms j ≡ given (move_at ms j)
listed-moves ms j h = ap (λ b. cond b (given (move_at ms j)) (given ended)) (lt-ltb j (size ms) h)

pub listed-ends : (ms : List ℕ) (j : ℕ) → size ms ≤ j → listed ms j ≡ given ended
listed-ends ms j h = ap (λ b. cond b (given (move_at ms j)) (given ended)) (le-ltb j (size ms) h)

pub along : (ms : List ℕ) (run : Run)
    → ((j : ℕ) → 1 ≤ j → j < size ms → run j ≡ given (move_at ms j))
    → ((j : ℕ) → size ms ≤ j → run j ≡ given ended)
    → NamesTheList ms run
along ms run moves end j one =
    elim (dec_lt j (size ms)) [
      | yes h ↦ moves j one h ∙ sym (listed-moves ms j h)
      | no past ↦ end j (omega arith) ∙ sym (listed-ends ms j (omega arith))
    ]
