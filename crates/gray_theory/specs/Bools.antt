-- What no test can give.
use Rattle.std.specs.Prelude.{ℕ, ◌≡◌}
use Rattle.std.proofs.Common.{arith}

-- two constructors that were shown equal: whatever is asked follows. `cc` shows 0 ≡ 1 from the two
pub impossible : {A : Type 0} → ◌≡◌ {A = ℕ} 0 1 → A
impossible z = absurd (omega arith)
