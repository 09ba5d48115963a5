-- One call on a state of the run: its two work steps, and the removal.
use Prim.Native.Nat.{ℕ, ◌+◌}
use Rattle.std.specs.Prelude.{◌≡◌, false, List, [], ◌∷◌}
use Rattle.gray_theory.specs.Locks.{unlocked}
use Rattle.ahead_theory.specs.States.{Walk}
use Rattle.ahead_theory.specs.Work.{Work}
use Rattle.ahead_theory.specs.Calls.{once, twice, removing}
use Rattle.ahead_theory.specs.Events.{events_by}
use Rattle.ahead_theory.specs.Positions.{Worked, gained}
use Rattle.ahead_theory.specs.Canonical.{producer_at, walk_at}

-- the state of a running walk
abbrev pub running : List ℕ → ℕ → ℕ → ℕ → ℕ → ℕ → Walk
running ms c s t k p = walk_at ms c t false (producer_at (unlocked ms) s t k p)

-- ---- the two work steps of a call
pub record Round (ms : List ℕ) (c s t k p : ℕ) : Type 0 where
  pub e₁ : Work
  pub k₁ : ℕ
  pub p₁ : ℕ
  pub e₂ : Work
  pub k₂ : ℕ
  pub p₂ : ℕ
  pub first : Worked (unlocked ms) c t k p e₁ k₁ p₁
  pub second : Worked (unlocked ms) c t k₁ p₁ e₂ k₂ p₂
  pub events_are : events_by (running ms c s t k p) removing ≡ e₁ ∷ e₂ ∷ []
  pub once_is : once (running ms c s t k p) ≡ producer_at (unlocked ms) (s + gained e₁) t k₁ p₁
  pub twice_is : twice (running ms c s t k p) ≡ producer_at (unlocked ms) (s + gained e₁ + gained e₂) t k₂ p₂

-- the useful steps counted by then
abbrev pub steps_after : {ms : List ℕ} {c s t k p : ℕ} → Round ms c s t k p → ℕ
steps_after {s = s} r = s + gained r.e₁ + gained r.e₂
