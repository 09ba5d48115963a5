-- A survey with the capacity of its work-ahead buffer: refusals 2 to 5, and what passes them.
use Rattle.std.specs.Prelude.{ℕ, ◌≤◌, Bool, ◌||◌, List, eqb, ltb}
use Rattle.gray_theory.specs.Answers.{Answer, refusing}
use Rattle.gray_theory.specs.Radices.{of_radices, Limits}

-- refusal 5: the capacity is 0 or over 32
abbrev pub wrong_capacity : ℕ → Bool
wrong_capacity c = eqb c 0 || ltb 32 c

-- the checks of a survey and a capacity, and then the rest
abbrev pub of_survey : {A : Type 0} → List ℕ → ℕ → Answer A → Answer A
of_survey ms c rest = of_radices ms (refusing 5 (wrong_capacity c) rest)

-- document 01, "Limits"
pub record Openable (ms : List ℕ) (c : ℕ) : Type 0 where
  pub survey : Limits ms
  pub place : 1 ≤ c
  pub capacity : c ≤ 32
