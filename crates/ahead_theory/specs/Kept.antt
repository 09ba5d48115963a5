-- Of an entry and its digit, for the theorems about what calls keep.
use Rattle.std.specs.Prelude.{ℕ, ◌-◌, ◌≤◌, get_or}
use Rattle.ahead_theory.specs.States.{Walk}

-- an entry turned back into the number of its digit
pub record EntryDigit (w : Walk) (k : ℕ) : Type 0 where
  pub from_one : 1 ≤ k
  pub digit : k ≤ w.directed.n
  pub two : 2 ≤ get_or w.directed.radices (k - 1) 0
