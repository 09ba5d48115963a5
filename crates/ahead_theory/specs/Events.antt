-- Runs of calls, and their work steps as events (document 01, "A fresh walk is the state that opening gives").
use Rattle.std.specs.Prelude.{ℕ, zero, suc, ◌≤◌, ◌≡◌, List, [], ◌∷◌, ◌++◌}
use Rattle.gray_theory.specs.Answers.{Answer, refused}
use Rattle.gray_theory.specs.Engines.{Event, after, answer_of}
use Rattle.ahead_theory.specs.States.{Walk, moving_radices}
use Rattle.ahead_theory.specs.Work.{Work, carry, append, idle, kind}
use Rattle.ahead_theory.specs.Calls.{Course, faulty, over, dry, removing, course, once, step_of}

-- the state after t calls
abbrev pub state : Walk → ℕ → Walk
state w t = after step_of w t

-- what call j answers, for j from 1
abbrev pub answer : Walk → ℕ → Answer Event
answer w j = answer_of step_of w j

-- the work steps of a call. Those of a dry call do not count, and where the walk has ended, or the state is out of range, a call
-- makes none
abbrev pub events_by : Walk → Course → List Work
events_by w removing = kind (moving_radices w) w.capacity w.producer ∷ kind (moving_radices w) w.capacity (once w) ∷ []
events_by w dry = []
events_by w over = []
events_by w faulty = []

-- the work steps of the first t calls, in order
unfoldable pub events : Walk → ℕ → List Work
events w zero = []
events w (suc t) = events w t ++ events_by (state w t) (course (state w t))

-- how many of them are useful, and how many append an entry
unfoldable pub useful : List Work → ℕ
useful [] = 0
useful (carry ∷ es) = suc (useful es)
useful (append ∷ es) = suc (useful es)
useful (idle ∷ es) = useful es

unfoldable pub appends : List Work → ℕ
appends [] = 0
appends (carry ∷ es) = appends es
appends (append ∷ es) = suc (appends es)
appends (idle ∷ es) = appends es

-- the first t calls are all accepted
abbrev pub Accepting : Walk → ℕ → Type 0
Accepting w t = (j k : ℕ) → 1 ≤ j → j ≤ t → answer w j ≡ refused k → ⊥
