-- What the disk engine promises of the whole run of calls from a state. The theorem that every fresh start keeps it stands in
-- DisksWalk.
use Rattle.std.specs.Prelude.{ℕ, ◌-◌, ◌≤◌, ◌<◌, ◌≡◌, Bool, true, List, length, get_or}
use Rattle.gray_theory.specs.Answers.{Answer, given}
use Rattle.gray_theory.specs.Radices.{size}
use Rattle.gray_theory.specs.Locks.{moving}
use Rattle.gray_theory.specs.Words.{member}
use Rattle.gray_theory.specs.Engines.{Event, moved, ended, after, answer_of, Names}
use Rattle.towers_theory.specs.States.{Towers, setting, in_range}
use Rattle.towers_theory.specs.Choices.{peg_of}
use Rattle.towers_theory.specs.Calls.{step_of}

-- the state after t calls
abbrev pub state : Towers → ℕ → Towers
state s t = after step_of s t

-- what call j answers, for j from 1
abbrev pub answer : Towers → ℕ → Answer Event
answer s j = answer_of step_of s j

-- call j answers end and hands the state back as it came, turn included
pub record Ends (s : Towers) (j : ℕ) : Type 0 where
  pub answers : answer s j ≡ given ended
  pub unchanged : state s j ≡ state s (j - 1)

-- call j moves disk i + 1 by the rules of the game: no smaller disk is on the peg that it leaves, nor on the one that it is put
-- on
pub record Allowed (s : Towers) (j i : ℕ) : Type 0 where
  pub top : (k : ℕ) → k < i → peg_of (state s (j - 1)) k ≡ peg_of (state s (j - 1)) i → ⊥
  pub lands : (k : ℕ) → k < i → peg_of (state s j) k ≡ peg_of (state s j) i → ⊥

-- the walk starts at the setting of rank 0; calls 1 to N − 1 name changes 1 to N − 1, each with the setting of its rank; call N
-- and every later one end; every state is in range; and every call that moves a disk keeps to the rules
pub record PlaysTheList (ms : List ℕ) (s : Towers) : Type 0 where
  pub start : setting s ≡ member ms 0
  pub moves : (j : ℕ) → 1 ≤ j → j < size ms → Names step_of setting ms s j
  pub end : (j : ℕ) → size ms ≤ j → Ends s j
  pub stays_in_range : (t : ℕ) → in_range (state s t) ≡ true
  pub rules : (j i : ℕ) (down : Bool) (notch : ℕ)
      → 1 ≤ j
      → i < length (moving ms)
      → answer s j ≡ given (moved (record { digit = get_or (moving ms) i 0; down = down }) notch)
      → Allowed s j i

-- ---- a state with other pegs
abbrev pub with_pegs : List ℕ → Towers → Towers
with_pegs pegs s = record { directed = s.directed; turn = s.turn; pegs = pegs }
