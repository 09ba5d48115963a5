-- The disk engine's calls (document 01, "The disk engine"): what each hands back, for every state there is.
use Rattle.std.specs.Prelude.{ℕ, suc, ◌+◌, ◌-◌, Bool, cond, not, List, [], eqb, get_or, set, replicate}
use Rattle.std.proofs.Math.Option.{Option, none, some}
use Rattle.gray_theory.specs.Answers.{given}
use Rattle.gray_theory.specs.Radices.{digits}
use Rattle.gray_theory.specs.Words.{even}
use Rattle.gray_theory.specs.DirectedWords.{DirectedWord, fresh_word, digit_moved, event_by}
use Rattle.gray_theory.specs.Engines.{Event, ended, Handed, refused_with, open_with}
use Rattle.gray_theory.specs.RunCalls.{Running, run_with}
use Rattle.towers_theory.specs.States.{Towers, all_odd, common, open_check, disks, in_range}
use Rattle.towers_theory.specs.Choices.{digit_of, sweeping, chosen}

-- ---- opening
-- the fresh state on a word: turn 0, all disks on peg 0
abbrev pub fresh_on : DirectedWord → Towers
fresh_on d = record { directed = d; turn = 0; pegs = replicate 48 0 }

unfoldable pub fresh : List ℕ → Towers
fresh ms = fresh_on (fresh_word ms)

-- the state of no survey
abbrev pub closed_towers : Towers
closed_towers = fresh []

-- a refused opening hands back the state as it came, an accepted one the fresh state
unfoldable pub open_of : Towers → List ℕ → Handed Towers Unit
open_of s radices = open_with s (fresh (digits radices)) (open_check (digits radices))

-- ---- one call
-- the turn after a move: for odd counts the other pair's; for even ones a move of disk 1 more, or 0 after the other disk's move
abbrev pub turn_by : Bool → ℕ → ℕ → ℕ
turn_by odd m turn = cond odd (1 - turn) (cond (sweeping m turn) (turn + 1) 0)

abbrev pub turn_after : Towers → ℕ
turn_after s = turn_by (all_odd (disks s)) (common (disks s)) s.turn

-- the next peg of a ring of m + 1, clockwise and the other way
abbrev pub clockwise : ℕ → ℕ → ℕ
clockwise m peg = cond (eqb peg m) 0 (peg + 1)

abbrev pub anticlockwise : ℕ → ℕ → ℕ
anticlockwise m peg = cond (eqb peg 0) m (peg - 1)

-- disk i + 1 goes on: odd disks clockwise, even ones the other way
abbrev pub peg_after : ℕ → ℕ → ℕ → ℕ
peg_after m i peg = cond (even (suc i)) (anticlockwise m peg) (clockwise m peg)

-- the stored pegs after disk i + 1 has moved; for odd counts as they came
abbrev pub pegs_after : Towers → ℕ → List ℕ
pegs_after s i =
    cond (all_odd (disks s)) s.pegs (set s.pegs i (peg_after (common (disks s)) i (get_or s.pegs i 0)))

-- disk i + 1 moves, and its digit one notch in its direction, which turns if the digit is then at an end
unfoldable pub move_of : Towers → ℕ → Handed Towers Event
move_of s i = record {
  state = record { directed = digit_moved s.directed (digit_of s i); turn = turn_after s; pegs = pegs_after s i };
  answer = given (event_by s.directed (digit_of s i));
}

-- where no disk can be chosen the walk has ended, and the state stays as it is, turn included
abbrev pub move_by : Towers → Option ℕ → Handed Towers Event
move_by s none = record { state = s; answer = given ended }
move_by s (some i) = move_of s i

unfoldable pub step_of : Towers → Handed Towers Event
step_of s = cond (not (in_range s)) (refused_with 7 s) (move_by s (chosen s))

-- ---- a run of moves: at most t calls into the lent memory `out`
abbrev pub run_of : Towers → ℕ → List ℕ → Running Towers
run_of s t out = run_with in_range step_of s t out
