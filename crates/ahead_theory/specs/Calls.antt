-- The buffered engine's calls (document 01, "The buffered engine"): what each hands back, for every state there is.
use Rattle.std.specs.Prelude.{ℕ, ◌+◌, ◌-◌, true, false, cond, not, List, [], ◌∷◌, ◌++◌, eqb, get_or, drop, replicate}
use Rattle.gray_theory.specs.Answers.{given}
use Rattle.gray_theory.specs.Radices.{digits}
use Rattle.gray_theory.specs.DirectedWords.{DirectedWord, fresh_word, digit_moved, event_by}
use Rattle.gray_theory.specs.Engines.{Event, ended, Handed, refused_with, open_with}
use Rattle.gray_theory.specs.RunCalls.{Running, run_with}
use Rattle.ahead_theory.specs.States.{Producer, Walk, moving_radices, open_check, in_range}
use Rattle.ahead_theory.specs.Work.{work}

-- ---- opening
-- the fresh state on a word: the counter all 0, place 1, an empty queue, no changes made, no useful steps, not ended
abbrev pub fresh_on : DirectedWord → ℕ → Walk
fresh_on d c = record {
  directed = d;
  producer = record { counter = replicate 49 0; place = 1; queue = replicate 32 0; queued = 0; steps = 0 };
  capacity = c;
  moves = 0;
  ended = false;
}

unfoldable pub fresh : List ℕ → ℕ → Walk
fresh ms c = fresh_on (fresh_word ms) c

-- the state of no survey
abbrev pub closed_walk : Walk
closed_walk = fresh [] 0

-- a refused opening hands back the state as it came, an accepted one the fresh state
unfoldable pub open_of : Walk → List ℕ → ℕ → Handed Walk Unit
open_of w radices c = open_with w (fresh (digits radices) c) (open_check c (digits radices))

-- ---- one call
-- the producer after the two work steps of a call
abbrev pub once : Walk → Producer
once w = work (moving_radices w) w.capacity w.producer

abbrev pub twice : Walk → Producer
twice w = work (moving_radices w) w.capacity (once w)

-- how a call goes: the state is out of range; the walk has ended already; the queue is empty at the removal, after the two work
-- steps; or the oldest entry is removed
pub data Course : Type 0 where
  faulty : Course
  over : Course
  dry : Course
  removing : Course

unfoldable pub course : Walk → Course
course w =
    cond (not (in_range w)) faulty
    (cond w.ended over
    (cond (eqb (twice w).queued 0) dry removing))

-- the queue stands with the oldest entry first; the others move up, and 0 comes in at the array's end
unfoldable pub dequeued : Producer → Producer
dequeued p = record {
  counter = p.counter;
  place = p.place;
  queue = drop 1 p.queue ++ (0 ∷ []);
  queued = p.queued - 1;
  steps = p.steps;
}

-- the walk ends with the producer p
unfoldable pub end_of : Walk → Producer → Handed Walk Event
end_of w p = record {
  state = record { directed = w.directed; producer = p; capacity = w.capacity; moves = w.moves; ended = true };
  answer = given ended;
}

-- digit k moves one notch in its direction, which turns if the digit is then at an end; j grows by 1
unfoldable pub move_of : Walk → ℕ → Producer → Handed Walk Event
move_of w k p = record {
  state =
      record { directed = digit_moved w.directed k; producer = p; capacity = w.capacity; moves = w.moves + 1; ended = false };
  answer = given (event_by w.directed k);
}

-- the oldest entry k is removed: one more than the digits that move ends the walk, any other is turned back into the number of
-- its digit, which moves
abbrev pub removal_of : Walk → ℕ → Producer → Handed Walk Event
removal_of w k p =
    cond (eqb k (w.directed.moving.count + 1)) (end_of w p) (move_of w (get_or w.directed.moving.digits (k - 1) 0) p)

abbrev pub step_by : Walk → Course → Handed Walk Event
step_by w faulty = refused_with 7 w
step_by w over = record { state = w; answer = given ended }
step_by w dry = refused_with 10 w
step_by w removing = removal_of w (get_or (twice w).queue 0 0) (dequeued (twice w))

unfoldable pub step_of : Walk → Handed Walk Event
step_of w = step_by w (course w)

-- ---- a run of moves: at most t calls into the lent memory `out`
abbrev pub run_of : Walk → ℕ → List ℕ → Running Walk
run_of w t out = run_with in_range step_of w t out
