-- Picking up a survey at a given setting (document 02, "Pick up a survey at a given setting"): the state there, with its buffer
-- filled ahead. Lent radices and settings have digit n first.
use Rattle.std.specs.Prelude.{ℕ, zero, suc, ◌+◌, ◌*◌, Bool, false, cond, not, ◌&&◌, List, [], ◌∷◌, ◌++◌, eqb, ltb, length, get_or, replicate}
use Rattle.gray_theory.specs.Answers.{Answer, given, refusing}
use Rattle.gray_theory.specs.Radices.{digits, mixed_digits}
use Rattle.gray_theory.specs.DirectedWords.{directed_on}
use Rattle.gray_theory.specs.Words.{is_word, rank}
use Rattle.gray_theory.specs.Arrays.{filled}
use Rattle.gray_theory.specs.Locks.{unlocked}
use Rattle.gray_theory.specs.Capacities.{of_survey}
use Rattle.gray_theory.specs.Directions.{all_below}
use Rattle.gray_theory.specs.Engines.{Handed, open_with}
use Rattle.ahead_theory.specs.States.{Producer, Walk}
use Rattle.ahead_theory.specs.Work.{work}
use Rattle.ahead_theory.specs.Calls.{fresh}
use Rattle.ahead_theory.specs.Events.{state}

-- the checks: refusals 2 to 5 as in opening, and then 8, a word that is no setting of the survey
abbrev pub resume_check : List ℕ → ℕ → List ℕ → Answer Unit
resume_check ms c word = of_survey ms c (refusing 8 (not (is_word ms word)) (given tt))

-- ---- the buffer, over the digits that move
-- before any filling: an empty queue, the mixed-radix digits of the rank in the counter, 0 in its last place, place 1
abbrev pub unfilled : List ℕ → ℕ → Producer
unfilled ms r = record {
  counter = filled 49 0 (mixed_digits ms r ++ (0 ∷ []));
  place = 1;
  queue = replicate 32 0;
  queued = 0;
  steps = 0;
}

-- the queue is not full, and does not hold the end entry
unfoldable pub fillable : List ℕ → ℕ → Producer → Bool
fillable ms c p = ltb p.queued c && all_below p.queued (λ i. not (eqb (get_or p.queue i 0) (length ms + 1)))

-- work steps until the queue is full or holds the end entry, at most f of them
unfoldable pub fill : List ℕ → ℕ → ℕ → Producer → Producer
fill ms c zero p = p
fill ms c (suc f) p = cond (fillable ms c p) (fill ms c f (work ms c p)) p

-- more than any filling takes (`fill-ends`)
abbrev pub fill_steps : List ℕ → ℕ → ℕ
fill_steps ms c = 2 * c + length ms

-- that filling is not counted
abbrev pub uncounted : Producer → Producer
uncounted p = record { counter = p.counter; place = p.place; queue = p.queue; queued = p.queued; steps = 0 }

-- the buffer at rank r, filled ahead
abbrev pub filled_at : List ℕ → ℕ → ℕ → Producer
filled_at ms c r = uncounted (fill ms c (fill_steps ms c) (unfilled ms r))

-- ---- the call
-- the directions that the walk from the start has at rank r; 32 places are enough for every survey
abbrev pub downs_from_start : List ℕ → ℕ → List Bool
downs_from_start ms r = (state (fresh ms 32) r).directed.downs

-- the state at a setting: j is its rank
abbrev pub standing : List ℕ → ℕ → List ℕ → ℕ → Walk
standing ms c word r = record {
  directed = directed_on ms (filled 48 0 word) (downs_from_start ms r);
  producer = filled_at (unlocked ms) c r;
  capacity = c;
  moves = r;
  ended = false;
}

unfoldable pub picked_up : List ℕ → ℕ → List ℕ → Walk
picked_up ms c word = standing ms c word (rank ms word)

-- it is an opening too: a refused call hands back the state as it came
unfoldable pub resume_of : Walk → List ℕ → ℕ → List ℕ → Handed Walk Unit
resume_of w radices c word =
    open_with w (picked_up (digits radices) c (digits word)) (resume_check (digits radices) c (digits word))
