-- The state of the buffered engine and when it is in range (document 01, "The buffered engine").
use Rattle.std.specs.Prelude.{ℕ, ◌+◌, ◌*◌, ◌≡◌, Bool, cond, ◌&&◌, List, [], ◌∷◌, ◌++◌, ltb, leb, length, get_or}
use Rattle.gray_theory.specs.Answers.{Answer, given}
use Rattle.gray_theory.specs.Radices.{size}
use Rattle.gray_theory.specs.Capacities.{of_survey}
use Rattle.gray_theory.specs.Directions.{all_below}
use Rattle.gray_theory.specs.DirectedWords.{DirectedWord, Rooms, survey_in, setting_in, moving_in, word_in_range}

-- ---- the state
-- what work steps change: the counter, the place that it has come to, the queue, how many entries that holds, and the useful
-- steps made (document 01's b, i, queue and s)
pub record Producer : Type 0 where
  pub counter : List ℕ
  pub place : ℕ
  pub queue : List ℕ
  pub queued : ℕ
  pub steps : ℕ

-- the state: what both engines keep (survey, word, directions), the producer, the capacity c, the moves made (j), and whether the
-- walk has ended
pub record Walk : Type 0 where
  pub directed : DirectedWord
  pub producer : Producer
  pub capacity : ℕ
  pub moves : ℕ
  pub ended : Bool

-- the lengths that the arrays of a state have
pub record Arrays (w : Walk) : Type 0 where
  pub directed : Rooms w.directed
  pub counter : length w.producer.counter ≡ 49
  pub queue : length w.producer.queue ≡ 32

-- ---- the survey
-- the checks of an opening: refusals 2, 3, 4 of the survey, then 5
abbrev pub open_check : ℕ → List ℕ → Answer Unit
open_check c ms = of_survey ms c (given tt)

-- the survey and the setting that a state holds
abbrev pub survey : Walk → List ℕ
survey w = survey_in w.directed

abbrev pub setting : Walk → List ℕ
setting w = setting_in w.directed

-- the radices of the digits that move: work steps, counter and buffer rule run over those alone
abbrev pub moving_radices : Walk → List ℕ
moving_radices w = moving_in w.directed

-- the counter's radices: those of the digits that move, and 2 for one place more
abbrev pub places : List ℕ → List ℕ
places ms = ms ++ (2 ∷ [])

-- ---- the range
-- i lies in 1 to n + 1
abbrev pub is_place : List ℕ → ℕ → Bool
is_place ms i = leb 1 i && leb i (length ms + 1)

-- b_i < m_i for every place
abbrev pub counter_in_range : List ℕ → List ℕ → Bool
counter_in_range ms counter = all_below (length ms + 1) (λ i. ltb (get_or counter i 0) (get_or (places ms) i 0))

-- every entry of the queue is a place
abbrev pub entries_in_range : List ℕ → ℕ → List ℕ → Bool
entries_in_range ms queued queue = all_below queued (λ i. is_place ms (get_or queue i 0))

-- what the range rule says of the part that work steps change
unfoldable pub producer_in_range : List ℕ → ℕ → Producer → Bool
producer_in_range ms c p =
    counter_in_range ms p.counter
    && is_place ms p.place
    && entries_in_range ms p.queued p.queue
    && leb p.queued c

-- s is at most 2 j, or 2 j + 2 once the walk has ended
abbrev pub step_limit : ℕ → Bool → ℕ
step_limit j ended = 2 * j + cond ended 2 0

-- document 01: the survey and c could be opened; each a_i < m_i; the direction is up at 0 and down at m_i − 1; b_i < m_i; i and
-- the queue's entries lie in 1 to n + 1; the queue holds at most c; j ≤ N − 1; and s ≤ 2 j, or 2 j + 2 once ended. Document 02: the
-- digits that move are those of the survey; a locked digit is at 0 and up; counter, place and entries are over the digits that move.
unfoldable pub in_range : Walk → Bool
in_range w =
    word_in_range (open_check w.capacity) w.directed
    && producer_in_range (moving_radices w) w.capacity w.producer
    && ltb w.moves (size (survey w))
    && leb w.producer.steps (step_limit w.moves w.ended)
