-- Made-up states, which hold the range rule and the rules of a call to document 01 where the theorems about whole walks do not
-- reach. Lists have digit 1 first.
use Rattle.std.specs.Prelude.{ℕ, ◌≡◌, Bool, true, false, List, [], ◌∷◌, ◌++◌, map}
use Rattle.gray_theory.specs.Answers.{given}
use Rattle.gray_theory.specs.Arrays.{filled}
use Rattle.gray_theory.specs.DirectedWords.{DirectedWord}
use Rattle.gray_theory.specs.Engines.{moved, ended, refused_with}
use Rattle.ahead_theory.specs.States.{Producer, Walk, in_range}
use Rattle.ahead_theory.specs.Work.{carry, append, idle, kind, work}
use Rattle.ahead_theory.specs.Calls.{course, step_of}
use Rattle.ahead_theory.specs.Events.{events_by}

-- ---- states of that survey, which has N = 6, two digits that move and a third place for the end
-- the digits at notches 1, 0, 1 (digit 1 first), digit 3 at its top and going down
abbrev pub word : DirectedWord
word = record {
  radices = filled 48 0 (3 ∷ 1 ∷ 2 ∷ []);
  n = 3;
  moving = record { digits = filled 48 0 (1 ∷ 3 ∷ []); count = 2 };
  word = filled 48 0 (1 ∷ 0 ∷ 1 ∷ []);
  downs = filled 48 false (false ∷ false ∷ true ∷ []);
}

-- with these counts, place, entries and useful steps; c places, j moves
abbrev made : List ℕ → ℕ → List ℕ → ℕ → ℕ → Producer
made counts i entries queued s =
    record { counter = filled 49 0 counts; place = i; queue = filled 32 0 entries; queued = queued; steps = s }

abbrev walk_on : DirectedWord → Producer → ℕ → ℕ → Bool → Walk
walk_on d p c j over = record { directed = d; producer = p; capacity = c; moves = j; ended = over }

abbrev pub walk : Producer → ℕ → ℕ → Bool → Walk
walk p c j over = walk_on word p c j over

-- ---- the range rule
abbrev worded : ℕ → List ℕ → List ℕ → List Bool → Bool
worded n digits word downs =
    let d : DirectedWord =
    record {
      radices = filled 48 0 (3 ∷ 1 ∷ 2 ∷ []);
      n = n;
      moving = record { digits = filled 48 0 digits; count = 2 };
      word = filled 48 0 word;
      downs = filled 48 false downs;
    } in
    in_range (walk_on d (made [] 1 [] 0 0) 2 2 false)

abbrev stepped : ℕ → Bool → ℕ → Bool
stepped j over s = in_range (walk (made [] 1 [] 0 s) 2 j over)

-- clause by clause: at its bound, and one past it
pub record WalkRange : Type 0 where
  -- the survey can be opened, and the word is in range. Not so of no digit at all, of a notch at its radix, of a direction up
  -- at the top, of a locked digit that goes down, nor where other digits are said to move
  pub words_in_range : worded 3 (1 ∷ 3 ∷ []) (2 ∷ 0 ∷ 1 ∷ []) (true ∷ false ∷ true ∷ [])
      ∷ worded 0 (1 ∷ 3 ∷ []) (2 ∷ 0 ∷ 1 ∷ []) (true ∷ false ∷ true ∷ [])
      ∷ worded 3 (1 ∷ 3 ∷ []) (3 ∷ 0 ∷ 1 ∷ []) (true ∷ false ∷ true ∷ [])
      ∷ worded 3 (1 ∷ 3 ∷ []) (2 ∷ 0 ∷ 1 ∷ []) (false ∷ false ∷ true ∷ [])
      ∷ worded 3 (1 ∷ 3 ∷ []) (2 ∷ 0 ∷ 1 ∷ []) (true ∷ true ∷ true ∷ [])
      ∷ worded 3 (1 ∷ 2 ∷ []) (2 ∷ 0 ∷ 1 ∷ []) (true ∷ false ∷ true ∷ [])
      ∷ []
      ≡ true ∷ false ∷ false ∷ false ∷ false ∷ false ∷ []
  -- b_i < m_i for the three places, and nothing is asked of what stands behind them
  pub counts_in_range : map (λ b. in_range (walk (made b 1 [] 0 0) 2 2 false))
      ((2 ∷ 1 ∷ 1 ∷ []) ∷ (3 ∷ 1 ∷ 1 ∷ []) ∷ (2 ∷ 2 ∷ 1 ∷ []) ∷ (2 ∷ 1 ∷ 2 ∷ []) ∷ (0 ∷ 0 ∷ 0 ∷ 9 ∷ []) ∷ [])
      ≡ true ∷ false ∷ false ∷ false ∷ true ∷ []
  -- i lies in 1 to 3
  pub places_in_range : map (λ i. in_range (walk (made [] i [] 0 0) 2 2 false)) (0 ∷ 1 ∷ 3 ∷ 4 ∷ []) ≡ false ∷ true ∷ true ∷ false ∷ []
  -- so does each of the two entries queued, and nothing is asked of what stands behind them
  pub entries_in_range_lem : map (λ q. in_range (walk (made [] 1 q 2 0) 2 2 false))
      ((3 ∷ 1 ∷ []) ∷ (1 ∷ 3 ∷ []) ∷ (0 ∷ 1 ∷ []) ∷ (1 ∷ 0 ∷ []) ∷ (4 ∷ 1 ∷ []) ∷ (1 ∷ 4 ∷ []) ∷ (1 ∷ 1 ∷ 4 ∷ []) ∷ [])
      ≡ true ∷ true ∷ false ∷ false ∷ false ∷ false ∷ true ∷ []
  -- the queue holds at most c entries
  pub queues_in_range : map (λ k. in_range (walk (made [] 1 (1 ∷ 1 ∷ 1 ∷ []) k 0) 2 2 false)) (0 ∷ 1 ∷ 2 ∷ 3 ∷ []) ≡ true ∷ true ∷ true ∷ false ∷ []
  -- c is 1 to 32
  pub capacities_in_range : map (λ c. in_range (walk (made [] 1 [] 0 0) c 2 false)) (0 ∷ 1 ∷ 32 ∷ 33 ∷ []) ≡ false ∷ true ∷ true ∷ false ∷ []
  -- j ≤ N − 1
  pub moves_in_range : map (λ j. in_range (walk (made [] 1 [] 0 0) 2 j false)) (0 ∷ 5 ∷ 6 ∷ []) ≡ true ∷ true ∷ false ∷ []
  -- s ≤ 2 j, or 2 j + 2 once the walk has ended, with j = 0 and with j = 2
  pub steps_in_range : map (stepped 0 false) (0 ∷ 1 ∷ []) ++ map (stepped 2 false) (4 ∷ 5 ∷ []) ≡ true ∷ false ∷ true ∷ false ∷ []
  pub steps_in_range_once_ended : map (stepped 0 true) (2 ∷ 3 ∷ []) ++ map (stepped 2 true) (6 ∷ 7 ∷ []) ≡ true ∷ false ∷ true ∷ false ∷ []

-- ---- work steps, with two places
pub record WorkSteps : Type 0 where
  -- at a count below m − 1 a work step appends, or is idle where the queue is full; at m − 1 it carries, whether the queue is
  -- full or not; at the last place it appends or is idle with b = 0, and is idle with b = 1
  pub kinds_of_work : map (kind (3 ∷ 2 ∷ []) 2)
      (made (1 ∷ 1 ∷ 1 ∷ []) 1 (1 ∷ []) 1 0
      ∷ made (1 ∷ 1 ∷ 1 ∷ []) 1 (1 ∷ 1 ∷ []) 2 0
      ∷ made (2 ∷ 1 ∷ 1 ∷ []) 1 (1 ∷ []) 1 0
      ∷ made (2 ∷ 1 ∷ 1 ∷ []) 1 (1 ∷ 1 ∷ []) 2 0
      ∷ made (1 ∷ 1 ∷ 1 ∷ []) 2 [] 0 0
      ∷ made (1 ∷ 1 ∷ 0 ∷ []) 3 [] 0 0
      ∷ made (1 ∷ 1 ∷ 0 ∷ []) 3 (1 ∷ 1 ∷ []) 2 0
      ∷ made (1 ∷ 1 ∷ 1 ∷ []) 3 [] 0 0
      ∷ made (1 ∷ 1 ∷ 1 ∷ []) 3 (1 ∷ 1 ∷ []) 2 0
      ∷ [])
      ≡ append ∷ idle ∷ carry ∷ carry ∷ carry ∷ append ∷ idle ∷ idle ∷ idle ∷ []
  -- a carry, an append and an idle step: what each leaves
  pub work-done : map (work (3 ∷ 2 ∷ []) 2)
      (made (2 ∷ 1 ∷ 1 ∷ []) 1 (3 ∷ 1 ∷ []) 2 4 ∷ made (1 ∷ 0 ∷ 1 ∷ []) 2 (3 ∷ []) 1 4 ∷ made (1 ∷ 1 ∷ 1 ∷ []) 3 (3 ∷ []) 1 4 ∷ [])
      ≡ made (0 ∷ 1 ∷ 1 ∷ []) 2 (3 ∷ 1 ∷ []) 2 5 ∷ made (1 ∷ 1 ∷ 1 ∷ []) 1 (3 ∷ 2 ∷ []) 2 5 ∷ made (1 ∷ 1 ∷ 1 ∷ []) 3 (3 ∷ []) 1 4 ∷ []

-- ---- calls
-- entry 2, which is digit 3, at j = N − 1: it goes down to 0 and turns. The two work steps carry, and append
abbrev last : Walk
last = walk (made (2 ∷ 0 ∷ 1 ∷ []) 1 (2 ∷ []) 1 4) 2 5 false

abbrev past : Walk
past = walk_on
    (record { radices = word.radices; n = 3; moving = word.moving; word = filled 48 0 (1 ∷ []); downs = filled 48 false [] })
    (made (0 ∷ 1 ∷ 1 ∷ []) 1 (2 ∷ []) 1 6) 2 6 false

-- two carries, and the queue is empty
abbrev empty : Walk
empty = walk (made (2 ∷ 1 ∷ 0 ∷ []) 1 [] 0 4) 2 2 false

-- an ended walk with an entry queued, and one that is out of range besides
abbrev over : Walk
over = walk (made [] 1 (1 ∷ []) 1 4) 2 2 true

abbrev faulty : Walk
faulty = walk (made [] 0 (1 ∷ []) 1 4) 2 2 true

pub record MadeUpCalls : Type 0 where
  -- the end entry at j = 2, behind it one more: the walk ends there; the counter has run out, so both work steps are idle
  pub ends_at_its_entry : step_of (walk (made (2 ∷ 1 ∷ 1 ∷ []) 3 (3 ∷ 1 ∷ []) 2 4) 2 2 false)
      ≡ record { state = walk (made (2 ∷ 1 ∷ 1 ∷ []) 3 (1 ∷ []) 1 4) 2 2 true; answer = given ended }
  -- an entry of a digit at j = N − 1 moves it, and j becomes N; the next call gets 7
  pub moves_at_the_last-rank : step_of last ≡ record { state = past; answer = given (moved (record { digit = 3; down = true }) 0) }
  pub gets_7_past_it : step_of past ≡ refused_with 7 past
  -- a dry call hands back the state as it came, its counter too
  pub dry_at_an_empty_queue : step_of empty ≡ refused_with 10 empty
  -- an ended walk answers end and stays, whatever its queue holds; out of range it gets 7 all the same
  pub ended_stays : step_of over ≡ record { state = over; answer = given ended }
  pub faulty_gets_7 : step_of faulty ≡ refused_with 7 faulty
  -- the work steps that count: those of the call that moved, in their order, and none of the other three
  pub work_that_counts : map (λ w. events_by w (course w)) (last ∷ empty ∷ over ∷ faulty ∷ []) ≡ (carry ∷ append ∷ []) ∷ [] ∷ [] ∷ [] ∷ []
