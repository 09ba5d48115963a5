-- Computed examples: one walk picked up in mid-list, with every field of its state; and made-up states, which hold the range
-- rule and the rules of a call to document 01 where the theorems about whole walks do not reach. Lists have digit 1 first.
use Rattle.std.specs.Prelude.{◌≡◌, refl, true, false, [], ◌∷◌}
use Rattle.gray_theory.specs.Answers.{given}
use Rattle.gray_theory.specs.Radices.{size, mixed_digits, all_from}
use Rattle.gray_theory.specs.Words.{is_word, rank}
use Rattle.gray_theory.specs.Arrays.{filled}
use Rattle.gray_theory.specs.Locks.{unlocked, moving, moving_in_range}
use Rattle.gray_theory.specs.Directions.{all_below}
use Rattle.gray_theory.specs.DirectedWords.{word_in_range, digit_moved}
use Rattle.gray_theory.specs.Engines.{after}
use Rattle.ahead_theory.specs.States.{producer_in_range, in_range}
use Rattle.ahead_theory.specs.Work.{kind, done}
use Rattle.ahead_theory.specs.Calls.{fresh, closed_walk, course, dequeued, end_of, move_of, step_of}
use Rattle.ahead_theory.specs.Pickups.{fillable, fill, picked_up, resume_of}
use Rattle.ahead_theory.specs.Examples.{WalkRange, WorkSteps, MadeUpCalls}

-- ---- a walk that is picked up
-- the survey 2, 1, 3, whose sluice 2 is locked, at 0 0 2, of rank 2 in 6, with two places: sluice 1 is at its top and goes
-- down; entries 3 and 4 are the second that moves and the first; the counter stands at 4
pub middle_of_2_1_3 : resume_of closed_walk (2 ∷ 1 ∷ 3 ∷ []) 2 (0 ∷ 0 ∷ 2 ∷ []) ≡ record {
  state =
      record {
        directed =
            record {
              radices = filled 48 0 (3 ∷ 1 ∷ 2 ∷ []);
              n = 3;
              moving = record { digits = filled 48 0 (1 ∷ 3 ∷ []); count = 2 };
              word = filled 48 0 (2 ∷ 0 ∷ 0 ∷ []);
              downs = filled 48 false (true ∷ []);
            };
        producer =
            record {
              counter = filled 49 0 (1 ∷ 1 ∷ 0 ∷ []);
              place = 1;
              queue = filled 32 0 (2 ∷ 1 ∷ []);
              queued = 2;
              steps = 0;
            };
        capacity = 2;
        moves = 2;
        ended = false;
      };
  answer = given tt;
}
unfolding resume_of picked_up size all_from is_word rank unlocked moving all_below kind done fresh mixed_digits fillable fill after step_of course dequeued end_of move_of digit_moved producer_in_range in_range word_in_range moving_in_range
middle_of_2_1_3 = refl

pub walk_range_at_its_bounds : WalkRange
unfolding size all_from unlocked moving all_below producer_in_range in_range word_in_range moving_in_range
walk_range_at_its_bounds = record {
  words_in_range = refl;
  counts_in_range = refl;
  places_in_range = refl;
  entries_in_range_lem = refl;
  queues_in_range = refl;
  capacities_in_range = refl;
  moves_in_range = refl;
  steps_in_range = refl;
  steps_in_range_once_ended = refl;
}

pub work_on_made-up_states : WorkSteps
unfolding kind done
work_on_made-up_states = record {
  kinds_of_work = refl;
  work-done = refl;
}

pub made-up_walks_are_stepped : MadeUpCalls
unfolding size all_from unlocked moving all_below producer_in_range in_range word_in_range moving_in_range kind done step_of course dequeued end_of move_of digit_moved
made-up_walks_are_stepped = record {
  ends_at_its_entry = refl;
  moves_at_the_last-rank = refl;
  gets_7_past_it = refl;
  dry_at_an_empty_queue = refl;
  ended_stays = refl;
  faulty_gets_7 = refl;
  work_that_counts = refl;
}
