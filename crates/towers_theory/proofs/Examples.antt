-- Computed examples: made-up states, which hold the range rule and the rules of a call to document 01 where the theorem about
-- whole games does not reach; and refusals in their order. Lists have digit 1 first.
use Rattle.std.specs.Prelude.{◌≡◌, refl, [], ◌∷◌, map, replicate}
use Rattle.gray_theory.specs.Answers.{given, refused}
use Rattle.gray_theory.specs.Radices.{size, all_from}
use Rattle.gray_theory.specs.Locks.{unlocked, moving, moving_in_range}
use Rattle.gray_theory.specs.Directions.{all_below}
use Rattle.gray_theory.specs.DirectedWords.{word_in_range, digit_moved}
use Rattle.gray_theory.specs.Engines.{refused_with}
use Rattle.towers_theory.specs.States.{all_odd, all_even_and_equal, open_check, in_range}
use Rattle.towers_theory.specs.Choices.{peg_of, smallest, chosen}
use Rattle.towers_theory.specs.Calls.{move_of, step_of}
use Rattle.towers_theory.specs.Examples.{on_three, on_ring, GameRange, OnThreePegs, OnTheRing}

pub game_range_at_its_bounds : GameRange
unfolding size all_from unlocked moving all_below in_range word_in_range moving_in_range all_odd all_even_and_equal
game_range_at_its_bounds = record {
  turns_on_three = refl;
  pegs_on_three = refl;
  turns_on_the_ring = refl;
  pegs_on_the_ring = refl;
  words_in_range = refl;
}

pub made-up_games_on_three_pegs : OnThreePegs
unfolding size all_from unlocked moving all_below in_range word_in_range moving_in_range all_odd all_even_and_equal peg_of smallest chosen move_of digit_moved step_of
made-up_games_on_three_pegs = record {
  pegs_by_notches = refl;
  peg_of_disk_2 = refl;
  chosen_on_three = refl;
  locked_is_no_disk = refl;
  disk_2_on_three = refl;
  disk_1_on_three = refl;
  ends_on_three = refl;
}

pub made-up_games_on_the_ring : OnTheRing
unfolding size all_from unlocked moving all_below in_range word_in_range moving_in_range all_odd all_even_and_equal peg_of smallest chosen move_of digit_moved step_of
made-up_games_on_the_ring = record {
  sweeps_on_the_ring = refl;
  disk_2_on_the_ring = refl;
  ends_on_the_ring = refl;
  chosen_on_the_ring = refl;
}

-- ---- refusals
-- a state out of range comes back as it came, with 7
pub faulty_games_get_7 : map step_of (on_three [] [] 2 [] ∷ on_ring [] [] 0 (5 ∷ []) ∷ [])
    ≡ refused_with 7 (on_three [] [] 2 []) ∷ refused_with 7 (on_ring [] [] 0 (5 ∷ [])) ∷ []
unfolding size all_from unlocked moving all_below in_range word_in_range moving_in_range all_odd all_even_and_equal peg_of smallest chosen move_of digit_moved step_of
faulty_games_get_7 = refl

-- wrong counts get 6 after all else: 49 digits, a radix 0 and N over 2^62 are told first; N may be 2^62, and counts of locked
-- digits are not looked at
pub disk_openings_refused_in_order : map open_check
    ((2 ∷ replicate 48 4) ∷ (0 ∷ 2 ∷ 4 ∷ []) ∷ (3 ∷ replicate 31 4) ∷ (2 ∷ replicate 30 4) ∷ (3 ∷ 4 ∷ []) ∷ replicate 31 4 ∷ (1 ∷ 2 ∷ 2 ∷ []) ∷ (1 ∷ []) ∷ [])
    ≡ refused 2 ∷ refused 3 ∷ refused 4 ∷ refused 6 ∷ refused 6 ∷ given tt ∷ given tt ∷ given tt ∷ []
unfolding size all_from unlocked all_below all_odd all_even_and_equal
disk_openings_refused_in_order = refl
