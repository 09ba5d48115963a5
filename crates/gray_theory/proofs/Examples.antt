-- Cases that pin what no theorem says: refusals of the calls in their order, words that do not differ, arrays, what is in range
-- and out of it, and runs of moves.
use Rattle.std.specs.Prelude.{ℕ, suc, ◌≡◌, refl, Bool, true, false, cond, List, [], ◌∷◌, ◌++◌, map, ltb, leb, replicate}
use Rattle.gray_theory.specs.Answers.{given, refused, number_of}
use Rattle.gray_theory.specs.Radices.{size, all_from}
use Rattle.gray_theory.specs.Words.{upward, downward, notches, through, list, is_word, rank}
use Rattle.gray_theory.specs.Changes.{difference}
use Rattle.gray_theory.specs.Locks.{moving, moving_in_range}
use Rattle.gray_theory.specs.Directions.{all_below}
use Rattle.gray_theory.specs.Arrays.{filled, digit_array}
use Rattle.gray_theory.specs.Calls.{survey_call, rank_call, word_call}
use Rattle.gray_theory.specs.DirectedWords.{DirectedWord, fresh_word, word_in_range}
use Rattle.gray_theory.specs.MoveBytes.{move_byte}
use Rattle.gray_theory.specs.Engines.{Event, moved, ended, Handed}
use Rattle.gray_theory.specs.RunCalls.{nothing, end, Running, run_from, run_with}

-- a value has no refusal's number
pub a_value_has_number_0 : number_of {A = ℕ} (given 6) ≡ 0
a_value_has_number_0 = refl

-- N of 2, 3 with a capacity of 1; the lowest refusal that applies: a radix of 0 and a capacity of 0, and a capacity of 0
pub surveys_in_order :
    survey_call (2 ∷ 3 ∷ []) 1 ∷ survey_call (0 ∷ []) 0 ∷ survey_call (2 ∷ 3 ∷ []) 0 ∷ [] ≡ given 6 ∷ refused 3 ∷ refused 5 ∷ []
unfolding survey_call size all_from
surveys_in_order = refl

-- ranks in the list of 2, 3; a digit at its radix, a word too short and one too long; a radix of 0 comes before a wrong word
pub ranks_in_order :
    map (rank_call (2 ∷ 3 ∷ [])) ((1 ∷ 2 ∷ []) ∷ (0 ∷ 3 ∷ []) ∷ (2 ∷ 0 ∷ []) ∷ (0 ∷ []) ∷ (0 ∷ 0 ∷ 0 ∷ []) ∷ [])
    ++ (rank_call (0 ∷ []) [] ∷ [])
    ≡ given 3 ∷ refused 8 ∷ refused 8 ∷ refused 8 ∷ refused 8 ∷ refused 3 ∷ []
unfolding rank_call size all_from is_word rank
ranks_in_order = refl

-- the word of rank 3 of 2, 3, and into one byte less; rank N, which comes before the room, and after a radix of 0
pub words_in_order :
    word_call (2 ∷ 3 ∷ []) 3 2 ∷ word_call (2 ∷ 3 ∷ []) 3 1 ∷ word_call (2 ∷ 3 ∷ []) 6 0 ∷ word_call (0 ∷ []) 6 0 ∷ []
    ≡ given (1 ∷ 2 ∷ []) ∷ refused 9 ∷ refused 8 ∷ refused 3 ∷ []
unfolding word_call size all_from upward downward notches through list
words_in_order = refl

-- two words of two digits that do not differ name digit 3, and up
pub no_difference : difference (1 ∷ 2 ∷ []) (1 ∷ 2 ∷ []) ≡ record { digit = 3; down = false }
unfolding difference
no_difference = refl

-- the digits of two bytes, with 46 zeros after them; of 49 bytes 0, 1, .., 48 the last 48, the last of them first
pub digits_in_arrays :
    digit_array (2 ∷ 3 ∷ []) ∷ digit_array (upward 49) ∷ [] ≡ (3 ∷ 2 ∷ replicate 46 0) ∷ map suc (downward 48) ∷ []
unfolding upward downward
digits_in_arrays = refl

-- ---- the range rule
-- the survey 2, 1, 3, whose digit 2 is locked, and what is kept of it
abbrev kept : List ℕ → List Bool → List ℕ → ℕ → DirectedWord
kept word downs numbers count = record {
  radices = filled 48 0 (3 ∷ 1 ∷ 2 ∷ []);
  n = 3;
  moving = record { digits = filled 48 0 numbers; count = count };
  word = filled 48 0 word;
  downs = filled 48 false downs;
}

-- in range: the start; digit 1 in the middle, up and down; at its top, down; all at their tops
pub words_and_directions_in_range :
    map (word_in_range (λ ms. given tt))
    (kept [] [] (1 ∷ 3 ∷ []) 2
    ∷ kept (1 ∷ []) [] (1 ∷ 3 ∷ []) 2
    ∷ kept (1 ∷ []) (true ∷ []) (1 ∷ 3 ∷ []) 2
    ∷ kept (2 ∷ []) (true ∷ []) (1 ∷ 3 ∷ []) 2
    ∷ kept (2 ∷ 0 ∷ 1 ∷ []) (true ∷ false ∷ true ∷ []) (1 ∷ 3 ∷ []) 2
    ∷ [])
    ≡ true ∷ true ∷ true ∷ true ∷ true ∷ []
unfolding word_in_range moving_in_range all_below moving
words_and_directions_in_range = refl

-- out of range: a digit at its radix; down at 0; up at its top, digit 1 and digit 3; a locked digit at notch 1, and one that
-- goes down; the digits that move are others, one less, one more
pub words_and_directions_out_of_range :
    map (word_in_range (λ ms. given tt))
    (kept (3 ∷ []) (true ∷ []) (1 ∷ 3 ∷ []) 2
    ∷ kept [] (true ∷ []) (1 ∷ 3 ∷ []) 2
    ∷ kept (2 ∷ []) [] (1 ∷ 3 ∷ []) 2
    ∷ kept (0 ∷ 0 ∷ 1 ∷ []) [] (1 ∷ 3 ∷ []) 2
    ∷ kept (0 ∷ 1 ∷ []) [] (1 ∷ 3 ∷ []) 2
    ∷ kept [] (false ∷ true ∷ []) (1 ∷ 3 ∷ []) 2
    ∷ kept [] [] (1 ∷ 2 ∷ []) 2
    ∷ kept [] [] (1 ∷ 3 ∷ []) 1
    ∷ kept [] [] (1 ∷ 3 ∷ []) 3
    ∷ [])
    ≡ false ∷ false ∷ false ∷ false ∷ false ∷ false ∷ false ∷ false ∷ false ∷ []
unfolding word_in_range moving_in_range all_below moving
words_and_directions_out_of_range = refl

-- a survey that the engine's check refuses is out of range; 48 digits are in range, and 49 are not
pub surveys_in_range :
    word_in_range (λ ms. refused 6) (kept [] [] (1 ∷ 3 ∷ []) 2)
    ∷ map (word_in_range (λ ms. given tt)) (fresh_word (replicate 48 2) ∷ fresh_word (replicate 49 2) ∷ [])
    ≡ false ∷ true ∷ false ∷ []
unfolding word_in_range moving_in_range all_below moving
surveys_in_range = refl

-- ---- runs of moves
-- an engine that moves digit 1 up from 0 to 3 and then ends; its state, the notch, is in range up to 3
abbrev raised : ℕ → Handed ℕ Event
raised s =
    cond (ltb s 3) (record { state = suc s; answer = given (moved (record { digit = 1; down = false }) (suc s)) })
    (record { state = s; answer = given ended })

abbrev run : ℕ → ℕ → List ℕ → Running ℕ
run s t out = run_with (λ x. leb x 3) raised s t out

-- two moves from 0, with a byte to spare; two from 2, of which one is made before the end; a state out of range, which comes
-- before the room; two moves into one byte
pub runs_of_an_engine :
    run 0 2 (9 ∷ 9 ∷ 9 ∷ []) ∷ run 2 2 (9 ∷ 9 ∷ 9 ∷ []) ∷ run 4 2 (9 ∷ []) ∷ run 0 2 (9 ∷ []) ∷ []
    ≡ record { state = 2; answer = given (record { made = 2; stop = nothing }); out = 1 ∷ 1 ∷ 9 ∷ [] }
    ∷ record { state = 3; answer = given (record { made = 1; stop = end }); out = 1 ∷ 9 ∷ 9 ∷ [] }
    ∷ record { state = 4; answer = refused 7; out = 9 ∷ [] }
    ∷ record { state = 0; answer = refused 9; out = 9 ∷ [] }
    ∷ []
unfolding run_with run_from move_byte
runs_of_an_engine = refl
