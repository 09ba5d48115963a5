-- Lines that `walk` reads and does not read, and what it prints for them (document 01); numbers that are read.
use Rattle.std.specs.Prelude.{◌≡◌, refl, true, false, [], ◌∷◌, map, replicate}
use Rattle.gray_theory.specs.Answers.{given, refused}
use Rattle.gray_theory.specs.Radices.{size, all_from}
use Rattle.gray_theory.specs.Words.{list, upward, downward, notches, through}
use Rattle.gray_theory.specs.Calls.{size_call}
use Rattle.text_theory.specs.Ascii.{ascii}
use Rattle.text_theory.specs.Decimals.{decimal_in, decimal, all_digits, value_from, is_number, digit_of}
use Rattle.text_theory.specs.Surveys.{counts, unread, input_as, line_as, first_line, has_newline, fields, is_count, all_counts}
use Rattle.text_theory.specs.Lines.{setting_text, line_text, survey_line, line_call}
use Rattle.text_theory.specs.Output.{output, input_text, survey_text, walk_text, move_lines}
use Rattle.text_theory.specs.declared.Line.TheVariants.{Long, Sizes, Start}

-- counts of one to three digits, up to 255, single spaces, a newline; a newline alone is no sluice; what follows is ignored
pub lines_read :
    map input_as (ascii "\n" ∷ ascii "2 3\n" ∷ ascii "0 10 255\n" ∷ ascii "007\n" ∷ ascii "9\nx\n" ∷ [])
    ≡ counts [] ∷ counts (2 ∷ 3 ∷ []) ∷ counts (0 ∷ 10 ∷ 255 ∷ []) ∷ counts (7 ∷ []) ∷ counts (9 ∷ []) ∷ []
unfolding input_as line_as first_line has_newline fields is_count all_counts is_number all_digits value_from
lines_read = refl

-- no newline; 256; four digits; a space in front, behind, two of them, one alone; the bytes before 0 and behind 9; a comma and
-- a tab for a space; a return before the newline; a count that is none behind one that is
pub lines_unread :
    map input_as
    ([]
    ∷ ascii "2 3"
    ∷ ascii "256\n"
    ∷ ascii "0255\n"
    ∷ ascii " 2\n"
    ∷ ascii "2 \n"
    ∷ ascii "2  3\n"
    ∷ ascii " \n"
    ∷ ascii "/\n"
    ∷ ascii ":\n"
    ∷ ascii "2,3\n"
    ∷ ascii "2\t3\n"
    ∷ ascii "2\r\n"
    ∷ ascii "2 x\n"
    ∷ [])
    ≡ replicate 14 unread
unfolding input_as line_as first_line has_newline fields is_count all_counts is_number all_digits value_from
lines_unread = refl

-- one line, and the only one: text that is not read, no sluice, a count of 0, N over 2^62, N over 4,096
pub one_line_printed :
    map output (ascii "2 3" ∷ ascii "\n" ∷ ascii "0\n" ∷ ascii "255 255 255 255 255 255 255 255\n" ∷ ascii "17 241\n" ∷ [])
    ≡ ascii "unread\n" ∷ ascii "refused 2\n" ∷ ascii "refused 3\n" ∷ ascii "refused 4\n" ∷ ascii "long\n" ∷ []
unfolding output input_text survey_text survey_line walk_text move_lines line_text setting_text decimal decimal_in input_as line_as first_line has_newline fields is_count all_counts is_number all_digits value_from size_call size all_from
one_line_printed = refl

-- a locked sluice alone is a walk of one setting
pub walk_of_1 : output (ascii "1\n") ≡ ascii "sluices 1 settings 1\n0 0 start\nend 0\n"
unfolding output input_text survey_text survey_line walk_text move_lines line_text setting_text decimal decimal_in input_as line_as first_line has_newline fields is_count all_counts is_number all_digits value_from size_call size all_from list through notches upward downward
walk_of_1 = refl

-- N of 4,096 is not long, and 4,097 is
pub long_from_4097 : survey_line (64 ∷ 64 ∷ []) ∷ survey_line (17 ∷ 241 ∷ []) ∷ [] ≡ Sizes 2 4096 ∷ Long ∷ []
unfolding survey_line size_call size all_from
long_from_4097 = refl

-- a line into as many bytes as it has, and into one less
pub a_line_just_fits :
    line_call Start (0 ∷ 0 ∷ []) 12 ∷ line_call Start (0 ∷ 0 ∷ []) 11 ∷ [] ≡ given (ascii "0 0.0 start\n") ∷ refused 9 ∷ []
unfolding line_call line_text setting_text decimal decimal_in
a_line_just_fits = refl

-- numbers: the largest that 64 bits hold, with a zero in front too, and one more; no digit at all; a letter
pub numbers_of_64_bits :
    map is_number
    (ascii "18446744073709551615" ∷ ascii "018446744073709551615" ∷ ascii "18446744073709551616" ∷ [] ∷ ascii "1a" ∷ [])
    ≡ true ∷ true ∷ false ∷ false ∷ false ∷ []
unfolding is_number all_digits value_from
numbers_of_64_bits = refl

-- the digits, and the bytes before and behind them, which are none
pub digits-read : map digit_of (ascii "0123456789/:") ≡ 0 ∷ 1 ∷ 2 ∷ 3 ∷ 4 ∷ 5 ∷ 6 ∷ 7 ∷ 8 ∷ 9 ∷ 10 ∷ 10 ∷ []
unfolding digit_of
digits-read = refl
