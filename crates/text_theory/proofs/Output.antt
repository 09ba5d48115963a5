-- Document 01's example of what the program `walk` prints, in full.
use Rattle.std.specs.Prelude.{◌≡◌, refl}
use Rattle.gray_theory.specs.Words.{list, upward, downward, notches, through}
use Rattle.gray_theory.specs.Changes.{difference}
use Rattle.gray_theory.specs.Radices.{size, all_from}
use Rattle.gray_theory.specs.Calls.{size_call}
use Rattle.text_theory.specs.Ascii.{ascii}
use Rattle.text_theory.specs.Decimals.{decimal_in, decimal, all_digits, value_from, is_number}
use Rattle.text_theory.specs.Surveys.{input_as, line_as, first_line, has_newline, fields, is_count, all_counts}
use Rattle.text_theory.specs.Lines.{setting_text, line_text, survey_line}
use Rattle.text_theory.specs.Output.{move_lines, walk_text, survey_text, input_text, output}

-- document 01: input `2 3` prints in full
pub walk_of_2_3 :
    output (ascii "2 3\n")
    ≡ ascii "sluices 2 settings 6\n0 0.0 start\n1 0.1 1 up\n2 0.2 1 up\n3 1.2 2 up\n4 1.1 1 down\n5 1.0 1 down\nend 5\n"
unfolding output input_text survey_text survey_line walk_text move_lines line_text setting_text decimal decimal_in input_as line_as first_line has_newline fields is_count all_counts is_number all_digits value_from size_call size all_from list through notches upward downward difference
walk_of_2_3 = refl
