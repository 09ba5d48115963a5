-- All that the program `walk` prints for an input (document 01). Its moves are the list's: that the buffered engine makes just
-- these is `fresh_walks_work_ahead` of `ahead_theory`.
use Rattle.std.specs.Prelude.{ℕ, zero, suc, ◌-◌, cond, List, [], ◌++◌}
use Rattle.gray_theory.specs.Answers.{Answer, given, refused}
use Rattle.gray_theory.specs.Radices.{digits}
use Rattle.gray_theory.specs.Words.{member}
use Rattle.gray_theory.specs.Changes.{change}
use Rattle.gray_theory.specs.Calls.{size_call}
use Rattle.text_theory.specs.Surveys.{Input, counts, unread, input_as}
use Rattle.text_theory.specs.Lines.{line_text, is_long, survey_line}
use Rattle.text_theory.specs.declared.Line.TheVariants.{Unread, Start, Moved, End}

-- the lines of t moves, the first of them change j
unfoldable pub move_lines : List ℕ → ℕ → ℕ → List ℕ
move_lines ms j zero = []
move_lines ms j (suc t) =
    line_text (Moved j (change ms j).digit (change ms j).down) (member ms j) ++ move_lines ms (suc j) t

-- a walk of N settings behind its first line: the start, a line for each move, the end
unfoldable pub walk_text : List ℕ → ℕ → List ℕ
walk_text ms total = line_text Start (member ms 0) ++ move_lines ms 1 (total - 1) ++ line_text (End (total - 1)) []

-- a survey that is refused or long has no other line than its first
unfoldable pub survey_text : List ℕ → Answer ℕ → List ℕ
survey_text radices (refused k) = line_text (survey_line radices) []
survey_text radices (given total) =
    line_text (survey_line radices) [] ++ cond (is_long total) [] (walk_text (digits radices) total)

unfoldable pub input_text : Input → List ℕ
input_text unread = line_text Unread []
input_text (counts radices) = survey_text radices (size_call radices)

-- the whole output
unfoldable pub output : List ℕ → List ℕ
output input = input_text (input_as input)
