-- The lines that the program `walk` prints (document 01), each with its newline.
use Rattle.std.specs.Prelude.{ℕ, Bool, cond, List, [], ◌∷◌, ◌++◌, ltb, length}
use Rattle.gray_theory.specs.Answers.{Answer, given, refused, fitting}
use Rattle.gray_theory.specs.Calls.{size_call}
use Rattle.text_theory.specs.Ascii.{ascii}
use Rattle.text_theory.specs.Decimals.{decimal}
use Rattle.text_theory.specs.declared.Line.{Line}
use Rattle.text_theory.specs.declared.Line.TheVariants.{Unread, Refused, Long, Sizes, Start, Moved, End}

-- a setting: its notches, sluice n first, joined by points. The list has sluice 1 in front
abbrev pub point_after : List ℕ → List ℕ
point_after [] = []
point_after (b ∷ slower) = ascii "."

unfoldable pub setting_text : List ℕ → List ℕ
setting_text [] = []
setting_text (a ∷ slower) = setting_text slower ++ point_after slower ++ decimal a

abbrev pub direction_text : Bool → List ℕ
direction_text down = cond down (ascii "down") (ascii "up")

-- a line of the walk: rank, setting, sluice moved, direction; rank 0 has `start` for the last two. The first line gives n and N,
-- the last one N − 1. A survey that cannot be read, is refused or is too long has one line, the only one
unfoldable pub line_text : Line → List ℕ → List ℕ
line_text Unread word = ascii "unread\n"
line_text (Refused k) word = ascii "refused " ++ decimal k ++ ascii "\n"
line_text Long word = ascii "long\n"
line_text (Sizes n size) word = ascii "sluices " ++ decimal n ++ ascii " settings " ++ decimal size ++ ascii "\n"
line_text Start word = decimal 0 ++ ascii " " ++ setting_text word ++ ascii " start\n"
line_text (Moved rank digit down) word =
    decimal rank
    ++ ascii " "
    ++ setting_text word
    ++ ascii " "
    ++ decimal digit
    ++ ascii " "
    ++ direction_text down
    ++ ascii "\n"
line_text (End last) word = ascii "end " ++ decimal last ++ ascii "\n"

-- the first line for a line of counts: a refusal, N over 4,096, or n and N
abbrev pub is_long : ℕ → Bool
is_long total = ltb 4096 total

abbrev pub sized_line : ℕ → Answer ℕ → Line
sized_line n (refused k) = Refused k
sized_line n (given total) = cond (is_long total) Long (Sizes n total)

unfoldable pub survey_line : List ℕ → Line
survey_line radices = sized_line (length radices) (size_call radices)

-- a line for an output of `room` bytes
unfoldable pub line_call : Line → List ℕ → ℕ → Answer (List ℕ)
line_call line word room = fitting room (line_text line word)
